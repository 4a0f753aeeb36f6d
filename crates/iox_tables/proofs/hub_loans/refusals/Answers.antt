use Rattle.iox_tables.proofs.HubLoans.Refusing.{calls_are_refused, names_are_refused}
use Rattle.iox_tables.proofs.hub_loans.refusals.Goals as goal

pub returns-clause-names : goal.returns-clause-names
returns-clause-names c = names_are_refused

pub returns-clause-calls : goal.returns-clause-calls
returns-clause-calls c = calls_are_refused
