use Rattle.iox_tables.proofs.HubLoans.Asked.{awaited_are_named, connections_are_told, each_is_read, each_value_is_there, hints_are_told}
use Rattle.iox_tables.proofs.hub_loans.questions.Goals as goal

pub returns-clause-awaited : goal.returns-clause-awaited
returns-clause-awaited c = awaited_are_named

pub returns-clause-connected : goal.returns-clause-connected
returns-clause-connected c = connections_are_told

pub returns-clause-hinted : goal.returns-clause-hinted
returns-clause-hinted c = hints_are_told

pub returns-clause-read : goal.returns-clause-read
returns-clause-read c = each_is_read

pub returns-clause-there : goal.returns-clause-there
returns-clause-there c = each_value_is_there
