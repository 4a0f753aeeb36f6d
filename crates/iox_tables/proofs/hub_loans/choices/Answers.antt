use Rattle.iox_tables.proofs.HubLoans.Loaning.{each_choice_may_be, loans_may_hold_defaults}
use Rattle.iox_tables.proofs.HubLoans.Open.{some_payload_may_be_held}
use Rattle.iox_tables.proofs.hub_loans.choices.Goals as goal

pub returns-clause-lanes : goal.returns-clause-lanes
returns-clause-lanes c = each_choice_may_be

pub returns-clause-defaults : goal.returns-clause-defaults
returns-clause-defaults c = loans_may_hold_defaults

pub returns-clause-some : goal.returns-clause-some
returns-clause-some c = some_payload_may_be_held
