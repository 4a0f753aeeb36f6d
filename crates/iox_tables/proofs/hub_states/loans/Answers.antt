use Rattle.iox_tables.proofs.HubStates.Asking.{lending_is_shown, loans_are_handed_out}
use Rattle.iox_tables.proofs.hub_states.loans.Goals as goal

pub returns-clause-lends : goal.returns-clause-lends
returns-clause-lends c = lending_is_shown

pub returns-clause-hands_out : goal.returns-clause-hands_out
returns-clause-hands_out c = loans_are_handed_out
