use Rattle.iox_tables.proofs.HubStates.Sending.{hints_are_given, states_are_shown}
use Rattle.iox_tables.proofs.hub_states.hints.Goals as goal

pub returns-clause-given : goal.returns-clause-given
returns-clause-given c = hints_are_given

pub returns-clause-states : goal.returns-clause-states
returns-clause-states c = states_are_shown
