use Rattle.iox_tables.proofs.HubStates.Steps.{deliveries_are_shown, emptying_is_shown, full_is_shown, pushes_are_shown}
use Rattle.iox_tables.proofs.hub_states.steps_of_senders.Goals as goal

pub returns-clause-empties : goal.returns-clause-empties
returns-clause-empties c = emptying_is_shown

pub returns-clause-delivers : goal.returns-clause-delivers
returns-clause-delivers c = deliveries_are_shown

pub returns-clause-pushes : goal.returns-clause-pushes
returns-clause-pushes c = pushes_are_shown

pub returns-clause-full : goal.returns-clause-full
returns-clause-full c = full_is_shown
