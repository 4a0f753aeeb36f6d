use Rattle.iox_tables.proofs.HubStates.Steps.{closes_are_shown, hints_are_shown, opens_are_shown, waiting_is_shown}
use Rattle.iox_tables.proofs.hub_states.steps_of_states.Goals as goal

pub returns-clause-opens : goal.returns-clause-opens
returns-clause-opens c = opens_are_shown

pub returns-clause-closes : goal.returns-clause-closes
returns-clause-closes c = closes_are_shown

pub returns-clause-hints : goal.returns-clause-hints
returns-clause-hints c = hints_are_shown

pub returns-clause-waits : goal.returns-clause-waits
returns-clause-waits c = waiting_is_shown
