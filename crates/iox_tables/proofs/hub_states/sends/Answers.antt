use Rattle.iox_tables.proofs.HubStates.SendSteps.{pushing_sends_are_shown, sends_are_shown}
use Rattle.iox_tables.proofs.hub_states.sends.Goals as goal

pub returns-clause-plain : goal.returns-clause-plain
returns-clause-plain c = sends_are_shown

pub returns-clause-pushing : goal.returns-clause-pushing
returns-clause-pushing c = pushing_sends_are_shown
