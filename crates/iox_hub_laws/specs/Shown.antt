-- The state that a hub shows, and the histories that may have led to it.
use Rattle.std.specs.Prelude.{List}
use Rattle.iox_model.specs.States.{Handle, State}
use Rattle.iox_model.specs.Weaves.{Beat}
use Rattle.iox_laws.specs.RunLaws.Traces.{beats_of_reached}
use Rattle.iox_tables.specs.HubStates.Releases.{handle_shown}
use Rattle.iox_tables.specs.HubStates.Tables.{HandleState}
use Rattle.iox_hub.specs.Hubs.{HubState, IsReached, given_by, nothing_given, state_of_hub}

-- the state that the hub shows, without nodes
abbrev pub shown : HubState → State
shown h = state_of_hub (nothing_given h) h

-- the handle of the machine, with its message as the hub has it
abbrev pub handle_of : HubState → HandleState → Handle
handle_of h k = handle_shown (given_by (nothing_given h) h) h.control.tables k

-- what happened in a history that led to the state that the hub shows
abbrev pub beats_of : (h : HubState) → IsReached h → List Beat
beats_of h r = beats_of_reached (state_of_hub r.0 h) r.1
