-- What a receive leaves of a hub's tables, and answers.
use Rattle.std.specs.Prelude.{◌≡◌, ℕ, Some}
use Rattle.iox_lanes.specs.declared.incoming.Visits.{Visits}
use Rattle.iox_lanes.specs.declared.incoming.Visits.TheVariants.{Got, AtLimit, Nothing}
use Rattle.iox_model.specs.declared.call.Call.TheVariants.{Receive}
use Rattle.iox_model.specs.declared.kind.Role.{Role}
use Rattle.iox_model.specs.WholeCalls.{IsWholeCall}
use Rattle.iox_hub_ports.specs.HubStates.Ends.{with_call}
use Rattle.iox_hub_ports.specs.HubStates.Receives.{request_reply, response_reply, with_request, with_response}
use Rattle.iox_hub_ports.specs.HubStates.States.{Given, state_shown}
use Rattle.iox_hub_ports.specs.HubStates.Tables.{HandleState}
use Rattle.iox_hub_ports.specs.HubStates.Wirings.{handle_in}
use Rattle.iox_control.specs.declared.received.Received.{Received}
use Rattle.iox_control.specs.Controls.{ControlState, IsButHolders, IsControl, with_got, with_tables}
use Rattle.iox_control.specs.Replies.{reply_of_receive}

-- what is left to do for a port of that role once its visits are made: a message that was got has a
-- handle, and a call that is not refused is counted
abbrev pub with_rest : ControlState → ℕ → Role → ℕ → Visits → ControlState
with_rest c node role port (Got sender pool k) = with_got c node role port pool k
with_rest c node role port AtLimit = c
with_rest c node role port Nothing = with_tables c (with_call c.tables)

-- A server's receive: its answer, and what it leaves.
pub record ReceivesRequest (c : ControlState) (node server : ℕ) (received : Received) (new : ControlState)
    : Type 0 where
  pub reply : reply_of_receive received ≡ request_reply c.tables server
  pub left : IsButHolders (with_request c.tables node server) new.tables
  pub order : IsControl new
  pub port_room : new.port_room ≡ c.port_room
  pub whole : (x : Given) → IsWholeCall (state_shown x c.tables) node
      (Receive server) (reply_of_receive received) (state_shown x new.tables)

-- The receive of a pending response.
pub record ReceivesResponse (c : ControlState) (node number : ℕ) (received : Received) (new : ControlState)
    : Type 0 where
  pub reply : (h : HandleState) → handle_in c.tables.handles node number ≡ Some h
      → reply_of_receive received ≡ response_reply c.tables h
  pub left : (h : HandleState) → handle_in c.tables.handles node number ≡ Some h
      → IsButHolders (with_response c.tables node h) new.tables
  pub order : IsControl new
  pub port_room : new.port_room ≡ c.port_room
  pub whole : (x : Given) → IsWholeCall (state_shown x c.tables) node
      (Receive number) (reply_of_receive received) (state_shown x new.tables)
