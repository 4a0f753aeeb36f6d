-- What lanes show, by what the messages in their places are.
use Rattle.std.specs.Prelude.{ℕ, Bool, false, ◌||◌, if◌then◌else◌, ◌==◌, List, [], length, map}
use Rattle.std.specs.List.{list_any}
use Rattle.std.specs.Option.{option_map_or}
use Rattle.iox_model.specs.declared.way.Way.{Way}
use Rattle.iox_model.specs.declared.way.RequestState.{RequestState}
use Rattle.iox_model.specs.declared.way.RequestState.TheVariants.{Closed}
use Rattle.iox_model.specs.Messages.{Message}
use Rattle.iox_model.specs.Peers.{is_connected_port}
use Rattle.iox_model.specs.States.{Members, Fixed, State}
use Rattle.iox_lanes.specs.Lanes.{LaneState}
use Rattle.iox_tables.specs.HubStates.Ways.{OnWays}

-- the message in each place of each pool
abbrev pub MessagesByPlace : Type 0
MessagesByPlace = ℕ → ℕ → Message

-- the messages that wait
abbrev pub waiting_in : MessagesByPlace → LaneState → List Message
waiting_in message l = map (message l.pool) l.waiting

-- the serials of messages in these places of a pool
abbrev pub serials_in : MessagesByPlace → ℕ → List ℕ → List ℕ
serials_in message pool ks = map (λ k. (message pool k).serial) ks

-- the serials of those that were given back
abbrev pub returned_in : MessagesByPlace → LaneState → List ℕ
returned_in message l = serials_in message l.pool l.returned

-- in one of these places is the message of that serial
abbrev pub is_among : MessagesByPlace → ℕ → List ℕ → ℕ → Bool
is_among message pool ks serial = list_any (λ k. (message pool k).serial == serial) ks

-- the message of that serial is on the lane: it waits, its receiver has it, or it was given back
abbrev pub is_out_in : MessagesByPlace → LaneState → ℕ → Bool
is_out_in message l serial =
    is_among message l.pool l.returned serial
    || (is_among message l.pool l.waiting serial || is_among message l.pool l.taken serial)

-- what each way's lane gives; `none` where there is no lane
abbrev pub by_lane : {A : Type 0} → (LaneState → A) → A → OnWays LaneState → Way → A
by_lane f none lanes w = option_map_or f (lanes w) none

-- the same where the sender is connected, so that it still counts what it delivered
abbrev pub by_counted : {A : Type 0} → Fixed → (LaneState → A) → A → OnWays LaneState → Way → A
by_counted fixed f none lanes w =
    if is_connected_port fixed w.sender then by_lane f none lanes w else none

-- how many messages the receiver of each way has
abbrev pub borrowed_in : OnWays LaneState → Way → ℕ
borrowed_in lanes = by_lane (λ l. length l.taken) 0 lanes

-- the request state of each way; it is closed where there is none, and where the client is gone
abbrev pub state_in : Fixed → OnWays RequestState → Way → RequestState
state_in fixed states w =
    if is_connected_port fixed w.receiver then option_map_or (λ s. s) (states w) Closed else Closed

-- the state of the machine that lanes and request states show
abbrev pub shown :
    Members → Fixed → MessagesByPlace → OnWays LaneState → OnWays RequestState → State
shown members fixed message lanes states = record {
  members = members;
  fixed = fixed;
  waiting = by_lane (waiting_in message) [] lanes;
  returned = by_counted fixed (returned_in message) [] lanes;
  in_hand = λ w. [];
  delivered = by_counted fixed (is_out_in message) (λ k. false) lanes;
  request_state = state_in fixed states;
}
