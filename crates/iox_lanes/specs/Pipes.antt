-- All lanes from one port to another, as callers see them.
use Rattle.std.specs.Prelude.{◌≡◌, ℕ, Bool, false, List, Option, Some, slice_get, slice_set, replicate}
use Rattle.std.specs.List.{list_any, position_from}
use Rattle.std.specs.Option.{option_map_or}
use Rattle.iox_model.specs.declared.way.RequestState.{RequestState}
use Rattle.iox_model.specs.declared.way.RequestState.TheVariants.{Closed, Named}
use Rattle.iox_model.specs.Messages.{closed_for, hinted_for}
use Rattle.iox_lanes.specs.Lanes.{LaneState, IsSound, empty_lane, has_returned, has_waiting}

-- The lanes from one port to another, and beside them the states of its requests.
pub record PipeState : Type 0 where
  -- the port from which the messages come
  pub sender : ℕ
  pub lanes : List LaneState
  -- of a pipe of requests: the state of the request on each lane of the sender
  pub states : List RequestState

-- nothing was ever delivered, and no request is open
abbrev pub new_pipe : ℕ → ℕ → ℕ → ℕ → ℕ → ℕ → PipeState
new_pipe sender pool lanes buffer limit states = record {
  sender = sender;
  lanes = replicate lanes (empty_lane pool buffer limit);
  states = replicate states Closed;
}

-- ---- one lane of a pipe

-- what the lane of that number says; `none` where there is no such lane
abbrev pub on_lane : {A : Type 0} → (LaneState → A) → A → PipeState → ℕ → A
on_lane f none p lane = option_map_or f (slice_get p.lanes lane) none

-- the pipe after a change of the lane of that number; the same where there is no such lane
abbrev pub with_lane : (LaneState → LaneState) → PipeState → ℕ → PipeState
with_lane f p lane =
    option_map_or (λ l. record p { lanes = slice_set p.lanes lane (f l) }) (slice_get p.lanes lane)
    p

-- something waits on some lane
abbrev pub has_waiting_on_any : PipeState → Bool
has_waiting_on_any p = list_any has_waiting p.lanes

-- the lowest lane on which something is left to get back
abbrev pub lane_to_get : PipeState → Option ℕ
lane_to_get p = position_from has_returned 0 p.lanes

-- the lane of that number is as each lane is, if there is one
abbrev pub IsSoundAt : List LaneState → ℕ → Type 0
IsSoundAt lanes lane = (l : LaneState) → slice_get lanes lane ≡ Some l → IsSound l

-- ---- one request state of a pipe

-- the pipe after a change of the request state of that lane; the same where there is none
abbrev pub with_state : (RequestState → RequestState) → PipeState → ℕ → PipeState
with_state f p lane =
    option_map_or (λ s. record p { states = slice_set p.states lane (f s) })
    (slice_get p.states lane) p

-- the request is open on that lane
abbrev pub opened : PipeState → ℕ → ℕ → PipeState
opened p lane id = with_state (λ s. Named id false) p lane

-- it is closed, if it was open
abbrev pub closed : PipeState → ℕ → ℕ → PipeState
closed p lane id = with_state (λ s. closed_for s id) p lane

-- its client lost interest, if it is open
abbrev pub hinted : PipeState → ℕ → ℕ → PipeState
hinted p lane id = with_state (λ s. hinted_for s id) p lane
