-- What comes to one port, as its callers see it.
use Rattle.std.specs.Prelude.{◌≡◌, ℕ, Bool, false, ◌==◌, List, [], ◌∷◌, ◌++◌, if◌then◌else◌, drop, length, nat_lt, Option, Some, None, slice_get, slice_set}
use Rattle.std.specs.List.{list_any, position_from, remove}
use Rattle.std.specs.Option.{option_map_or}
use Rattle.iox_lanes.specs.declared.wanted.Wanted.{Wanted}
use Rattle.iox_lanes.specs.Lanes.{LaneState, has_waiting}
use Rattle.iox_lanes.specs.Pipes.{PipeState, on_lane, with_lane}
use Rattle.iox_lanes.specs.Searches.{LabelsByPlace}
use Rattle.iox_lanes.specs.Visited.{all_visited}

-- The pipes to one port, and how many there may be.
pub record IncomingState : Type 0 where
  -- how many pipes there is room for
  pub most : ℕ
  -- a pipe from each port that is connected, in the order in which they came
  pub pipes : List PipeState

-- no port is connected
abbrev pub no_pipes : ℕ → IncomingState
no_pipes most = record { most = most; pipes = [] }

-- where the first pipe from this sender stands
abbrev pub rank_from : List PipeState → ℕ → Option ℕ
rank_from ps sender = position_from (λ p. p.sender == sender) 0 ps

-- the rank of the first pipe on which something waits on that lane
abbrev pub first_waiting : List PipeState → ℕ → Option ℕ
first_waiting ps lane = position_from (λ p. on_lane has_waiting false p lane) 0 ps

-- the pipe of that rank, if there is one, is the first from its sender
abbrev pub IsFirstAt : List PipeState → ℕ → Type 0
IsFirstAt ps rank = (p : PipeState) → slice_get ps rank ≡ Some p → rank_from ps p.sender ≡ Some rank

-- there is room for one more pipe
abbrev pub has_room_for : IncomingState → Bool
has_room_for c = nat_lt (length c.pipes) c.most

-- one more port is connected, where there is room
abbrev pub connected : IncomingState → PipeState → IncomingState
connected c p = if has_room_for c then record c { pipes = c.pipes ++ p ∷ [] } else c

-- the pipe of that rank is no more
abbrev pub disconnected : IncomingState → ℕ → IncomingState
disconnected c rank =
    option_map_or (λ _. record c { pipes = remove c.pipes rank }) (slice_get c.pipes rank) c

-- ---- pipes that are kept

-- one more is kept, as the last; where there is no room the oldest is given up for it, and where
-- there is room for none the new one is
abbrev pub with_kept : IncomingState → PipeState → IncomingState
with_kept c p =
    if has_room_for c then record c { pipes = c.pipes ++ p ∷ [] }
    else (if nat_lt 0 c.most then record c { pipes = drop 1 c.pipes ++ p ∷ [] } else c)

-- the pipe that is given up
abbrev pub given_up_for : IncomingState → PipeState → Option PipeState
given_up_for c p =
    if has_room_for c then None else (if nat_lt 0 c.most then slice_get c.pipes 0 else Some p)

-- what the pipe of that rank says; `none` where there is no such pipe
abbrev pub on_pipe : {A : Type 0} → (PipeState → A) → A → IncomingState → ℕ → A
on_pipe f none c rank = option_map_or f (slice_get c.pipes rank) none

-- what comes in after a change of the pipe of that rank; the same where there is no such pipe
abbrev pub with_pipe : (PipeState → PipeState) → IncomingState → ℕ → IncomingState
with_pipe f c rank =
    option_map_or (λ p. record c { pipes = slice_set c.pipes rank (f p) }) (slice_get c.pipes rank)
    c

-- what the lane of that number says, of the pipe of that rank; `none` where there is no such lane
abbrev pub on_lane_of : {A : Type 0} → (LaneState → A) → A → IncomingState → ℕ → ℕ → A
on_lane_of f none c rank lane = on_pipe (λ p. on_lane f none p lane) none c rank

-- what comes in after a change of that lane; the same where there is no such lane
abbrev pub with_lane_of : (LaneState → LaneState) → IncomingState → ℕ → ℕ → IncomingState
with_lane_of f c rank lane = with_pipe (λ p. with_lane f p lane) c rank

-- ---- the first pipe from a sender

-- what it says; `none` where there is no such pipe
abbrev pub on_pipe_by : {A : Type 0} → (PipeState → A) → A → IncomingState → ℕ → A
on_pipe_by f none c sender =
    option_map_or (λ rank. on_pipe f none c rank) (rank_from c.pipes sender) none

-- what comes in after a change of it; the same where there is no such pipe
abbrev pub with_pipe_by : (PipeState → PipeState) → IncomingState → ℕ → IncomingState
with_pipe_by f c sender =
    option_map_or (λ rank. with_pipe f c rank) (rank_from c.pipes sender) c

-- ---- all pipes

-- something waits on the lane of that number, from some sender
abbrev pub has_waiting_from_any : IncomingState → ℕ → Bool
has_waiting_from_any c lane = list_any (λ p. on_lane has_waiting false p lane) c.pipes

-- what comes in after visits to the lanes of that number
abbrev pub all_visited_of : Wanted → LabelsByPlace → ℕ → IncomingState → IncomingState
all_visited_of wanted labels lane c =
    record c { pipes = all_visited wanted labels lane c.pipes }
