-- A lane, as its callers see it: lists of places in its sender's pool.
use Rattle.std.specs.Prelude.{ℕ, ◌+◌, ◌-◌, ◌<◌, ◌≤◌, ◌^◌, Bool, ◌&&◌, if◌then◌else◌, ◌==◌, List, [], ◌∷◌, ◌++◌, length, drop, filter, Option, slice_get, is_some, nat_le, nat_lt, not}
use Rattle.std.specs.List.{position_from, swap_remove}
use Rattle.std.specs.Option.{option_map_or}
use Rattle.iox_model.specs.Maps.{is_empty}
use Rattle.iox_lanes.specs.Cells.{CellsState}

-- One lane: where its messages are, how many it may have, and how many it ever had.
pub record LaneState : Type 0 where
  -- which pool the places are of
  pub pool : ℕ
  -- the places of the messages that wait, oldest first
  pub waiting : List ℕ
  -- the places that its receiver gave back and its sender did not get back, oldest first
  pub returned : List ℕ
  -- the places of the messages that its receiver has
  pub taken : List ℕ
  -- how many may wait at once, and how many its receiver may have at once
  pub buffer : ℕ
  pub limit : ℕ
  -- how many messages were ever delivered here, and how many were ever given back
  pub deliveries : ℕ
  pub returns : ℕ

-- ---- what is so of each lane

-- how many were delivered, and not got back by their sender
abbrev pub outstanding : LaneState → ℕ
outstanding l = length l.waiting + length l.returned + length l.taken

-- No more wait than may, its receiver has no more than it may, and there is room to give back each
-- message that is here. What is given back was delivered.
pub record IsSound (l : LaneState) : Type 0 where
  pub waits : length l.waiting ≤ l.buffer
  pub has : length l.taken ≤ l.limit
  pub fits : outstanding l ≤ l.buffer + l.limit
  pub comes : l.returns + length l.taken + length l.waiting ≤ l.deliveries
  pub counts : l.deliveries < 2 ^ 64

-- ---- what is asked of a lane

-- something waits
abbrev pub has_waiting : LaneState → Bool
has_waiting l = not (is_empty l.waiting)

-- as many wait as may
abbrev pub is_full : LaneState → Bool
is_full l = nat_le l.buffer (length l.waiting)

-- its receiver has as many as it may
abbrev pub is_at_limit : LaneState → Bool
is_at_limit l = nat_le l.limit (length l.taken)

-- fewer wait than may, there is room to give one more back, and deliveries can still be counted
abbrev pub has_room : LaneState → Bool
has_room l =
    nat_lt (length l.waiting) l.buffer && nat_lt (outstanding l) (l.buffer + l.limit)
    && nat_lt l.deliveries (2 ^ 64 - 1)

-- something that was given back is left to get back
abbrev pub has_returned : LaneState → Bool
has_returned l = not (is_empty l.returned)

-- how often the message in this place was given back, and is left to get back
abbrev pub returned_times : LaneState → ℕ → ℕ
returned_times l place = length (filter (λ n. n == place) l.returned)

-- the oldest message that waits
abbrev pub oldest : LaneState → Option ℕ
oldest l = slice_get l.waiting 0

-- where the place stands among those that the receiver has
abbrev pub rank_in : List ℕ → ℕ → Option ℕ
rank_in places k = position_from (λ n. n == k) 0 places

-- the receiver has the message in this place
abbrev pub is_taken : LaneState → ℕ → Bool
is_taken l k = is_some (rank_in l.taken k)

-- ---- how a lane changes

-- nothing was ever delivered
abbrev pub empty_lane : ℕ → ℕ → ℕ → LaneState
empty_lane pool buffer limit = record {
  pool = pool;
  waiting = [];
  returned = [];
  taken = [];
  buffer = buffer;
  limit = limit;
  deliveries = 0;
  returns = 0;
}

-- the message is last in line
abbrev pub delivered : LaneState → ℕ → LaneState
delivered l k = record l { waiting = l.waiting ++ k ∷ []; deliveries = l.deliveries + 1 }

-- it is last in line, where there is room
abbrev pub offered : LaneState → ℕ → LaneState
offered l k = if has_room l then delivered l k else l

-- the oldest waits no more
abbrev pub without_oldest : LaneState → LaneState
without_oldest l = record l { waiting = drop 1 l.waiting }

-- the receiver has this one too
abbrev pub with_taken : LaneState → ℕ → LaneState
with_taken l k = record l { taken = l.taken ++ k ∷ [] }

-- this one is given back
abbrev pub with_returned : LaneState → ℕ → LaneState
with_returned l k = record l { returned = l.returned ++ k ∷ []; returns = l.returns + 1 }

-- the receiver has the oldest, if any waits
abbrev pub oldest_taken : LaneState → LaneState
oldest_taken l = option_map_or (λ k. with_taken (without_oldest l) k) (oldest l) l

-- the oldest is given back unread, if any waits
abbrev pub oldest_returned : LaneState → LaneState
oldest_returned l = option_map_or (λ k. with_returned (without_oldest l) k) (oldest l) l

-- the receiver has the message no more; the last that it has stands where that stood
abbrev pub without_taken : LaneState → ℕ → LaneState
without_taken l k =
    option_map_or (λ i. record l { taken = swap_remove l.taken i k }) (rank_in l.taken k) l

-- the receiver has the message no more, and gave it back
abbrev pub released : LaneState → ℕ → LaneState
released l k = if is_taken l k then with_returned (without_taken l k) k else l

-- its sender has the oldest of those given back again
abbrev pub without_returned : LaneState → LaneState
without_returned l = record l { returned = drop 1 l.returned }

-- ---- a lane that is taken apart

-- the places of all messages on the lane: given back, waiting, and those that its receiver has
abbrev pub places : LaneState → List ℕ
places l = l.returned ++ (l.waiting ++ l.taken)

-- the first of them is on the lane no more
abbrev pub without_first : LaneState → LaneState
without_first l =
    if has_returned l then without_returned l
    else (if has_waiting l then without_oldest l else record l { taken = drop 1 l.taken })

-- ---- only for proofs of this crate

-- one message waits no more, and is neither taken nor given back yet
abbrev pub HasOneInHand : LaneState → Type 0
HasOneInHand l =
    (outstanding l < l.buffer + l.limit)
    × (l.returns + length l.taken + length l.waiting < l.deliveries)

-- the lane that cells, a list and numbers show
abbrev pub lane_of : ℕ → CellsState → CellsState → List ℕ → ℕ → ℕ → ℕ → LaneState
lane_of pool waiting returned taken limit deliveries returns = record {
  pool = pool;
  waiting = waiting.places;
  returned = returned.places;
  taken = taken;
  buffer = waiting.capacity;
  limit = limit;
  deliveries = deliveries;
  returns = returns;
}
