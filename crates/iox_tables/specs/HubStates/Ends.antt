-- What ends of calls do to the tables of a hub: to handles, counts, slots, and what is given back.
use Rattle.std.specs.Prelude.{◌≡◌, ℕ, ◌+◌, ◌-◌, true, false, not, ◌&&◌, if◌then◌else◌, ◌==◌, List, [], ◌∷◌, ◌++◌, filter, Option, Some, None, ⊤}
use Rattle.iox_model.specs.declared.way.Way.{Way}
use Rattle.iox_model.specs.Counts.{added, called, changed, dropped, lent, numbered, with_fixed}
use Rattle.iox_model.specs.Maps.{put}
use Rattle.iox_model.specs.Moments.{moved, GiveBack}
use Rattle.iox_model.specs.States as m
use Rattle.iox_lanes.specs.Lanes.{LaneState, is_taken, released}
use Rattle.iox_tables.specs.HubStates.Tables.{HandleState, HubTables, PoolState, labels_of, owner_of, slot_at}
use Rattle.iox_tables.specs.HubStates.Ways.{lane_on, with_port}
use Rattle.iox_tables.specs.HubStates.Shown.{MessagesByPlace}
use Rattle.iox_tables.specs.HubStates.States.{Given, node_id_of, port_id_of, fixed_of, handle_of, message_of, state_shown}
use Rattle.iox_tables.specs.HubStates.Changes.{with_lanes, OfEachLane}
use Rattle.iox_tables.specs.HubStates.Steps.{HasSameMessages, is_there}

-- ---- handles

-- the handles, with the one of that node and number as it is now
abbrev pub changed_handles : HandleState → List HandleState → List HandleState
changed_handles h [] = []
changed_handles h (k ∷ ks) =
    if (k.node == h.node) && (k.number == h.number) then h ∷ ks else k ∷ changed_handles h ks

-- the handles but the node's of that number
abbrev pub dropped_handles : ℕ → ℕ → List HandleState → List HandleState
dropped_handles node n hs = filter (λ k. not ((k.node == node) && (k.number == n))) hs

-- the handle of that number is as it is now
abbrev pub with_changed : HubTables → HandleState → HubTables
with_changed t h = record t { handles = changed_handles h t.handles }

-- the node has the handle no more
abbrev pub with_dropped : HubTables → ℕ → ℕ → HubTables
with_dropped t node n = record t { handles = dropped_handles node n t.handles }

-- there is one handle more, and its number is used
abbrev pub with_added : HubTables → HandleState → HubTables
with_added t h = record t { handles = t.handles ++ h ∷ []; next_number = t.next_number + 1 }

-- Handles are added, changed and dropped as the machine's are.
pub record HandlesAreShown (x : Given) (t : HubTables) (h : HandleState) : Type 0 where
  pub adds :
      with_fixed (state_shown x t)
      (added (numbered (fixed_of x t) h.node) (handle_of x (message_of x t.pools) h))
      ≡ state_shown x (with_added t h)
  pub changes :
      with_fixed (state_shown x t)
      (changed (fixed_of x t) (handle_of x (message_of x t.pools) h))
      ≡ state_shown x (with_changed t h)
  pub drops :
      with_fixed (state_shown x t)
      (dropped (fixed_of x t) (handle_of x (message_of x t.pools) h))
      ≡ state_shown x (with_dropped t h.node h.number)

-- It is so of each handle.
abbrev pub EachHandleIsShown : Type 0
EachHandleIsShown = (x : Given) (t : HubTables) (h : HandleState) → HandlesAreShown x t h

-- ---- counts

-- one more call is counted
abbrev pub with_call : HubTables → HubTables
with_call t = record t { calls = t.calls + 1 }

-- one more loan of the port is counted
abbrev pub with_loan : HubTables → ℕ → HubTables
with_loan t n = record t { ports = with_port (λ p. record p { loans = p.loans + 1 }) t.ports n }

-- Calls, and loans of a connected port, are counted as the machine's are.
pub record CountsAreShown (x : Given) (t : HubTables) (n : ℕ) : Type 0 where
  pub calls : with_fixed (state_shown x t) (called (fixed_of x t)) ≡ state_shown x (with_call t)
  pub loans :
      is_there t.ports n ≡ true
      → with_fixed (state_shown x t) (lent (fixed_of x t) n) ≡ state_shown x (with_loan t n)

-- It is so of each port.
abbrev pub EachCountIsShown : Type 0
EachCountIsShown = (x : Given) (t : HubTables) (n : ℕ) → CountsAreShown x t n

-- ---- slots

-- the same but for the words of messages
pub record HasSameSettings (x x' : Given) : Type 0 where
  pub members : x.members ≡ x'.members
  pub acts : x.acts ≡ x'.acts
  pub handler : x.handler ≡ x'.handler
  pub request : x.request ≡ x'.request
  pub response : x.response ≡ x'.response

-- it is so of each of the handles
abbrev pub OfEachHandle : (HandleState → Type 0) → List HandleState → Type 0
OfEachHandle P [] = ⊤
OfEachHandle P (h ∷ hs) = P h × OfEachHandle P hs

-- the handle shows the same
abbrev pub ShowsSame : Given → MessagesByPlace → Given → MessagesByPlace → HandleState → Type 0
ShowsSame x old x' new h = handle_of x old h ≡ handle_of x' new h

-- Where a message is on no lane and in no handle, its slot and its words may become others: the
-- state that is shown stays. So may any holders.
abbrev pub FreeSlotsMayChange : Type 0
FreeSlotsMayChange =
    (x x' : Given) (t : HubTables) (pools : List (Option PoolState)) → HasSameSettings x x'
    → OfEachLane (HasSameMessages (message_of x t.pools) (message_of x' pools)) (lane_on t.ports)
    → OfEachHandle (ShowsSame x (message_of x t.pools) x' (message_of x' pools)) t.handles
    → state_shown x t ≡ state_shown x' (record t { pools = pools })

-- Pools that have the same messages in the same slots, but perhaps other holders.
pub record DifferInHolders (old new : List (Option PoolState)) : Type 0 where
  pub owners : (place : ℕ) → owner_of old place ≡ owner_of new place
  pub ids :
      (place : ℕ)
      → (node_id_of old place ≡ node_id_of new place)
      × (port_id_of old place ≡ port_id_of new place)
  pub serials : (place k : ℕ) → (slot_at old place k).serial ≡ (slot_at new place k).serial
  pub labels : (place k : ℕ) → labels_of old place k ≡ labels_of new place k
  pub elements : (place k : ℕ) → (slot_at old place k).elements ≡ (slot_at new place k).elements

-- Holders are not shown: as they change the state stays.
abbrev pub HoldersAreNotShown : Type 0
HoldersAreNotShown =
    (x : Given) (t : HubTables) (pools : List (Option PoolState)) → DifferInHolders t.pools pools
    → state_shown x t ≡ state_shown x (record t { pools = pools })

-- ---- what is given back

-- the receiver has one message of the way less
abbrev pub borrows_less : m.Fixed → Way → m.Fixed
borrows_less f w = record f { borrowed = put f.borrowed w (f.borrowed w - 1) }

-- The receiver of a message gives it back, and has one less; where the pair is no more, nothing
-- changes.
pub record GiveBackIsShown (x : Given) (t : HubTables) (w : Way) (serial : ℕ) : Type 0 where
  pub there :
      (l : LaneState) (k : ℕ) → lane_on t.ports w ≡ Some l → is_taken l k ≡ true
      → (message_of x t.pools l.pool k).serial ≡ serial
      → with_fixed (moved (state_shown x t) (GiveBack w serial))
      (borrows_less (fixed_of x t) w)
      ≡ state_shown x (with_lanes (λ l. released l k) t (w ∷ []))
  pub gone :
      lane_on t.ports w ≡ None → is_there t.ports w.sender ≡ false
      → with_fixed (moved (state_shown x t) (GiveBack w serial)) (borrows_less (fixed_of x t) w)
      ≡ state_shown x t

-- It is so on each way.
abbrev pub EachGiveBackIsShown : Type 0
EachGiveBackIsShown =
    (x : Given) (t : HubTables) (w : Way) (serial : ℕ) → GiveBackIsShown x t w serial
