-- When the pool of a port is dry: exactly where each of its slots is kept.
use Rattle.std.specs.Prelude.{◌≡◌, ℕ, ◌<◌, Bool, true, false, ◌&&◌, ◌||◌, ◌==◌, Some}
use Rattle.std.specs.List.{list_all, list_any, range_with_len}
use Rattle.std.specs.Option.{option_map_or}
use Rattle.iox_model.specs.declared.way.Way.{Way}
use Rattle.iox_model.specs.Handles.{is_own}
use Rattle.iox_model.specs.Maps.{has_number}
use Rattle.iox_lanes.specs.Lanes.{LaneState}
use Rattle.iox_tables.specs.HubStates.Tables.{HandleState, HubTables, PortState, port_in, slot_at}
use Rattle.iox_tables.specs.HubStates.Ways.{lane_on}
use Rattle.iox_tables.specs.HubStates.States.{Given, message_of}
use Rattle.iox_tables.specs.HubStates.Changes.{HasEachOnce, OfEachLane}
use Rattle.iox_tables.specs.HubStates.Ends.{OfEachHandle}
use Rattle.iox_tables.specs.HubStates.Steps.{places_on}
use Rattle.iox_tables.specs.HubLoans.Counts.{AreOnNodes}
use Rattle.iox_tables.specs.HubLoans.Lenders.{is_pool_dry, is_pool_to_be_dry, ways_by, with_got_back}
use Rattle.iox_tables.specs.HubLoans.Slots.{IsUnused, is_place}

-- ---- who has a slot of a port's pool

-- a loan or a pending response of the port has the message
abbrev pub is_slot_held : HubTables → PortState → ℕ → Bool
is_slot_held t p k =
    list_any
    (λ h. (h.port == p.number) && (is_own h.kind && is_place p.pool k h.pool h.slot)) t.handles

-- the message is on a lane from the port
abbrev pub is_slot_out : HubTables → PortState → ℕ → Bool
is_slot_out t p k =
    list_any (λ w. option_map_or (λ l. has_number k (places_on l)) (lane_on t.ports w) false)
    (ways_by p.role t p.number)

-- the port keeps the message
abbrev pub is_slot_kept : HubTables → PortState → ℕ → Bool
is_slot_kept t p k = is_slot_held t p k || is_slot_out t p k

-- the serial of the message in that slot
abbrev pub serial_in : HubTables → PortState → ℕ → ℕ
serial_in t p k = (slot_at t.pools p.pool k).serial

-- ---- what is so of them

-- If the handle is a loan or a pending response of the port, its message is in the port's pool.
abbrev pub HoldsItsOwn : PortState → HandleState → Type 0
HoldsItsOwn p h =
    h.port ≡ p.number → is_own h.kind ≡ true → (h.pool ≡ p.pool) × (h.slot < p.size)

-- The messages on the lane are in the port's pool.
abbrev pub CarriesIts : PortState → LaneState → Type 0
CarriesIts p l =
    (l.pool ≡ p.pool) × ((k : ℕ) → has_number k (places_on l) ≡ true → k < p.size)

-- What the port keeps is in its pool, each message with a serial of its own, below the count of its
-- loans.
pub record KeepsItsOwn (t : HubTables) (p : PortState) : Type 0 where
  pub handles : OfEachHandle (HoldsItsOwn p) t.handles
  pub lanes :
      (w : Way) (l : LaneState) → lane_on t.ports w ≡ Some l → w.sender ≡ p.number
      → CarriesIts p l
  pub apart :
      (j k : ℕ) → is_slot_kept t p j ≡ true → is_slot_kept t p k ≡ true
      → serial_in t p j ≡ serial_in t p k → j ≡ k
  pub below : (k : ℕ) → is_slot_kept t p k ≡ true → serial_in t p k < p.loans

-- The pool of a port is dry exactly where the port, once it got all back, keeps each of its slots.
abbrev pub DryPoolsAreKept : Type 0
DryPoolsAreKept =
    (x : Given) (t : HubTables) (p : PortState) → port_in t.ports p.number ≡ Some p
    → AreOnNodes t → KeepsItsOwn t p
    → is_pool_dry x t p
    ≡ list_all (is_slot_kept (with_got_back t p) p) (range_with_len 0 p.size)

-- That a pool is to be dry is told before anything is got back.
abbrev pub DryPoolsAreForetold : Type 0
DryPoolsAreForetold =
    (x : Given) (t : HubTables) (p : PortState) → port_in t.ports p.number ≡ Some p
    → OfEachLane (HasEachOnce (message_of x t.pools)) (lane_on t.ports)
    → is_pool_to_be_dry x t p ≡ is_pool_dry x t p

-- Where nobody has some slot once all is got back, the pool is not dry.
abbrev pub UnusedSlotsMayBeLent : Type 0
UnusedSlotsMayBeLent =
    (x : Given) (t : HubTables) (p : PortState) (k : ℕ) → port_in t.ports p.number ≡ Some p
    → AreOnNodes t → KeepsItsOwn t p → k < p.size → IsUnused (with_got_back t p) p.pool k
    → is_pool_dry x t p ≡ false
