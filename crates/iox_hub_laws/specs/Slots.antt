-- Who has the messages of a hub.
use Rattle.std.specs.Prelude.{◌≡◌, ◌↔◌, ◌⊎◌, ℕ, true, false, Some}
use Rattle.iox_model.specs.declared.way.Way.{Way}
use Rattle.iox_model.specs.Maps.{has_number}
use Rattle.iox_laws.specs.MessageLaws.Lists.{IsOneOf}
use Rattle.iox_lanes.specs.Lanes.{LaneState}
use Rattle.iox_tables.specs.HubStates.Tables.{HandleState, HubTables, slot_at, is_free}
use Rattle.iox_tables.specs.HubStates.Steps.{places_on}
use Rattle.iox_tables.specs.HubStates.Ways.{lane_on}

-- some handle has the message in that slot of that pool
abbrev pub AHandleHas : HubTables → ℕ → ℕ → Type 0
AHandleHas t pool k =
    (h : HandleState) × IsOneOf h t.handles × (h.pool ≡ pool) × (h.slot ≡ k)

-- It is on some way: it waits there, its receiver has it, or it was given back and its sender did
-- not get it back yet.
abbrev pub AWayHas : HubTables → ℕ → ℕ → Type 0
AWayHas t pool k =
    (w : Way) × (l : LaneState) × (lane_on t.ports w ≡ Some l)
    × (l.pool ≡ pool) × (has_number k (places_on l) ≡ true)

-- somebody has it
abbrev pub SomebodyHas : HubTables → ℕ → ℕ → Type 0
SomebodyHas t pool k = AHandleHas t pool k ⊎ AWayHas t pool k

-- A slot is free exactly if nobody has its message, and taken exactly if somebody has it.
pub record IsFreeIfNobodyHas (t : HubTables) (pool k : ℕ) : Type 0 where
  pub free : (is_free (slot_at t.pools pool k) ≡ true) ↔ (SomebodyHas t pool k → ⊥)
  pub taken : (is_free (slot_at t.pools pool k) ≡ false) ↔ SomebodyHas t pool k

-- It is so of each slot of each pool.
abbrev pub SlotsAreOfHolders : HubTables → Type 0
SlotsAreOfHolders t = (pool k : ℕ) → IsFreeIfNobodyHas t pool k
