-- A slot of a pool becomes another message, with other words.
use Rattle.std.specs.Prelude.{◌≡◌, ℕ, Bool, false, ◌&&◌, if◌then◌else◌, ◌==◌, List, Option, Some, slice_get, slice_set}
use Rattle.std.specs.List.{list_any}
use Rattle.std.specs.Option.{option_map_or}
use Rattle.iox_model.specs.Maps.{has_number}
use Rattle.iox_tables.specs.HubStates.Tables.{HubTables, PoolState, SlotState, pool_at, slots_of}
use Rattle.iox_tables.specs.HubStates.Ways.{lane_on}
use Rattle.iox_tables.specs.HubStates.States.{Given, state_shown}
use Rattle.iox_tables.specs.HubStates.Changes.{OfEachLane}
use Rattle.iox_tables.specs.HubStates.Steps.{places_on}

-- ---- words

-- The words of a message, and how many elements of a loan are filled.
pub record SlotContents : Type 0 where
  pub user : List ℕ
  pub payload : List ℕ
  pub filled : ℕ

-- it is that slot of that pool
abbrev pub is_place : ℕ → ℕ → ℕ → ℕ → Bool
is_place pool k p j = (p == pool) && (j == k)

-- a value for each slot of each pool, with a new one at one of them
abbrev pub put_place : {A : Type 0} → (ℕ → ℕ → A) → ℕ → ℕ → A → ℕ → ℕ → A
put_place f pool k a p j = if is_place pool k p j then a else f p j

-- the message in that slot has these words
abbrev pub with_contents : Given → ℕ → ℕ → SlotContents → Given
with_contents x pool k w = record x {
  user = put_place x.user pool k w.user;
  payload = put_place x.payload pool k w.payload;
  filled = put_place x.filled pool k w.filled;
}

-- ---- slots

-- the pool with this slot in that place
abbrev pub put_slot_of : ℕ → SlotState → PoolState → PoolState
put_slot_of k slot p = record p { slots = slice_set p.slots k slot }

-- the pools, with this slot in that place of that pool
abbrev pub put_slot : List (Option PoolState) → ℕ → ℕ → SlotState → List (Option PoolState)
put_slot pools pool k slot =
    option_map_or (λ p. slice_set pools pool (Some (put_slot_of k slot p))) (pool_at pools pool)
    pools

-- the pool has a slot of that number
abbrev pub HasSlot : List (Option PoolState) → ℕ → ℕ → Type 0
HasSlot pools pool k = (slot : SlotState) × (slice_get (slots_of pools pool) k ≡ Some slot)

-- ---- who has a slot

-- On no lane is the message in that slot.
abbrev pub IsOnNoLane : HubTables → ℕ → ℕ → Type 0
IsOnNoLane t pool k =
    OfEachLane (λ l. l.pool ≡ pool → has_number k (places_on l) ≡ false) (lane_on t.ports)

-- Nobody has the message in that slot: it is on no lane, and in no handle.
pub record IsUnused (t : HubTables) (pool k : ℕ) : Type 0 where
  pub lanes : IsOnNoLane t pool k
  pub handles : list_any (λ h. is_place pool k h.pool h.slot) t.handles ≡ false

-- A slot that nobody has may become any message, with any words: the state that is shown stays.
abbrev pub UnusedSlotsMayChange : Type 0
UnusedSlotsMayChange =
    (x : Given) (t : HubTables) (pool k : ℕ) (slot : SlotState) (w : SlotContents)
    → IsUnused t pool k
    → state_shown x t
    ≡ state_shown (with_contents x pool k w) (record t { pools = put_slot t.pools pool k slot })
