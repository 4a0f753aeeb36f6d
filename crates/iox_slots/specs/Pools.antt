-- The pools of a hub by place, and how they change.
use Rattle.std.specs.Prelude.{◌≡◌, ℕ, Bool, true, if◌then◌else◌, ◌==◌, List, [], ◌∷◌, ◌++◌, length, nat_lt, Option, Some, None, is_none, option_map, position, slice_get, slice_set, count_by}
use Rattle.std.specs.List.{list_all}
use Rattle.std.specs.Option.{option_map_or}
use Rattle.iox_tables.specs.HubStates.Tables.{SlotState, PoolState, slots_of, slot_at, is_free}
use Rattle.iox_tables.specs.HubLoans.Slots.{put_slot}
use Rattle.iox_slots.specs.Slots.{is_taken, held, with_slot_of}

-- ---- what there is

-- whether the pool in this place has a slot of that number
abbrev pub has_slot : List (Option PoolState) → ℕ → ℕ → Bool
has_slot pools place k = nat_lt k (length (slots_of pools place))

-- whether it has one that somebody has
abbrev pub is_taken_at : List (Option PoolState) → ℕ → ℕ → Bool
is_taken_at pools place k = is_taken (slots_of pools place) k

-- how many slots of the pool in this place nobody has
abbrev pub free_count : List (Option PoolState) → ℕ → ℕ
free_count pools place = count_by is_free (slots_of pools place)

-- nobody has a slot of the pool in this place
abbrev pub is_idle : List (Option PoolState) → ℕ → Bool
is_idle pools place = list_all is_free (slots_of pools place)

-- ---- changes

-- the pools after a change of the one in this place; the same where there is none
abbrev pub with_pool :
    (PoolState → PoolState) → List (Option PoolState) → ℕ → List (Option PoolState)
with_pool f pools place =
    option_map_or (λ o. slice_set pools place (option_map f o)) (slice_get pools place) pools

-- the pools after a change of that slot; the same where there is none
abbrev pub with_slot :
    (SlotState → SlotState) → List (Option PoolState) → ℕ → ℕ → List (Option PoolState)
with_slot f pools place k = with_pool (λ p. with_slot_of f p k) pools place

-- the pool in this place is no more; the place is vacant
abbrev pub without_pool : List (Option PoolState) → ℕ → List (Option PoolState)
without_pool pools place = slice_set pools place None

-- the first vacant place; if there is none, the one behind the last
abbrev pub place_for_one : List (Option PoolState) → ℕ
place_for_one pools = option_map_or (λ place. place) (position is_none pools) (length pools)

-- there is one pool more, in that place
abbrev pub with_one_more : List (Option PoolState) → PoolState → List (Option PoolState)
with_one_more pools p =
    option_map_or (λ place. slice_set pools place (Some p)) (position is_none pools)
    (pools ++ Some p ∷ [])

-- There was such a slot that nobody had, and now one has it. Nothing else changed.
pub record Acquires (old : List (Option PoolState)) (place k : ℕ) (new : List (Option PoolState))
    : Type 0 where
  pub there : has_slot old place k ≡ true
  pub free : (slot_at old place k).holders ≡ 0
  pub taken : (slot_at new place k).holders ≡ 1
  pub changed : new ≡ with_slot held old place k

-- There was such a slot that nobody had, and now one has it, with that message. Nothing else
-- changed.
pub record Takes
    (old : List (Option PoolState)) (place k : ℕ) (s : SlotState) (new : List (Option PoolState))
    : Type 0 where
  pub there : has_slot old place k ≡ true
  pub free : (slot_at old place k).holders ≡ 0
  pub changed : new ≡ put_slot old place k s

-- how many slots the end of a hold frees
abbrev pub freed_by_one : List (Option PoolState) → ℕ → ℕ → ℕ
freed_by_one pools place k = if (slot_at pools place k).holders == 1 then 1 else 0
