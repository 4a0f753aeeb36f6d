-- On which lanes the messages of a pool are.
use Rattle.std.specs.Prelude.{◌≡◌, ℕ, ◌+◌, ◌-◌, ◌<◌, ◌&&◌, ◌==◌, Bool, true, List, length, Some, slice_get}
use Rattle.std.specs.List.{list_any}
use Rattle.iox_tables.specs.HubStates.Tables.{SlotState}
use Rattle.iox_tables.specs.HubLending.Keeping.{has_holder}

-- somebody has a message of that lane
abbrev pub is_lane_held : List SlotState → ℕ → Bool
is_lane_held slots lane = list_any (λ s. has_holder s && (s.lane == lane)) slots

-- the own lane of a slot: the last slot's is the first lane
abbrev pub own_lane : List SlotState → ℕ → ℕ
own_lane slots k = length slots - (k + 1)

-- each message that somebody has is on its slot's own lane
abbrev pub AreOnOwnLanes : List SlotState → Type 0
AreOnOwnLanes slots =
    (k : ℕ) (s : SlotState) → slice_get slots k ≡ Some s → 0 < s.holders
    → s.lane + (k + 1) ≡ length slots

-- it is so where that is known
abbrev pub AreOnOwnLanesIf : Bool → List SlotState → Type 0
AreOnOwnLanesIf known slots = known ≡ true → AreOnOwnLanes slots
