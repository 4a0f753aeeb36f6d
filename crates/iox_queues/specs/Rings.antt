-- What lies in a ring of cells, and the queue that it shows.
use Rattle.std.specs.Prelude.{◌≡◌, ◌⊎◌, ◌^◌, ◌+◌, ◌-◌, ◌<◌, ◌≤◌, ◌++◌, ℕ, List, Option, drop, filter_map, length, take}
use Rattle.iox_queues.specs.BoundedQueues.{BoundedQueueOf}
use Rattle.iox_queues.specs.declared.places.Places.{Places}

-- the cells from place `start` to the end, and then those before it
abbrev pub cells_from : {A : Type 0} → ℕ → List A → List A
cells_from start cells = drop start cells ++ take start cells

-- what lies in `count` cells from place `start` on, around the end
abbrev pub items_from : {A : Type 0} → ℕ → ℕ → List A → List A
items_from start count cells = take count (cells_from start cells)

-- how many values wait
abbrev pub count_at : Places → ℕ
count_at p = p.ahead + p.free - p.oldest

-- how many values were ever pushed
abbrev pub pushed_at : Places → ℕ
pushed_at p = p.before + p.free

-- fewer wait than may, and the last position, 2 ^ 64 - 1, is not reached
abbrev pub HasRoomAt : ℕ → Places → Type 0
HasRoomAt capacity p = (count_at p < capacity) × (pushed_at p < 2 ^ 64 - 1)

-- a push takes the cell of the oldest, before the end of the ring: as many wait as may, and the last
-- position is not reached
abbrev pub EvictsAt : ℕ → Places → Type 0
EvictsAt capacity p = (count_at p ≡ capacity) × (p.free < capacity) × (pushed_at p < 2 ^ 64 - 1)

-- the queue that lies in the cells
abbrev pub queue_at : {A : Type 0} → List A → Places → BoundedQueueOf A
queue_at cells p = record {
  capacity = length cells;
  waiting = items_from p.oldest (count_at p) cells;
  pushed = pushed_at p;
}

-- the free cell lies behind those that wait, in the round of the oldest or in the next
abbrev pub IsBehind : ℕ → Places → Type 0
IsBehind capacity p =
    ((p.ahead ≡ 0) ⊎ (p.ahead ≡ capacity)) × (p.oldest ≤ capacity) × (p.free ≤ capacity)
    × (p.oldest ≤ p.ahead + p.free) × (p.ahead + p.free ≤ p.oldest + capacity)

-- up to `filled_end` values wait
abbrev pub IsFilled : ℕ → Places → Type 0
IsFilled capacity p = (p.filled_end ≤ capacity) × (p.filled_end ≤ p.ahead + p.free)

-- up to `free_end` the cells are free, and the positions are not spent
abbrev pub IsFree : ℕ → Places → Type 0
IsFree capacity p =
    (p.free_end ≤ capacity) × (p.ahead + p.free_end ≤ p.oldest + capacity)
    × (p.before + p.free_end ≤ 2 ^ 64 - 1)

-- where `free` lies before `full_end`, each cell has a value that waits, and up to there the
-- positions are not spent
abbrev pub IsFull : ℕ → Places → Type 0
IsFull capacity p =
    (p.full_end ≤ p.free) ⊎ ((p.ahead ≡ capacity) × (p.oldest ≡ p.free) × (p.filled_end ≡ capacity)
    × (p.full_end ≤ capacity) × (p.before + p.full_end ≤ 2 ^ 64 - 1))

-- the places are those of a queue in so many cells
abbrev pub AreWithin : ℕ → Places → Type 0
AreWithin capacity p =
    IsBehind capacity p × (pushed_at p ≤ 2 ^ 64 - 1)
    × IsFilled capacity p × IsFree capacity p × IsFull capacity p

-- the oldest lies where it lay, be it that the end of the ring is now called its begin
abbrev pub StartsAsBefore : ℕ → Places → Places → Type 0
StartsAsBefore capacity old new =
    (new.oldest ≡ old.oldest) ⊎ ((old.oldest ≡ capacity) × (new.oldest ≡ 0))

-- the values of the cells that have one
abbrev pub values : {A : Type 0} → List (Option A) → List A
values cells = filter_map (λ cell. cell) cells

-- each cell has a value: there are as many values as cells
abbrev pub AreFilled : {A : Type 0} → List (Option A) → Type 0
AreFilled cells = length (values cells) ≡ length cells

-- a queue of cells, as one of their values
abbrev pub queue_of_values : {A : Type 0} → BoundedQueueOf (Option A) → BoundedQueueOf A
queue_of_values queue =
    record { capacity = queue.capacity; waiting = values queue.waiting; pushed = queue.pushed }
