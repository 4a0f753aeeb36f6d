-- A bounded queue, as its callers see it.
use Rattle.std.specs.Prelude.{◌^◌, ◌+◌, ◌-◌, ◌<◌, ◌++◌, ◌∷◌, [], ℕ, Bool, List, Option, None, Some, drop, if◌then◌else◌, length, nat_lt, not, slice_get}

-- a bounded queue: its capacity, the values that wait, and how many were ever pushed
pub record BoundedQueueOf (A : Type 0) : Type 0 where
  -- how many values may wait at once
  pub capacity : ℕ
  -- the values that wait, oldest first
  pub waiting : List A
  -- how many values were ever pushed
  pub pushed : ℕ

-- a queue of numbers
abbrev pub BoundedQueue : Type 0
BoundedQueue = BoundedQueueOf ℕ

-- nothing waits, and nothing was ever pushed
abbrev pub empty_queue : {A : Type 0} → ℕ → BoundedQueueOf A
empty_queue capacity = record { capacity = capacity; waiting = []; pushed = 0 }

-- fewer wait than may, and the last position, 2 ^ 64 - 1, is not reached
abbrev pub HasRoom : {A : Type 0} → BoundedQueueOf A → Type 0
HasRoom queue = (length queue.waiting < queue.capacity) × (queue.pushed < 2 ^ 64 - 1)

-- one more waits, behind all others
abbrev pub with_pushed : {A : Type 0} → BoundedQueueOf A → A → BoundedQueueOf A
with_pushed queue value =
    record queue { waiting = queue.waiting ++ value ∷ []; pushed = queue.pushed + 1 }

-- the oldest of those that wait, if any does
abbrev pub first : {A : Type 0} → List A → Option A
first waiting = slice_get waiting 0

-- all but the oldest wait
abbrev pub without_first : {A : Type 0} → BoundedQueueOf A → BoundedQueueOf A
without_first queue = record queue { waiting = drop 1 queue.waiting }

-- the last position, 2 ^ 64 - 1, is reached, so that nothing more is pushed
abbrev pub is_spent : {A : Type 0} → BoundedQueueOf A → Bool
is_spent queue = not (nat_lt queue.pushed (2 ^ 64 - 1))

-- as many wait as may
abbrev pub is_full : {A : Type 0} → BoundedQueueOf A → Bool
is_full queue = not (nat_lt (length queue.waiting) queue.capacity)

-- what an overflowing push hands back: the value itself once the positions are spent, else the
-- oldest that waits if the queue is full
abbrev pub handed_back : {A : Type 0} → BoundedQueueOf A → A → Option A
handed_back queue value =
    if is_spent queue then Some value else (if is_full queue then first queue.waiting else None)

-- what an overflowing push leaves: one more waits, behind all others, in the place of the oldest
-- if the queue is full
abbrev pub with_overflow : {A : Type 0} → BoundedQueueOf A → A → BoundedQueueOf A
with_overflow queue value =
    if is_spent queue then queue
    else with_pushed (if is_full queue then without_first queue else queue) value
