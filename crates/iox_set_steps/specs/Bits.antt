-- Bits in words, 64 in each, and what happens to them.
use Rattle.std.specs.Prelude.{ℕ, ◌+◌, ◌-◌, ◌/◌, ◌%◌, ◌^◌, ◌==◌, List, if◌then◌else◌, min, nat_lt, slice_index}
use Rattle.std.specs.Int.{bit_at}
use Rattle.std.specs.List.{sum_by}
use Rattle.iox_set_steps.specs.declared.bit_set.BitSite.{BitSite}
use Rattle.iox_set_steps.specs.declared.bit_set.BitEvent.{BitEvent}
use Rattle.iox_set_steps.specs.declared.bit_set.BitEvent.TheVariants.{Set, Cleared, ClearedAll}

-- how many words have this many bits
abbrev pub bit_words : ℕ → ℕ
bit_words capacity = capacity / 64 + min 1 (capacity % 64)

-- where a word of the bits stands
abbrev pub place_of_word : BitSite → ℕ → ℕ
place_of_word site word = min (site.base + word) (2 ^ 64 - 1)

-- 1 where the bit is set now, else 0
abbrev pub bit_now : BitSite → List ℕ → ℕ → ℕ
bit_now site words id = if nat_lt (id / 64) (bit_words site.capacity) then bit_at (slice_index words (site.base + id / 64)) (id % 64) else 0

-- 1 where the event is a `set` that changed the bit
abbrev pub set_by : ℕ → BitEvent → ℕ
set_by id (Set other) = if id == other then 1 else 0
set_by id (Cleared other) = 0
set_by id (ClearedAll word bits) = 0

-- 1 where the event cleared the bit, and handed it out
abbrev pub cleared_by : ℕ → BitEvent → ℕ
cleared_by id (Set other) = 0
cleared_by id (Cleared other) = if id == other then 1 else 0
cleared_by id (ClearedAll word bits) = if id / 64 == word then bit_at bits (id % 64) else 0

-- how many `set` calls changed the bit
abbrev pub times_set : ℕ → List BitEvent → ℕ
times_set id events = sum_by (set_by id) events

-- how often the bit was cleared
abbrev pub times_cleared : ℕ → List BitEvent → ℕ
times_cleared id events = sum_by (cleared_by id) events
