-- Counts in words, one a bit, and what happens to them.
use Rattle.std.specs.Prelude.{ℕ, ◌+◌, ◌-◌, ◌^◌, ◌==◌, List, if◌then◌else◌, min, nat_lt, slice_index}
use Rattle.std.specs.List.{sum_by}
use Rattle.iox_set_steps.specs.declared.counting_bit_set.CountSite.{CountSite}
use Rattle.iox_set_steps.specs.declared.counting_bit_set.CountEvent.{CountEvent}
use Rattle.iox_set_steps.specs.declared.counting_bit_set.CountEvent.TheVariants.{Added, Taken}

-- the greatest count
abbrev pub max_count : ℕ
max_count = 2 ^ 64 - 1

-- where the count of a bit stands
abbrev pub place_of_count : CountSite → ℕ → ℕ
place_of_count site id = min (site.base + id) (2 ^ 64 - 1)

-- the count of a bit, and 0 where there is no bit of this number
abbrev pub count_now : CountSite → List ℕ → ℕ → ℕ
count_now site words id = if nat_lt id site.capacity then slice_index words (site.base + id) else 0

-- 1 where the event added to the count of the bit
abbrev pub added_by : ℕ → CountEvent → ℕ
added_by id (Added other) = if id == other then 1 else 0
added_by id (Taken other count) = 0

-- how much of the bit's count the event took out and handed out
abbrev pub taken_by : ℕ → CountEvent → ℕ
taken_by id (Added other) = 0
taken_by id (Taken other count) = if id == other then count else 0

-- how often one was added to the count of the bit
abbrev pub times_added : ℕ → List CountEvent → ℕ
times_added id events = sum_by (added_by id) events

-- how much of the bit's count was taken out in all
abbrev pub taken_out : ℕ → List CountEvent → ℕ
taken_out id events = sum_by (taken_by id) events
