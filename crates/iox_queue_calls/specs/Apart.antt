-- Two queues that stand apart in one list of words.
use Rattle.std.specs.Prelude.{◌≡◌, ℕ, List}
use Rattle.iox_steps.specs.declared.site.Site.{Site}
use Rattle.iox_steps.specs.Accesses.{AreApart, KeepsOutside}
use Rattle.iox_steps.specs.Sites.{size}
use Rattle.iox_queue_calls.specs.Lists.{queue_at, HoldsQueue}

-- the stretches of words of both have no word in common
abbrev pub StandApart : Site → Site → Type 0
StandApart site other = AreApart site.base (size site) other.base (size other)

-- Where the words change nowhere but in a stretch that stands apart from a queue, they hold that
-- queue as before, and it is the same.
abbrev pub StretchLeavesQueues : Type 0
StretchLeavesQueues = (base extent : ℕ) (site : Site) (words after : List ℕ)
    → AreApart base extent site.base (size site) → KeepsOutside base extent words after
    → HoldsQueue site words
    → HoldsQueue site after × (queue_at site after ≡ queue_at site words)
