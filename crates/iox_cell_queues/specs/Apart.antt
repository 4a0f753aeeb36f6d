-- Two queues that stand apart in one list of words.
use Rattle.std.specs.Prelude.{◌≡◌, ℕ, List}
use Rattle.iox_words.specs.declared.word_list.Words.{Ghosts}
use Rattle.iox_steps.specs.Accesses.{AreApart, KeepsOutside}
use Rattle.iox_cell_queues.specs.declared.site.CellSite.{CellSite}
use Rattle.iox_cell_queues.specs.Cells.{size}
use Rattle.iox_cell_queues.specs.Lists.{queue_at, HoldsQueue}

-- Where words change only in a stretch that stands apart from a queue, they still hold that queue,
-- unchanged.
abbrev pub StretchLeavesQueues : {A : Type 0} → Ghosts A → Type 0
StretchLeavesQueues W = (base extent : ℕ) (site : CellSite) (list after : List ℕ)
    → AreApart base extent site.base (size site) → KeepsOutside base extent list after
    → HoldsQueue W site list
    → HoldsQueue W site after × (queue_at W site after ≡ queue_at W site list)
