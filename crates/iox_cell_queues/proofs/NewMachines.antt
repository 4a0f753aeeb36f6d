-- Two parties at rest at an empty queue are the parties of a queue that was played on.
use Rattle.std.proofs.Common.{◌≡◌, ℕ, ◌+◌, ◌^◌, ◌<◌, ◌≤◌, List, [], ◌∷◌, length, slice_index, sym, ◌∙◌}
use Rattle.iox_words.specs.declared.word_list.Words.{Ghosts}
use Rattle.iox_cell_queues.specs.declared.site.CellSite.{CellSite}
use Rattle.iox_cell_queues.specs.declared.side.CellPushing.TheVariants as pushing
use Rattle.iox_cell_queues.specs.declared.side.CellPopping.TheVariants as popping
use Rattle.iox_cell_queues.specs.Cells.{size}
use Rattle.iox_cell_queues.specs.CellPlayLemmas.{played_empty}
use Rattle.iox_cell_queues.specs.declared.queue.CellSide.TheVariants.{Pusher, Popper}
use Rattle.iox_cell_queues.specs.declared.queue.CellParty.{CellParty}
use Rattle.iox_cell_queues.specs.CellQueueLaws.{same_sides}
use Rattle.iox_cell_queues.specs.CellQueues.{PartiesAfterCalls, AtRestAt}

pub new_parties_played : {A : Type 0} → {width : ℕ} → (W : Ghosts A) → (site : CellSite) (list : List ℕ) (parties : List (CellParty A width))
    → AtRestAt site parties → site.base + size site ≤ length list
    → slice_index list site.base ≡ slice_index list (site.base + 1) → slice_index list site.base < 2 ^ 64 → PartiesAfterCalls W list parties []
new_parties_played W site list (a ∷ b ∷ []) rest room empty position = (
  rest.1 ∙ sym rest.0,
  same_sides W.words W.of_words site a.site list (Pusher pushing.AtRest) a.side (Popper popping.AtRest) b.side [] rest.0 rest.2
      rest.3 (played_empty W.words W.of_words site list room empty position),
)
new_parties_played W site list [] rest room empty position = absurd rest
new_parties_played W site list (a ∷ []) rest room empty position = absurd rest
new_parties_played W site list (a ∷ b ∷ c ∷ others) rest room empty position = absurd rest
