-- The list that a queue's words hold is the one that its cells show.
use Rattle.std.proofs.Common.{◌≡◌, ℕ, ◌+◌, ◌≤◌, List, length, get_or, refl}
use Rattle.iox_words.specs.declared.word_list.Words.{Ghosts}
use Rattle.iox_cell_queues.specs.declared.site.CellSite.{CellSite}
use Rattle.iox_cell_queues.specs.Cells.{size}
use Rattle.iox_cell_queues.specs.CellFits.{Ring}
use Rattle.iox_cell_queues.specs.CellEventLists.{CellQueueState}
use Rattle.iox_cell_queues.proofs.CellContentLemmas.{waiting_are_values}
use Rattle.iox_cell_queues.specs.Lists.{values, state_at, write}

module _ {A : Type 0} (W : Ghosts A) (site : CellSite) (list : List ℕ) (room : site.base + size site ≤ length list) where
  -- the list that waits
  pub waiting_is_values : (state : CellQueueState A) → write site list ≡ state.write
      → Ring W.words W.of_words site (λ at. get_or list at 0) state.waiting → state ≡ state_at W site list
  waiting_is_values state at ring =
      let waiting : state.waiting ≡ values W site list = waiting_are_values W site list room state.waiting ring in
      rw (← waiting, at) refl
