-- The list that waits is the one that the cells hold.
use Rattle.std.proofs.Common.{◌≡◌, ℕ, suc, ◌+◌, ◌-◌, ◌<◌, ◌≤◌, List, [], ◌∷◌, length, drop, get_or, refl, sym, ap, ◌∙◌, arith, Some}
use Rattle.std.proofs.lemmas.List.{get_or-take, get_or-drop, length-take-le, length-drop}
use Rattle.std.proofs.lemmas.Grind.{same_number_lists}
use Rattle.iox_words.specs.declared.word_list.Words.{Ghosts}
use Rattle.iox_cell_queues.specs.declared.site.CellSite.{CellSite}
use Rattle.iox_cell_queues.specs.Cells.{size, cell_at}
use Rattle.iox_cell_queues.specs.CellFits.{HasWords, IsWhole, AreWhole, item, Ring}
use Rattle.iox_cell_queues.specs.CellPlaces.{cell_end}
use Rattle.iox_cell_queues.specs.CellContents.{cell_words, values_from, values, read, write}

module _ {A : Type 0} (W : Ghosts A) (site : CellSite) (list : List ℕ) (room : site.base + size site ≤ length list) (some : 0 < site.capacity) where
  -- a cell that has the words of a value gives it
  cell_gives : (position : ℕ) (value : A) → IsWhole W.words W.of_words site.width value
      → HasWords (λ at. get_or list at 0) (cell_at site position) (W.words value) site.width
      → W.of_words (cell_words site list position) ≡ Some value
  cell_gives position value whole holds =
      let behind = cell_end site position some in
      let cut = length-drop (cell_at site position) list in
      let wide : length (cell_words site list position) ≡ site.width = length-take-le site.width (drop (cell_at site position) list) (omega arith) in
      let same : cell_words site list position ≡ W.words value = same_number_lists (cell_words site list position) (W.words value) (wide ∙ sym whole.0)
      (λ i below. get_or-take site.width (drop (cell_at site position) list) i 0 (omega arith)
      ∙ get_or-drop (cell_at site position) list i 0 ∙ holds i (omega arith)) in
      ap W.of_words same ∙ whole.1

  values_are : (waiting : List A) (position : ℕ) → AreWhole W.words W.of_words site.width waiting
      → ((k : ℕ) → k < length waiting → HasWords (λ at. get_or list at 0) (cell_at site (position + k)) (item W.words waiting k) site.width)
      → waiting ≡ values_from W site list position (length waiting)
  values_are [] position whole items = refl
  values_are (first ∷ others) position whole items =
      let here : position + 0 ≡ position = omega arith in
      let gives = cell_gives position first whole.0 (rw here at (items 0 (omega arith))) in
      let others_are = values_are others (position + 1) whole.1 (λ k below.
      let at : position + 1 + k ≡ position + suc k = omega arith in
      rw at (items (suc k) (omega arith))) in
      rw gives (ap (λ (l : List A). first ∷ l) others_are)

module _ {A : Type 0} (W : Ghosts A) (site : CellSite) (list : List ℕ) (room : site.base + size site ≤ length list) where
  waiting_from : (waiting : List A) → Ring W.words W.of_words site (λ at. get_or list at 0) waiting
      → waiting ≡ values_from W site list (read site list) (length waiting)
  waiting_from [] ring = refl
  waiting_from (first ∷ others) ring =
      let bounded = ring.bounded in values_are W site list room (omega arith) (first ∷ others) (read site list) ring.whole ring.items

  pub waiting_are_values : (waiting : List A) → Ring W.words W.of_words site (λ at. get_or list at 0) waiting → waiting ≡ values W site list
  waiting_are_values waiting ring =
      let counts = ring.counts in
      let many : length waiting ≡ write site list - read site list = omega arith in
      waiting_from waiting ring ∙ ap (values_from W site list (read site list)) many
