-- The list that waits is the one that the cells hold.
use Rattle.std.proofs.Common.{◌≡◌, ℕ, suc, ◌+◌, ◌-◌, ◌<◌, List, [], ◌∷◌, length, get_or, refl, sym, ap, ap₂, ◌∙◌, arith}
use Rattle.iox_steps.specs.declared.site.Site.{Site}
use Rattle.iox_steps.specs.Sites.{cell_at}
use Rattle.iox_steps.specs.Fits.{Ring}
use Rattle.iox_steps.specs.Contents.{values_from, values}

module _ (site : Site) (words : List ℕ) where
  values_from_position : (waiting : List ℕ) (position : ℕ) → ((k : ℕ) → k < length waiting → get_or words (cell_at site (position + k)) 0 ≡ get_or waiting k 0)
      → waiting ≡ values_from site words position (length waiting)
  values_from_position [] position items = refl
  values_from_position (first ∷ others) position items =
      let here : position + 0 ≡ position = omega arith in
      let first_is : get_or words (cell_at site position) 0 ≡ first = rw here at (items 0 (omega arith)) in
      let others_are = values_from_position others (position + 1) (λ k below.
      let at : position + 1 + k ≡ position + suc k = omega arith in
      rw at (items (suc k) (omega arith))) in
      ap₂ (λ (n : ℕ) (l : List ℕ). n ∷ l) (sym first_is) others_are

  pub waiting_are_values : (waiting : List ℕ) → Ring site (λ place. get_or words place 0) waiting → waiting ≡ values site words
  waiting_are_values waiting ring =
      let counts = ring.counts in
      let many : length waiting ≡ get_or words site.base 0 - get_or words (site.base + 1) 0 = omega arith in
      values_from_position waiting (get_or words (site.base + 1) 0) ring.items ∙ ap (values_from site words (get_or words (site.base + 1) 0)) many
