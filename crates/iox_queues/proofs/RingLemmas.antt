-- What lies in a ring, item by item, and after a push and a pop.
use Rattle.std.proofs.Common.{◌≡◌, ◌⊎◌, ◌+◌, ◌-◌, ◌%◌, ◌<◌, ◌≤◌, ◌++◌, ◌∷◌, [], ℕ, List, length, get_or, set, drop, ap, ◌∙◌, inl, inr, arith, mod-eq_of_lt, length-append, length-drop, length-set, length-take-le, get_or-drop, get_or-take}
use native.Mathlib.Nat.{mod-eq-sub-mod}
use Rattle.std.proofs.lemmas.List.{same_lists, get_or_append_left, get_or-append_right}
use Rattle.std.proofs.lemmas.Bool.{cases_lt}
use Rattle.std.proofs.lemmas.Grind.{common_steps}
use Rattle.iox_queues.specs.Rings.{items_from}

-- a place of the second round is one round further
pub mod_wraps_once : (cells place : ℕ) → place < cells + cells
    → ((place < cells) × (place % cells ≡ place)) ⊎ ((cells ≤ place) × (place % cells ≡ place - cells))
mod_wraps_once cells place below = elim (cases_lt place cells) [
  | inl first ↦ inl (first, mod-eq_of_lt first)
  | inr second ↦ inr (second, mod-eq-sub-mod second ∙ mod-eq_of_lt (omega arith))
]

module _ {A : Type 0} (start count : ℕ) (cells : List A)
    (within : start ≤ length cells) (fits : count ≤ length cells) where
  pub length-items_from : length (items_from start count cells) ≡ count
  length-items_from =
      let before = length-take-le start cells (omega arith) in
      length-take-le count _ (simp (length-append, length-drop) (omega arith))

  -- item k lies k places on, around the end
  pub get_or-items_from : (k : ℕ) (default : A) → k < count
      → get_or (items_from start count cells) k default ≡ get_or cells ((start + k) % length cells) default
  get_or-items_from k default below =
      let length_end = length-drop start cells in
      get_or-take count _ k default below ∙ elim (mod_wraps_once (length cells) (start + k) (omega arith)) [
        | inl first ↦ get_or_append_left _ _ default k (omega arith)
            ∙ get_or-drop start cells k default
            ∙ ap (λ j. get_or cells j default) (omega arith)
        | inr second ↦ get_or-append_right _ _ (length cells - start) k default (omega arith) (omega arith)
            ∙ get_or-take start cells _ default (omega arith)
            ∙ ap (λ j. get_or cells j default) (omega arith)
      ]

-- a write behind the last item adds it at the end
pub items_from-push : {A : Type 0} (start count place : ℕ) (cells : List A) (value : A)
    → start ≤ length cells → count < length cells → place ≡ (start + count) % length cells
    → items_from start (count + 1) (set cells place value) ≡ items_from start count cells ++ value ∷ []
items_from-push start count place cells value within room at =
    let after = set cells place value in
    let same_length = length-set cells place value in
    let length_old = length-items_from start count cells within (omega arith) in
    let length_new = length-items_from start (count + 1) after (omega arith) (omega arith) in
    let written = mod_wraps_once (length cells) (start + count) (omega arith) in
    same_lists _ _ (grind (arith, common_steps)) (λ k default below. grind (
      arith,
      common_steps,
      mod_wraps_once (length cells) (start + k) (omega arith),
      get_or-items_from start count cells within (omega arith) k default,
      get_or-items_from start (count + 1) after (omega arith) (omega arith) k default,
    ))

-- from the next place on lies all but the first item
pub items_from-pop : {A : Type 0} (start count : ℕ) (cells : List A)
    → start < length cells → count ≤ length cells → 0 < count
    → items_from (start + 1) (count - 1) cells ≡ drop 1 (items_from start count cells)
items_from-pop start count cells within fits some =
    let length_old = length-items_from start count cells (omega arith) fits in
    let length_new = length-items_from (start + 1) (count - 1) cells (omega arith) (omega arith) in
    same_lists _ _ (simp length-drop (omega arith)) (λ k default below. grind (
      arith,
      get_or-drop 1 (items_from start count cells) k default,
      get_or-items_from start count cells (omega arith) fits (1 + k) default,
      get_or-items_from (start + 1) (count - 1) cells (omega arith) (omega arith) k default,
    ))

-- the end of the ring is its begin
pub items_from-end : {A : Type 0} (count : ℕ) (cells : List A) → count ≤ length cells
    → items_from (length cells) count cells ≡ items_from 0 count cells
items_from-end count cells fits =
    let length_end = length-items_from (length cells) count cells (omega arith) fits in
    let length_begin = length-items_from 0 count cells (omega arith) fits in
    same_lists _ _ (omega arith) (λ k default below. grind (
      arith,
      mod_wraps_once (length cells) (length cells + k) (omega arith),
      mod_wraps_once (length cells) k (omega arith),
      get_or-items_from (length cells) count cells (omega arith) fits k default,
      get_or-items_from 0 count cells (omega arith) fits k default,
    ))
