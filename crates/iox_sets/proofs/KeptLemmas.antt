-- What a recovery leaves: the indices that the closure said no to, and those that are not the owner's.
use Rattle.std.proofs.Common.{◌≡◌, ◌≢◌, ◌==◌, ◌+◌, ◌<◌, ◌≤◌, ℕ, Bool, true, false, List, Option, Some, None, length, get_or, set, ap, sym, subst, ◌∙◌, inl, inr, arith, get_or-set_other, get_or-set_same}
use Rattle.std.proofs.lemmas.Bool.{cases_eq, cases_lt}
use Rattle.std.proofs.lemmas.Bool.Decides.{nat_tests}
use Rattle.std.proofs.lemmas.List.{get_or_past}
use Rattle.iox_sets.specs.OwnedIndices.{is_owned_by}

not_both : (b : Bool) → b ≡ true → b ≡ false → ⊥
not_both b one other = cc

not_none : (owner : ℕ) (slot : Option ℕ) → slot ≡ Some owner → slot ≡ None → ⊥
not_none owner slot some none = cc

same_number : (n : ℕ) → (n == n) ≡ true
same_number n = grind (arith, nat_tests)

is_owned : (owner : ℕ) (slot : Option ℕ) → slot ≡ Some owner → is_owned_by owner slot ≡ true
is_owned owner slot is = rw (is) (same_number owner)

-- an index that is the owner's has it as its owner
pub owned_is : (owner : ℕ) (slot : Option ℕ) → is_owned_by owner slot ≡ true → slot ≡ Some owner
owned_is owner None is = cc
owned_is owner (Some other) is = ap Some (grind (arith, nat_tests))

-- the closure said no to each index below a place that the owner still holds
abbrev pub RefusedBelow : {F : Type 0} → (F → ℕ → Bool → F → Type 0) → ℕ → List (Option ℕ) → ℕ → Type 0
RefusedBelow {F} step owner owners place =
    (index : ℕ) → index < place → get_or owners index None ≡ Some owner
    → (before : F) × (after : F) × step before index false after

module _ {F : Type 0} (step : F → ℕ → Bool → F → Type 0) (owner : ℕ) (owners : List (Option ℕ)) (place : ℕ)
    (kept : RefusedBelow step owner owners place) where
  pub RefusedBelow-other : is_owned_by owner (get_or owners place None) ≡ false → RefusedBelow step owner owners (place + 1)
  RefusedBelow-other other index below held = elim (cases_eq index place) [
    | inl same ↦ absurd (not_both _ (is_owned owner _ (subst (λ k. get_or owners k None ≡ Some owner) same held)) other)
    | inr differs ↦ kept index (omega arith) held
  ]

  pub RefusedBelow-no : (before after : F) → step before place false after → RefusedBelow step owner owners (place + 1)
  RefusedBelow-no before after said index below held = elim (cases_eq index place) [
    | inl same ↦ (before, after, subst (λ k. step before k false after) (sym same) said)
    | inr differs ↦ kept index (omega arith) held
  ]

  pub RefusedBelow-yes : place < length owners → RefusedBelow step owner (set owners place None) (place + 1)
  RefusedBelow-yes within index below held = elim (cases_eq index place) [
    | inl same ↦ absurd (not_none owner _ (subst (λ k. get_or (set owners place None) k None ≡ Some owner) same held) (get_or-set_same owners place None None within))
    | inr differs ↦ kept index (omega arith) (sym (get_or-set_other owners place index None None differs) ∙ held)
  ]

  pub RefusedBelow-end : length owners ≤ place → (index : ℕ) → get_or owners index None ≡ Some owner
      → (before : F) × (after : F) × step before index false after
  RefusedBelow-end past index held = elim (cases_lt index (length owners)) [
    | inl within ↦ kept index (omega arith) held
    | inr beyond ↦ absurd (not_none owner _ held (get_or_past owners index None beyond))
  ]

-- an index that is free or has another owner is as it was
abbrev pub SameOthers : ℕ → List (Option ℕ) → List (Option ℕ) → Type 0
SameOthers owner old new = (index : ℕ) → get_or old index None ≢ Some owner → get_or new index None ≡ get_or old index None

-- also after one of the owner's is freed
pub SameOthers-freed : (owner place : ℕ) (old now : List (Option ℕ)) → SameOthers owner old now
    → get_or now place None ≡ Some owner → SameOthers owner old (set now place None)
SameOthers-freed owner place old now same held index other = elim (cases_eq index place) [
  | inl is ↦ absurd (other (sym (same index other) ∙ ap (λ k. get_or now k None) is ∙ held))
  | inr differs ↦ get_or-set_other now place index None None differs ∙ same index other
]
