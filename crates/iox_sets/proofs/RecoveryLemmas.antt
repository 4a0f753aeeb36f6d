-- A closure that is asked about the indices one after another: one index more.
use Rattle.std.proofs.Common.{◌≡◌, ◌+◌, ◌<◌, ◌≤◌, ℕ, suc, Bool, true, false, List, [], ◌∷◌, Option, Some, None, length, get_or, set, drop, map, refl, ap, sym, subst, ◌∙◌, inl, inr, arith}
use Rattle.std.proofs.lemmas.List.{drop_all, drop_more, drop-set-lt, map-set, length-map, get_or-map}
use Rattle.iox_sets.specs.BitSets.{set_bits, set_bits_from}
use Rattle.iox_sets.specs.Calls.{Accepts}
use Rattle.iox_sets.specs.OwnedIndices.{FindsFrom, is_owned_by, without}

module _ {F : Type 0} (step : F → ℕ → Bool → F → Type 0) (owners : List (Option ℕ)) (index : ℕ) where
  pub FindsFrom-end : (f : F) → length owners ≤ index → FindsFrom step f index (drop index owners) None
  FindsFrom-end f past = rw (drop_all index owners past) refl

  module _ (f : F) (found : Option ℕ) (within : index < length owners) where
    pub FindsFrom-none : get_or owners index None ≡ None → FindsFrom step f (index + 1) (drop (index + 1) owners) found
        → FindsFrom step f index (drop index owners) found
    FindsFrom-none free rest = rw (drop_more owners index None within, free) rest

    pub FindsFrom-no : (owner : ℕ) (after : F) → get_or owners index None ≡ Some owner → step f owner false after
        → FindsFrom step after (index + 1) (drop (index + 1) owners) found → FindsFrom step f index (drop index owners) found
    FindsFrom-no owner after held asked rest = rw (drop_more owners index None within, held) (inr (after, asked, rest))

  pub FindsFrom-yes : (f : F) (owner : ℕ) (after : F) → index < length owners → get_or owners index None ≡ Some owner → step f owner true after
      → FindsFrom step f index (drop index owners) (Some index)
  FindsFrom-yes f owner after within held asked = rw (drop_more owners index None within, held) (inl (after, asked, refl))

-- the indices of an owner, from one on
abbrev pub indices_from : ℕ → ℕ → List (Option ℕ) → List ℕ
indices_from owner index owners = set_bits_from index (drop index (map (is_owned_by owner) owners))

module _ (owner index : ℕ) (owners : List (Option ℕ)) where
  pub indices_from-end : length owners ≤ index → indices_from owner index owners ≡ []
  indices_from-end past =
      let size = length-map owners (is_owned_by owner) in
      ap (set_bits_from index) (drop_all index (map (is_owned_by owner) owners) (omega arith))

  -- the bit of an index comes first
  bits_from : index < length owners → drop index (map (is_owned_by owner) owners)
      ≡ is_owned_by owner (get_or owners index None) ∷ drop (index + 1) (map (is_owned_by owner) owners)
  bits_from within =
      let size = length-map owners (is_owned_by owner) in
      drop_more (map (is_owned_by owner) owners) index false (omega arith)
      ∙ ap (λ b. b ∷ drop (index + 1) (map (is_owned_by owner) owners)) (get_or-map (is_owned_by owner) owners index None false within)

  next : suc index ≡ index + 1
  next = omega arith

  pub indices_from-other : index < length owners → is_owned_by owner (get_or owners index None) ≡ false
      → indices_from owner index owners ≡ indices_from owner (index + 1) owners
  indices_from-other within other =
      ap (set_bits_from index) (bits_from within ∙ ap (λ b. b ∷ drop (index + 1) (map (is_owned_by owner) owners)) other)
      ∙ ap (λ n. set_bits_from n (drop (index + 1) (map (is_owned_by owner) owners))) next

  pub indices_from-own : index < length owners → is_owned_by owner (get_or owners index None) ≡ true
      → indices_from owner index owners ≡ index ∷ indices_from owner (index + 1) owners
  indices_from-own within own =
      ap (set_bits_from index) (bits_from within ∙ ap (λ b. b ∷ drop (index + 1) (map (is_owned_by owner) owners)) own)
      ∙ ap (λ n. index ∷ set_bits_from n (drop (index + 1) (map (is_owned_by owner) owners))) next

  -- an index that is freed is no later one
  pub indices_from-freed : indices_from owner (index + 1) (set owners index None) ≡ indices_from owner (index + 1) owners
  indices_from-freed =
      ap (λ bits. set_bits_from (index + 1) (drop (index + 1) bits)) (map-set (is_owned_by owner) owners index None)
      ∙ ap (set_bits_from (index + 1)) (drop-set-lt (index + 1) (map (is_owned_by owner) owners) index false (omega arith))

-- what is left of a recovery leads to what all of it is to do
abbrev pub LeadsTo : {F : Type 0} → (F → ℕ → Bool → F → Type 0) → ℕ → F → List (Option ℕ) → F → List (Option ℕ) → ℕ → Type 0
LeadsTo step owner f₀ owners₀ f owners index =
    (accepted : List ℕ) → Accepts step f (indices_from owner index owners) accepted
    → (all : List ℕ) × Accepts step f₀ (set_bits (map (is_owned_by owner) owners₀)) all × (without all owners₀ ≡ without accepted owners)

module _ {F : Type 0} (step : F → ℕ → Bool → F → Type 0) (owner : ℕ) (f₀ : F) (owners₀ : List (Option ℕ)) where
  pub LeadsTo-start : LeadsTo step owner f₀ owners₀ f₀ owners₀ 0
  LeadsTo-start accepted asked = (accepted, asked, refl)

  module _ (f : F) (owners : List (Option ℕ)) (index : ℕ) (leads : LeadsTo step owner f₀ owners₀ f owners index) where
    pub LeadsTo-end : length owners ≤ index → (all : List ℕ) × Accepts step f₀ (set_bits (map (is_owned_by owner) owners₀)) all × (owners ≡ without all owners₀)
    LeadsTo-end past =
        let whole = leads [] (rw (indices_from-end owner index owners past) refl) in
        (whole.0, whole.1, sym whole.2)

    module _ (within : index < length owners) where
      pub LeadsTo-other : is_owned_by owner (get_or owners index None) ≡ false → LeadsTo step owner f₀ owners₀ f owners (index + 1)
      LeadsTo-other other accepted asked = leads accepted (rw (indices_from-other owner index owners within other) asked)

      module _ (own : is_owned_by owner (get_or owners index None) ≡ true) (after : F) where
        pub LeadsTo-no : step f index false after → LeadsTo step owner f₀ owners₀ after owners (index + 1)
        LeadsTo-no said accepted asked =
            leads accepted (rw (indices_from-own owner index owners within own) (false, after, accepted, said, asked, refl))

        pub LeadsTo-yes : step f index true after → LeadsTo step owner f₀ owners₀ after (set owners index None) (index + 1)
        LeadsTo-yes said accepted asked =
            leads (index ∷ accepted) (rw (indices_from-own owner index owners within own) (
              true,
              after,
              accepted,
              said,
              subst (λ indices. Accepts step after indices accepted) (indices_from-freed owner index owners) asked,
              refl,
            ))
