-- The accesses that a call made, as a list whose first is the last access.
use Rattle.std.specs.Prelude.{◌≡◌, ℕ, ◌⊎◌, List, [], ◌∷◌, Option}
use Rattle.iox_steps.specs.declared.access.Progress.{Progress}
use Rattle.iox_steps.specs.declared.machine.Entry.{Entry}
use Rattle.iox_steps.specs.declared.machine.Entry.TheVariants.{Begin, Step}

-- One access of a call: the words that it found, and its event, if there is one.
pub record Turn (E : Type 0) : Type 0 where
  pub found : List ℕ
  pub event : Option E

-- it holds of at least one of these accesses
abbrev pub AtSome : {A : Type 0} → (A → Type 0) → List A → Type 0
AtSome Is [] = ⊥
AtSome Is (last ∷ earlier) = Is last ⊎ AtSome Is earlier

-- it holds of each of these accesses
abbrev pub AtEach : {A : Type 0} → (A → Type 0) → List A → Type 0
AtEach Is [] = Unit {0}
AtEach Is (last ∷ earlier) = Is last × AtEach Is earlier

-- A schedule, entry by entry: each begins a call, is one event, or changes nothing.
module _ {W C R : Type 0} (Begins : W → ℕ → C → W → Type 0)
    (Event : W → ℕ → Progress R → W → Type 0) where
  -- what a schedule came to: from old to new, each entry begins a call, is one event, or changes
  -- nothing
  abbrev pub IsInterleavingOf : W → List (Entry C) → W → Type 0
  IsInterleavingOf old [] new = new ≡ old
  IsInterleavingOf old (Begin number call ∷ entries) new = (mid : W)
      × ((Begins old number call mid ⊎ (mid ≡ old)) × IsInterleavingOf mid entries new)
  IsInterleavingOf old (Step number ∷ entries) new = (mid : W)
      × ((((answer : Progress R) × Event old number answer mid) ⊎ (mid ≡ old))
      × IsInterleavingOf mid entries new)
