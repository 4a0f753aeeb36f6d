-- How a message is filled with what a closure answers.
use Rattle.std.specs.Prelude.{ℕ, suc, ◌≡◌, List, [], ◌∷◌, flat_map, length}
use Rattle.iox_store.specs.Stored.{StoredMessage, filled_with}

-- The closure is asked for one number after the other, from the first on, and answers these values.
abbrev pub GivesInTurn : {F E : Type 0} → (F → ℕ → E → F → Type 0) → F → ℕ → List E → F → Type 0
GivesInTurn step f first [] last = f ≡ last
GivesInTurn {F} step f first (value ∷ values) last =
    (after : F) × step f first value after × GivesInTurn step after (suc first) values last

-- From old, each element is filled with what the closure answers for its index, which leaves new.
pub record FillsByAnswers {F E : Type 0} (words : E → List ℕ) (step : F → ℕ → E → F → Type 0)
    (f : F) (old new : StoredMessage) : Type 0 where
  pub values : List E
  pub last : F
  pub answered : GivesInTurn step f 0 values last
  -- one for each element
  pub count : length values ≡ old.elements
  -- the payload is their words, and nothing else changed
  pub left : new ≡ filled_with old (flat_map words values)
