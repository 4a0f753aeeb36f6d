-- What a cell shows, and what holds of it.
use Rattle.std.specs.Prelude.{ℕ, ◌≡◌, ◌≤◌, List, length, flat_map, All}
use Rattle.iox_store.specs.Stored.{StoredMessage}

-- a cell as words: the words of an element, those of the user header, for how many elements it was
-- lent, for how many it may be lent, and the filled ones
abbrev pub stored_as : {E : Type 0} → (E → List ℕ) → List ℕ → ℕ → ℕ → List E → StoredMessage
stored_as words user elements room items = record {
  room = room;
  elements = elements;
  filled = length items;
  user = user;
  payload = flat_map words items;
}

-- No more elements are filled than it was lent for. There is memory for these, and for as many as
-- it may be lent for. User header and elements have as many words as their types say.
pub record IsCell {E : Type 0} (count : ℕ) (words : E → List ℕ) (user_count : ℕ)
    (user_words : List ℕ) (elements room capacity : ℕ) (items : List E) : Type 0 where
  pub within : length items ≤ elements
  pub fits : elements ≤ capacity
  pub kept : room ≤ capacity
  pub user : length user_words ≡ user_count
  pub payload : All (λ item. length (words item) ≡ count) items
