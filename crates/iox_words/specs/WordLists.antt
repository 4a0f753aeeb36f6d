-- Values as lists of words: the laws of a type's words.
use Rattle.std.specs.Prelude.{ℕ, ◌≡◌, ◌<◌, ◌^◌, ◌&&◌, Bool, List, length, All, Option, Some, MatchOption, nat_lt}
use Rattle.std.specs.List.{list_all}

-- The laws of a type's words: how many there are, which values there are, a value's words, which
-- lists are such words, and a list's value.
pub record AreWords {V : Type 0} (count : ℕ) (is_value : V → Type 0) (words : V → List ℕ)
    (is_words : List ℕ → Type 0) (of_words : List ℕ → Option V) : Type 0 where
  -- words of the type have the length that the type says
  pub counted : (list : List ℕ) → is_words list → length list ≡ count
  -- each of them has 64 bits
  pub bounded : (list : List ℕ) → is_words list → All (λ word. word < 2 ^ 64) list
  -- the words of a value are words of the type
  pub meets : (value : V) → is_value value → is_words (words value)
  -- a value is read back from its words
  pub back : (value : V) → is_value value → of_words (words value) ≡ Some value
  -- a list gives no value if it is not words of the type, else the value whose words it is
  pub forth : (list : List ℕ) →
      MatchOption (of_words list) (is_words list → ⊥)
      (λ value. is_words list × is_value value × (words value ≡ list))

-- a byte of a text: 1 to 127
abbrev pub is_text_byte : ℕ → Bool
is_text_byte byte = nat_lt 0 byte && nat_lt byte 128

-- each byte is one of a text
abbrev pub is_text : List ℕ → Bool
is_text bytes = list_all is_text_byte bytes

-- a type's name is a text of one byte at least
abbrev pub is_name : List ℕ → Bool
is_name name = nat_lt 0 (length name) && is_text name
