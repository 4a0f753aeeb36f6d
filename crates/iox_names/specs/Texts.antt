-- A text is a list of bytes from 1 to 127 that is not too long; texts are compared by their bytes.
use Rattle.std.specs.Prelude.{ℕ, ◌≤◌, Bool, List, length, nat_le, nat_eq, not, IsTrue, Option, Some, None, if◌then◌else◌}
use Rattle.std.specs.Cmp.Lexicographic.{pointwise, slice_cmp}
use Rattle.std.specs.Ordering.{nat_cmp}
use Rattle.std.specs.declared.cmp.Ordering.{Ordering}
use Rattle.iox_words.specs.WordLists.{is_text}
use Rattle.iox_names.specs.declared.text_error.TextError.{TextError}
use Rattle.iox_names.specs.declared.text_error.TextError.TheVariants.{ExceedsMaximumLength, InvalidContent}

-- why these bytes are no text of that length at most: the first test that fails
abbrev pub text_refusal : ℕ → List ℕ → Option TextError
text_refusal max bytes =
    if not (nat_le (length bytes) max) then Some ExceedsMaximumLength
    else if not (is_text bytes) then Some InvalidContent
    else None

-- these bytes are a text of that length at most
pub record IsTextWithin (max : ℕ) (bytes : List ℕ) : Type 0 where
  pub within : length bytes ≤ max
  pub text : IsTrue (is_text bytes)

-- two texts are equal if their bytes are
abbrev pub text_eq : List ℕ → List ℕ → Bool
text_eq = pointwise nat_eq

-- at the first byte that differs the lesser byte is before the greater; a text is before what it is the front of
abbrev pub text_cmp : List ℕ → List ℕ → Ordering
text_cmp = slice_cmp nat_cmp
