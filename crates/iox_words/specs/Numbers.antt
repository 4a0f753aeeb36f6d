-- The words of the numbers of std.
use Rattle.std.specs.Prelude.{ℕ, ℤ, ◌≡◌, ◌==◌, ◌+◌, ◌*◌, ◌/◌, ◌%◌, ◌^◌, ◌<◌, ◌&&◌, Bool, List, [], ◌∷◌, Option, Some, None, nat_lt, if◌then◌else◌, option_map}
use Rattle.std.specs.Int.{Width, w128, cast_unsigned, cast_signed}
use mir.Val.{bits}

-- one word
abbrev pub one_word : ℕ → List ℕ
one_word n = n ∷ []

-- a list of one word, below a limit
abbrev pub IsOneWord : ℕ → List ℕ → Type 0
IsOneWord limit (word ∷ []) = word < limit
IsOneWord limit _ = ⊥

-- the number of such a list
abbrev pub of_one_word : ℕ → List ℕ → Option ℕ
of_one_word limit (word ∷ []) = if nat_lt word limit then Some word else None
of_one_word limit _ = None

-- two words, the more significant first
abbrev pub two_words : ℕ → List ℕ
two_words n = n / 2 ^ 64 ∷ n % 2 ^ 64 ∷ []

-- a list of two words
abbrev pub IsTwoWords : List ℕ → Type 0
IsTwoWords (high ∷ low ∷ []) = (high < 2 ^ 64) × (low < 2 ^ 64)
IsTwoWords _ = ⊥

-- the number of such a list
abbrev pub of_two_words : List ℕ → Option ℕ
of_two_words (high ∷ low ∷ []) = if nat_lt high (2 ^ 64) && nat_lt low (2 ^ 64) then Some
    (high * 2 ^ 64 + low) else None
of_two_words _ = None

-- the word of a signed number: its bits in two's complement
abbrev pub signed_word : Width → ℤ → List ℕ
signed_word width z = one_word (cast_unsigned width z)

-- the signed number of a list of one word
abbrev pub of_signed_word : Width → List ℕ → Option ℤ
of_signed_word width list = option_map (cast_signed width) (of_one_word (2 ^ bits width) list)

-- the words of a signed number of 128 bits
abbrev pub signed_words : ℤ → List ℕ
signed_words z = two_words (cast_unsigned w128 z)

-- the signed number of a list of two words
abbrev pub of_signed_words : List ℕ → Option ℤ
of_signed_words list = option_map (cast_signed w128) (of_two_words list)

-- the word of a bool
abbrev pub bool_word : Bool → List ℕ
bool_word b = one_word (if b then 1 else 0)

-- the bool of a list of one word
abbrev pub of_bool_word : List ℕ → Option Bool
of_bool_word list = option_map (λ n. n == 1) (of_one_word 2 list)

-- the unit has no words
abbrev pub no_word : Unit {0} → List ℕ
no_word _ = []

-- a list of no words
abbrev pub IsNoWord : List ℕ → Type 0
IsNoWord list = list ≡ []

-- the unit of such a list
abbrev pub of_no_word : List ℕ → Option (Unit {0})
of_no_word [] = Some tt
of_no_word (_ ∷ _) = None
