-- What a word says as a number or as a text.
use Rattle.std.specs.Prelude.{ℕ, ◌^◌, ◌&&◌, Bool, List, [], ◌∷◌, length, nat_lt, nat_le, if◌then◌else◌, Result, Ok, Err}
use Rattle.std.specs.List.{list_all}
use Rattle.std.specs.Str.Parse.{digits_value}
use Rattle.hex.specs.Hex.{decode_of}
use Rattle.iox_script.specs.declared.command.LineCause.{LineCause}
use Rattle.iox_script.specs.declared.command.LineCause.TheVariants.{BadNumber, BadText}

-- one of `0` to `9`
abbrev pub is_digit : ℕ → Bool
is_digit byte = nat_le 48 byte && nat_le byte 57

-- one digit or more, and nothing else
abbrev pub is_numeral : List ℕ → Bool
is_numeral word = nat_lt 0 (length word) && list_all is_digit word

-- the number that the word's digits write, if it is below the bound
abbrev pub number_below : ℕ → List ℕ → Result ℕ LineCause
number_below bound word =
    if is_numeral word && nat_lt (digits_value 10 word) bound then Ok (digits_value 10 word)
    else Err BadNumber

-- a number of 64 bits
abbrev pub number_of : List ℕ → Result ℕ LineCause
number_of word = number_below (2 ^ 64) word

-- a number of 32 bits, as in a node's id
abbrev pub id_number_of : List ℕ → Result ℕ LineCause
id_number_of word = number_below (2 ^ 32) word

-- what hexadecimal digits decode to, or the cause
abbrev pub decoded : {E : Type 0} → Result (List ℕ) E → Result (List ℕ) LineCause
decoded (Ok bytes) = Ok bytes
decoded (Err _) = Err BadText

-- the bytes that the word's hexadecimal digits write: two digits a byte, of either case, and at least
-- one byte
abbrev pub bytes_of : List ℕ → Result (List ℕ) LineCause
bytes_of [] = Err BadText
bytes_of (digit ∷ digits) = decoded (decode_of (digit ∷ digits))
