-- The words of signed numbers keep the laws of words.
use Rattle.std.proofs.Common.{ℕ, ◌≡◌, ◌<◌, ◌≤◌, ◌^◌}
use Rattle.std.specs.Prelude.{ℤ, FitsSigned}
use Rattle.std.specs.Int.{Width, w128, cast_unsigned, cast_signed}
use Rattle.std.proofs.lemmas.Int.{to_z-of_z, of_z-to_z}
use mir.Val.{bits}
use mir.ValLaws.{of_z_fits, to_z-Fits}
use mir.Facts.{Fits-of_lt}
use Rattle.iox_words.specs.WordLists.{AreWords}
use Rattle.iox_words.specs.WordLaws.{AreWords-option_map}
use Rattle.iox_words.specs.Numbers.{one_word, IsOneWord, of_one_word, two_words, IsTwoWords, of_two_words, signed_word, of_signed_word, signed_words, of_signed_words}
use Rattle.iox_words.specs.NumberLaws.{one_word_is_a_number, two_words_are_a_number}

-- a signed number is an unsigned one of its width, and is read back from it
signed_there : (w : Width) (z : ℤ) → FitsSigned w z → (cast_unsigned w z < 2 ^ bits w) × (cast_signed w
    (cast_unsigned w z) ≡ z)
signed_there w z h = ((of_z_fits w z h).fits, to_z-of_z w z h)

-- an unsigned number of that width is a signed one's, and is read back from it
signed_here : (w : Width) (n : ℕ) → n < 2 ^ bits w → FitsSigned w (cast_signed w n) × (cast_unsigned w
    (cast_signed w n) ≡ n)
signed_here w n h = (to_z-Fits w n (Fits-of_lt h), of_z-to_z w n h)

-- one word is a signed number of its width
pub one_word_is_a_signed_number : (w : Width) → 2 ^ bits w ≤ 2 ^ 64 →
    AreWords 1 (FitsSigned w) (signed_word w) (IsOneWord (2 ^ bits w)) (of_signed_word w)
one_word_is_a_signed_number w within =
    AreWords-option_map 1 (λ n. n < 2 ^ bits w) one_word (IsOneWord (2 ^ bits w)) (of_one_word (2 ^ bits w))
    (FitsSigned w) (cast_unsigned w) (cast_signed w) (one_word_is_a_number (2 ^ bits w) within)
    (signed_there w) (signed_here w)

-- two words are a signed number of 128 bits
pub two_words_are_a_signed_number : AreWords 2 (FitsSigned w128) signed_words IsTwoWords of_signed_words
two_words_are_a_signed_number =
    AreWords-option_map 2 (λ n. n < 2 ^ 128) two_words IsTwoWords of_two_words
    (FitsSigned w128) (cast_unsigned w128) (cast_signed w128) two_words_are_a_number (signed_there w128)
    (signed_here w128)
