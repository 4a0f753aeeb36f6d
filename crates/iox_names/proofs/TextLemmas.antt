-- A text is UTF-8, and is held once it is copied to the front of zeros.
use Rattle.std.proofs.Common.{ℕ, ◌≡◌, ◌-◌, ◌≤◌, true, List, [], ◌∷◌, ◌++◌, ◌+◌, length, take, drop, replicate, refl, ap, arith, length-append, length-drop}
use Rattle.std.specs.Prelude.{IsTrue}
use Rattle.std.specs.Str.{IsAscii, IsUtf8}
use Rattle.std.proofs.lemmas.Str.{IsUtf8-from_ascii}
use Rattle.std.proofs.lemmas.Str.Ascii.{IsAscii-nil, IsAscii-cons}
use Rattle.std.proofs.lemmas.List.{take_at, drop-replicate, length-replicate}
use Rattle.std.proofs.lemmas.Bool.Decides.{nat_tests}
use Rattle.iox_words.specs.WordLists.{is_text}
use Rattle.iox_names.specs.Padding.{HoldsText}

IsAscii-text : (text : List ℕ) → is_text text ≡ true → IsAscii text
IsAscii-text [] h = IsAscii-nil
IsAscii-text (byte ∷ text) h = IsAscii-cons byte text (grind (arith, nat_tests)) (IsAscii-text text
    (grind (arith, nat_tests)))

-- a text is UTF-8
pub IsUtf8-text : (text : List ℕ) → IsTrue (is_text text) → IsUtf8 text
IsUtf8-text text h = IsUtf8-from_ascii text (IsAscii-text text h)

-- zeros whose front is a text hold the text
pub HoldsText-copy : (max : ℕ) (text : List ℕ) → length text ≤ max → IsTrue (is_text text) →
    HoldsText max (text ++ drop (length text) (replicate max 0)) (length text)
HoldsText-copy max text short is =
    let front : take (length text) (text ++ drop (length text) (replicate max 0)) ≡ text = take_at text
    (drop (length text) (replicate max 0)) (length text) refl in
    let zeros : List ℕ = replicate max 0 in
    let sum : length (text ++ drop (length text) zeros) ≡ length text + length (drop
    (length text) zeros) = length-append text (drop (length text) zeros) in
    let rest : length (drop (length text) zeros) ≡ max - length text =
    rw (length-drop (length text) zeros, length-replicate {A = ℕ} max 0) refl in
    record {
      sized = omega arith;
      within = short;
      padding = rw front (ap (λ (zeros : List ℕ). text ++ zeros) (drop-replicate (length text) max 0));
      text = rw front is;
    }
