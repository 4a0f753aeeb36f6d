-- When a word is a text.
use Rattle.std.proofs.Common.{◌≡◌, ◌↔◌, IsTrue, ℕ, ◌<◌, ◌%◌, Bool, false, List, [], ◌∷◌, length, is_ok, Result, Ok, Err, refl, sym, ap, ◌∙◌, inl, inr, arith}
use Rattle.std.specs.List.{AllPass}
use Rattle.hex.specs.Hex.{decode_of, is_hex_digit}
use Rattle.hex.proofs.HexLemmas.{decode_of-digits, decode_of-ok}
use Rattle.hex.specs.declared.error.FromHexError.{FromHexError}
use Rattle.std.proofs.lemmas.Bool.{cases_Bool, false≢true}
use Rattle.iox_script.specs.Numerals.{bytes_of, decoded}

bytes_of-some : (word : List ℕ) → 0 < length word → bytes_of word ≡ decoded (decode_of word)
bytes_of-some [] some = absurd (omega arith)
bytes_of-some (digit ∷ digits) some = refl

refused : (r : Result (List ℕ) FromHexError) → ((bytes : List ℕ) → r ≡ Ok bytes → ⊥) → is_ok (decoded r) ≡ false
refused (Ok bytes) never = absurd (never bytes refl)
refused (Err error) never = refl

-- an even number of digits is a text, and with another byte among them it is none
pub bytes_of-even : (word : List ℕ) (digits : Bool) → 0 < length word → length word % 2 ≡ 0 → (IsTrue digits ↔ AllPass is_hex_digit word) → digits ≡ is_ok (bytes_of word)
bytes_of-even word digits some even all =
    let shown = ap is_ok (bytes_of-some word some) in
    elim (cases_Bool digits) [
      | inl yes' ↦
          let read = decode_of-digits word even (all.0 yes') in
          yes' ∙ sym (shown ∙ ap (λ r. is_ok (decoded r)) read.1)
      | inr no' ↦ no' ∙ sym (shown ∙ refused (decode_of word) (λ bytes read. false≢true (sym no' ∙ all.1 (decode_of-ok word bytes read).1)))
    ]
