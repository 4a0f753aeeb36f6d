-- A number, read digit by digit.
use Rattle.std.proofs.Common.{◌≡◌, ℕ, ◌+◌, ◌-◌, ◌*◌, ◌<◌, ◌≤◌, true, false, ◌&&◌, List, [], ◌∷◌, length, nat_lt, if◌then◌else◌, Some, None, Result, Ok, Err, inl, inr, ◌∙◌, arith}
use Rattle.std.specs.Char.{digit_value}
use Rattle.std.specs.List.{list_all}
use Rattle.std.specs.Str.Parse.{digits_value_after}
use Rattle.std.proofs.lemmas.Bool.{cases_Bool, cond-false, ltb-false, lt-ltb, le-ltb, and_right}
use Rattle.std.proofs.lemmas.Bool.Decides.{nat_tests}
use Rattle.iox_script.specs.declared.command.LineCause.{LineCause}
use Rattle.iox_script.specs.declared.command.LineCause.TheVariants.{BadNumber}
use Rattle.iox_script.specs.Numerals.{is_digit, number_below}

-- the number that further digits make of the number so far, if it is below the bound
abbrev pub number_after : ℕ → ℕ → List ℕ → Result ℕ LineCause
number_after bound number rest =
    if list_all is_digit rest && nat_lt (digits_value_after 10 number rest) bound then Ok (digits_value_after 10 number rest) else Err BadNumber

pub number_below-after : (bound : ℕ) (word : List ℕ) → 0 < length word → number_below bound word ≡ number_after bound 0 word
number_below-after bound [] some = absurd (omega arith)
number_below-after bound (byte ∷ word) some = rw (lt-ltb 0 (length (byte ∷ word)) some)

pub digit_value-digit : (byte : ℕ) → is_digit byte ≡ true → digit_value byte ≡ byte - 48
digit_value-digit byte digit = grind (arith, nat_tests)

digits_value_after-ge : (number : ℕ) (rest : List ℕ) → number ≤ digits_value_after 10 number rest
digits_value_after-ge number [] = omega arith
digits_value_after-ge number (byte ∷ rest) = omega (arith, digits_value_after-ge (number * 10 + digit_value byte) rest)

pub number_after-digit : (bound number byte : ℕ) (rest : List ℕ) → is_digit byte ≡ true → number_after bound number (byte ∷ rest) ≡ number_after bound (number * 10 + (byte - 48)) rest
number_after-digit bound number byte rest digit = rw (digit, digit_value-digit byte digit)

pub number_after-other : (bound number byte : ℕ) (rest : List ℕ) → is_digit byte ≡ false → number_after bound number (byte ∷ rest) ≡ Err BadNumber
number_after-other bound number byte rest other = rw other

pub number_after-over : (bound number byte : ℕ) (rest : List ℕ) → is_digit byte ≡ true → bound ≤ number * 10 + (byte - 48) → number_after bound number (byte ∷ rest) ≡ Err BadNumber
number_after-over bound number byte rest digit over =
    let next = number * 10 + (byte - 48) in
    let high : bound ≤ digits_value_after 10 next rest = omega (arith, digits_value_after-ge next rest) in
    number_after-digit bound number byte rest digit ∙ cond-false _ _ _ (and_right (list_all is_digit rest) _ (le-ltb _ _ high))

pub number_after-stop : (bound number byte : ℕ) (rest : List ℕ)
    → None ≡ (if is_digit byte && nat_lt (number * 10 + (byte - 48)) bound then Some (number * 10 + (byte - 48)) else None)
    → number_after bound number (byte ∷ rest) ≡ Err BadNumber
number_after-stop bound number byte rest gives =
    let longer = number * 10 + (byte - 48) in
    elim (cases_Bool (is_digit byte)) [
      | inl digit ↦
          elim (cases_Bool (nat_lt longer bound)) [
            | inl below ↦ cc (rw (digit, below) at gives)
            | inr over ↦ number_after-over bound number byte rest digit (ltb-false longer bound over)
          ]
      | inr other ↦ number_after-other bound number byte rest other
    ]
