-- The digits of small numbers.
use Rattle.std.proofs.Common.{◌≡◌, ℕ, ◌+◌, ◌/◌, ◌%◌, ◌<◌, ◌≤◌, List, [], ◌∷◌, ◌++◌, decimal, if◌then◌else◌, is_ok, Result, Ok, Err, OnOk, sym, ap, ◌∙◌, arith}
use Rattle.std.proofs.lemmas.Fmt.{decimal_digit, decimal_step}

pub one_digit : (n : ℕ) → n < 10 → 32 ∷ (48 + n) ∷ [] ≡ 32 ∷ decimal n
one_digit n small = ap (λ ds. 32 ∷ ds) (sym (decimal_digit n small))

two : (n : ℕ) → 10 ≤ n → n / 10 < 10 → decimal n ≡ (48 + n / 10) ∷ (48 + n % 10) ∷ []
two n some small =
    decimal_step n some (omega arith) ∙ ap (λ ds. ds ++ (48 + n % 10) ∷ []) (decimal_digit (n / 10) small)

pub two_digits : (n : ℕ) → 10 ≤ n → n / 10 < 10 → 32 ∷ (48 + n / 10) ∷ (48 + n % 10) ∷ [] ≡ 32 ∷ decimal n
two_digits n some small = ap (λ ds. 32 ∷ ds) (sym (two n some small))

pub three_digits : (n : ℕ) → 10 ≤ n → 10 ≤ n / 10 → n / 10 < 100
    → 32 ∷ (48 + n / 10 / 10) ∷ (48 + n / 10 % 10) ∷ (48 + n % 10) ∷ [] ≡ 32 ∷ decimal n
three_digits n some more small =
    ap (λ ds. 32 ∷ ds) (sym (decimal_step n some (omega arith) ∙ ap (λ ds. ds ++ (48 + n % 10) ∷ []) (two (n / 10) more (omega arith))))

-- what an extension wrote, if it found memory
pub written_so : {E : Type 0} (r : Result (Unit {0}) E) (new old other text : List ℕ) → new ≡ (if is_ok r then old ++ other else old) → other ≡ text
    → OnOk r (new ≡ old ++ text)
written_so (Ok x) new old other text wrote same = wrote ∙ ap (λ t. old ++ t) same
written_so (Err e) new old other text wrote same = tt
