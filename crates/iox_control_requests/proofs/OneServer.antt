-- Where a hub has one server.
use Rattle.std.specs.Prelude.{◌≡◌, ℕ, ◌≤◌, Bool, false, if◌then◌else◌, ◌==◌, List, [], ◌∷◌, length, Some, None, slice_get}
use Rattle.std.proofs.Common.{sym, ap, ◌∙◌, arith}
use Rattle.std.proofs.lemmas.Option.{none-some, same_Some}
use Rattle.iox_hub_ports.specs.InPlace.{only_of}

two_or_more : (n : ℕ) → 2 ≤ n → (n == 1) ≡ false
two_or_more n many = grind (arith, many)

-- a place that is told as the only one is the only one
pub only_is : (places : List ℕ) (place : ℕ) → only_of places ≡ Some place → places ≡ place ∷ []
only_is [] place e = absurd (none-some place e)
only_is (x ∷ []) place e = ap (λ n. n ∷ []) (same_Some x place e)
only_is (x ∷ y ∷ places) place e =
    absurd (none-some place (ap (λ (b : Bool). if b then Some x else None) (sym (two_or_more (length (x ∷ y ∷ places)) (omega arith))) ∙ e))

-- it is of the first rank, and there is no other
pub is_first : (places : List ℕ) (place : ℕ) → places ≡ place ∷ [] → slice_get places 0 ≡ Some place
is_first places place only = ap (λ ps. slice_get ps 0) only

pub no_second : (places : List ℕ) (place : ℕ) → places ≡ place ∷ [] → length places ≤ 1
no_second places place only = let one : length places ≡ 1 = ap length only in omega (arith, one)
