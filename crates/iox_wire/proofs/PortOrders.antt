-- The numbers of ports ascend exactly if each is below the next one.
use Rattle.std.specs.Prelude.{◌&&◌, nat_lt}
use Rattle.std.specs.List.{IsAllAdjacentAnswer, list_all}
use Rattle.std.proofs.Common.{◌≡◌, ℕ, zero, suc, ◌+◌, ◌<◌, Bool, true, false, List, [], ◌∷◌, length, map, get_or, refl, sym, subst, ◌∙◌, arith, true≢false}
use Rattle.std.proofs.lemmas.Bool.{lt-ltb, ltb-true}
use Rattle.iox_laws.specs.ServiceLaws.Listings.{are_ascending}
use Rattle.iox_laws.proofs.WeaveLaws.WholeLemmas.{split}
use Rattle.iox_laws.proofs.WeaveLedger.Truths.{both_true}
use Rattle.iox_wire_weaves.specs.PlanPort.{PlanPort}

abbrev numbers : List PlanPort → List ℕ
numbers ps = map (λ p. p.number) ps

-- the port at k has a lower number than the next one
abbrev IsBelowNext : List PlanPort → ℕ → PlanPort → Type 0
IsBelowNext ps k d = nat_lt (get_or ps k d).number (get_or ps (k + 1) d).number ≡ true

one_more : (k : ℕ) → suc k + 1 ≡ suc (k + 1)
one_more k = omega arith

-- what is below a number is below those above it
below_all : (n m : ℕ) (ns : List ℕ) → nat_lt n m ≡ true → list_all (nat_lt m) ns ≡ true → list_all (nat_lt n) ns ≡ true
below_all n m [] less all = refl
below_all n m (k ∷ ks) less all =
    let both : (nat_lt m k ≡ true) × (list_all (nat_lt m) ks ≡ true) = split (nat_lt m k) (list_all (nat_lt m) ks) all in
    both_true (nat_lt n k) (list_all (nat_lt n) ks) (further (ltb-true n m less) (ltb-true m k both.0)) (below_all n m ks less both.1)
  where
    further : n < m → m < k → nat_lt n k ≡ true
    further a b = lt-ltb n k (omega (arith, a, b))

rises : (ps : List PlanPort) → ((k : ℕ) (d : PlanPort) → k + 1 < length ps → IsBelowNext ps k d) → are_ascending (numbers ps) ≡ true
rises [] each = refl
rises (p ∷ []) each = refl
rises (p ∷ q ∷ ps) each =
    let less : nat_lt p.number q.number ≡ true = each 0 p (omega arith) in
    let rest : are_ascending (numbers (q ∷ ps)) ≡ true = rises (q ∷ ps) later in
    both_true (list_all (nat_lt p.number) (numbers (q ∷ ps))) (are_ascending (numbers (q ∷ ps)))
    (both_true (nat_lt p.number q.number) (list_all (nat_lt p.number) (numbers ps)) less
    (below_all p.number q.number (numbers ps) less (split (list_all (nat_lt q.number) (numbers ps)) (are_ascending (numbers ps)) rest).0))
    rest
  where
    later : (k : ℕ) (d : PlanPort) → k + 1 < length (q ∷ ps) → IsBelowNext (q ∷ ps) k d
    later k d low =
        subst (λ j. nat_lt (get_or (q ∷ ps) k d).number (get_or (p ∷ q ∷ ps) j d).number ≡ true) (one_more k) (each (suc k) d (omega (arith, low)))

falls : (ps : List PlanPort) → are_ascending (numbers ps) ≡ true → (k : ℕ) (d : PlanPort) → k + 1 < length ps → IsBelowNext ps k d
falls [] up k d low = absurd (let no : ⊥ = omega (arith, low) in no)
falls (p ∷ []) up k d low = absurd (let no : ⊥ = omega (arith, low) in no)
falls (p ∷ q ∷ ps) up zero d low =
    (split (nat_lt p.number q.number) (list_all (nat_lt p.number) (numbers ps))
    (split (list_all (nat_lt p.number) (numbers (q ∷ ps))) (are_ascending (numbers (q ∷ ps))) up).0).0
falls (p ∷ q ∷ ps) up (suc k) d low =
    subst (λ j. nat_lt (get_or (q ∷ ps) k d).number (get_or (p ∷ q ∷ ps) j d).number ≡ true) (sym (one_more k))
    (falls (q ∷ ps) (split (list_all (nat_lt p.number) (numbers (q ∷ ps))) (are_ascending (numbers (q ∷ ps))) up).1 k d (omega (arith, low)))

-- what a test of neighbours answers
pub ordered : (ps : List PlanPort) (r : Bool) → IsAllAdjacentAnswer (λ (x y : PlanPort) b. b ≡ nat_lt x.number y.number) ps r
    → are_ascending (map (λ (p : PlanPort). p.number) ps) ≡ r
ordered ps true each = rises ps (λ k d low. sym (each k d low))
ordered [] false some = absurd (let no : ⊥ = omega (arith, some.1) in no)
ordered (p ∷ ps) false some = by_case (are_ascending (numbers (p ∷ ps))) refl
  where
    by_case : (b : Bool) → are_ascending (numbers (p ∷ ps)) ≡ b → are_ascending (numbers (p ∷ ps)) ≡ false
    by_case true up = absurd (true≢false (sym (falls (p ∷ ps) up some.0 p some.1) ∙ sym (some.2 p)))
    by_case false is = is
