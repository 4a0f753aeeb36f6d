-- Ports of a list: found by their numbers, and sums over those of a role.
use Rattle.std.specs.Prelude.{zero, suc}
use Rattle.std.proofs.Common.{◌≡◌, ℕ, ◌+◌, ◌<◌, Bool, true, false, if◌then◌else◌, ◌==◌, eq-eqb, eqb-true, List, [], ◌∷◌, length, map, take, get_or, refl, ap, sym, ◌∙◌, inl, inr, true≢false, arith, Some}
use Rattle.std.specs.Prelude.{filter}
use Rattle.std.specs.List.{find, sum_by}
use Rattle.std.proofs.lemmas.Bool.{cases_Bool}
use Rattle.std.proofs.lemmas.List.Sums.{sum_by-cons}
use Rattle.iox_model.specs.Maps.{has_number, AreDistinct}
use Rattle.iox_word_map.specs.Stretches.{sum_of, sum_before}
use Rattle.iox_word_places.specs.declared.plan.PlanPort.{PlanPort}

abbrev pub numbers : List PlanPort → List ℕ
numbers ps = map (λ p. p.number) ps

-- the numbers of the ports that pass
abbrev pub names : (PlanPort → Bool) → List PlanPort → List ℕ
names t ps = map (λ p. p.number) (filter t ps)

-- ---- found by their numbers

pub has_at : (ps : List PlanPort) (i : ℕ) (d : PlanPort) → i < length ps → has_number (get_or ps i d).number (numbers ps) ≡ true
has_at [] i d low = absurd (omega arith)
has_at (p ∷ ps) zero d low = rw (eq-eqb p.number p.number refl) refl
has_at (p ∷ ps) (suc i) d low = elim (cases_Bool (p.number == (get_or ps i d).number)) [
  | inl same ↦ rw same refl
  | inr other ↦ (let there : has_number (get_or ps i d).number (numbers ps) ≡ true = has_at ps i d (omega arith) in rw other there)
]

differs : (p : PlanPort) (ps : List PlanPort) (i : ℕ) (d : PlanPort) → has_number p.number (numbers ps) ≡ false → i < length ps
    → (p.number == (get_or ps i d).number) ≡ false
differs p ps i d alone low = elim (cases_Bool (p.number == (get_or ps i d).number)) [
  | inl same ↦ (
      let e : p.number ≡ (get_or ps i d).number = eqb-true p.number (get_or ps i d).number same in
      let there : has_number (get_or ps i d).number (numbers ps) ≡ true = has_at ps i d low in
      let none : has_number (get_or ps i d).number (numbers ps) ≡ false = ap (λ k. has_number k (numbers ps)) (sym e) ∙ alone in
      absurd (true≢false (sym there ∙ none))
      )
  | inr other ↦ other
]

-- the port of its number is the port
pub find_at : (ps : List PlanPort) (i : ℕ) (d : PlanPort) → AreDistinct (numbers ps) → i < length ps
    → find (λ p. p.number == (get_or ps i d).number) ps ≡ Some (get_or ps i d)
find_at [] i d apart low = absurd (omega arith)
find_at (p ∷ ps) zero d apart low = rw (eq-eqb p.number p.number refl) refl
find_at (p ∷ ps) (suc i) d apart low =
    let other : (p.number == (get_or ps i d).number) ≡ false = differs p ps i d apart.0 (omega arith) in
    let there : find (λ q. q.number == (get_or ps i d).number) ps ≡ Some (get_or ps i d) = find_at ps i d apart.1 (omega arith) in
    rw other there

-- ---- among those that pass

pub named_at : (t : PlanPort → Bool) (ps : List PlanPort) (i : ℕ) (d : PlanPort) → i < length ps → t (get_or ps i d) ≡ true
    → has_number (get_or ps i d).number (names t ps) ≡ true
named_at t [] i d low passes = absurd (omega arith)
named_at t (p ∷ ps) zero d low passes = rw passes (rw (eq-eqb p.number p.number refl) refl)
named_at t (p ∷ ps) (suc i) d low passes = elim (cases_Bool (t p)) [
  | inl does ↦ elim (cases_Bool (p.number == (get_or ps i d).number)) [
    | inl same ↦ rw does (rw same refl)
    | inr other ↦ (let there : has_number (get_or ps i d).number (names t ps) ≡ true = named_at t ps i d (omega arith) passes in rw does (rw other there))
  ]
  | inr lacks ↦ (let there : has_number (get_or ps i d).number (names t ps) ≡ true = named_at t ps i d (omega arith) passes in rw lacks there)
]

-- who is not there at all does not pass
unnamed : (t : PlanPort → Bool) (n : ℕ) (ps : List PlanPort) → has_number n (numbers ps) ≡ false → has_number n (names t ps) ≡ false
unnamed t n [] none = refl
unnamed t n (p ∷ ps) none = elim (cases_Bool (p.number == n)) [
  | inl same ↦ absurd (true≢false (rw same at none))
  | inr other ↦ (
      let rest : has_number n (names t ps) ≡ false = unnamed t n ps (rw other at none) in
      elim (cases_Bool (t p)) [
        | inl does ↦ rw does (rw other rest)
        | inr lacks ↦ rw lacks rest
      ]
      )
]

-- nor who does not pass
pub unnamed_at : (t : PlanPort → Bool) (ps : List PlanPort) (i : ℕ) (d : PlanPort) → AreDistinct (numbers ps) → i < length ps
    → t (get_or ps i d) ≡ false → has_number (get_or ps i d).number (names t ps) ≡ false
unnamed_at t [] i d apart low fails = absurd (omega arith)
unnamed_at t (p ∷ ps) zero d apart low fails = rw fails (unnamed t p.number ps apart.0)
unnamed_at t (p ∷ ps) (suc i) d apart low fails =
    let other : (p.number == (get_or ps i d).number) ≡ false = differs p ps i d apart.0 (omega arith) in
    let rest : has_number (get_or ps i d).number (names t ps) ≡ false = unnamed_at t ps i d apart.1 (omega arith) fails in
    elim (cases_Bool (t p)) [
      | inl does ↦ rw does (rw other rest)
      | inr lacks ↦ rw lacks rest
    ]

-- who has a number among those that pass is a port that passes
pub port_named : (t : PlanPort → Bool) (n : ℕ) (ps : List PlanPort) → AreDistinct (numbers ps) → has_number n (names t ps) ≡ true
    → (p : PlanPort) × (find (λ q. q.number == n) ps ≡ Some p) × (t p ≡ true) × (p.number ≡ n)
port_named t n [] apart has = absurd (true≢false (sym has))
port_named t n (p ∷ ps) apart has = elim (cases_Bool (p.number == n)) [
  | inl same ↦ elim (cases_Bool (t p)) [
    | inl does ↦ (p, rw same refl, does, eqb-true p.number n same)
    | inr lacks ↦ (
        let there : has_number n (names t ps) ≡ true = rw lacks at has in
        let e : p.number ≡ n = eqb-true p.number n same in
        let alone : has_number n (numbers ps) ≡ false = ap (λ k. has_number k (numbers ps)) (sym e) ∙ apart.0 in
        absurd (true≢false (sym there ∙ unnamed t n ps alone))
        )
  ]
  | inr other ↦ elim (cases_Bool (t p)) [
    | inl does ↦ (
        let there : has_number n (names t ps) ≡ true = rw (does, other) at has in
        let q = port_named t n ps apart.1 there in
        (q.0, rw other q.1, q.2, q.3)
        )
    | inr lacks ↦ (
        let there : has_number n (names t ps) ≡ true = rw lacks at has in
        let q = port_named t n ps apart.1 there in
        (q.0, rw other q.1, q.2, q.3)
        )
  ]
]

-- ---- sums

-- over those that pass, by their numbers
abbrev pub weight : (PlanPort → Bool) → (ℕ → ℕ) → PlanPort → ℕ
weight t f p = if t p then f p.number else 0

pub sum_of_names : (t : PlanPort → Bool) (f : ℕ → ℕ) (ps : List PlanPort) → sum_of f (names t ps) ≡ sum_by (weight t f) ps
sum_of_names t f [] = refl
sum_of_names t f (p ∷ ps) =
    let rest : sum_of f (names t ps) ≡ sum_by (weight t f) ps = sum_of_names t f ps in
    let more : sum_by (weight t f) (p ∷ ps) ≡ weight t f p + sum_by (weight t f) ps = sum_by-cons (weight t f) p ps in
    elim (cases_Bool (t p)) [
      | inl does ↦ (
          let here : weight t f p ≡ f p.number = rw does refl in
          let left : sum_of f (names t (p ∷ ps)) ≡ f p.number + sum_of f (names t ps) = rw does refl in
          omega arith
          )
      | inr lacks ↦ (
          let here : weight t f p ≡ 0 = rw lacks refl in
          let left : sum_of f (names t (p ∷ ps)) ≡ sum_of f (names t ps) = rw lacks refl in
          omega arith
          )
    ]

pub before_at : (t : PlanPort → Bool) (f : ℕ → ℕ) (ps : List PlanPort) (i : ℕ) (d : PlanPort) → AreDistinct (numbers ps) → i < length ps
    → t (get_or ps i d) ≡ true → sum_before f (get_or ps i d).number (names t ps) ≡ sum_by (weight t f) (take i ps)
before_at t f [] i d apart low passes = absurd (omega arith)
before_at t f (p ∷ ps) zero d apart low passes = rw passes (rw (eq-eqb p.number p.number refl) refl)
before_at t f (p ∷ ps) (suc i) d apart low passes =
    let other : (p.number == (get_or ps i d).number) ≡ false = differs p ps i d apart.0 (omega arith) in
    let rest : sum_before f (get_or ps i d).number (names t ps) ≡ sum_by (weight t f) (take i ps) = before_at t f ps i d apart.1 (omega arith) passes in
    let more : sum_by (weight t f) (p ∷ take i ps) ≡ weight t f p + sum_by (weight t f) (take i ps) = sum_by-cons (weight t f) p (take i ps) in
    elim (cases_Bool (t p)) [
      | inl does ↦ (
          let here : weight t f p ≡ f p.number = rw does refl in
          let left : sum_before f (get_or ps i d).number (names t (p ∷ ps)) ≡ f p.number + sum_before f (get_or ps i d).number (names t ps) = rw does (rw other refl) in
          omega arith
          )
      | inr lacks ↦ (
          let here : weight t f p ≡ 0 = rw lacks refl in
          let left : sum_before f (get_or ps i d).number (names t (p ∷ ps)) ≡ sum_before f (get_or ps i d).number (names t ps) = rw lacks refl in
          omega arith
          )
    ]

-- equal terms have equal sums
pub same_sums : (f g : PlanPort → ℕ) (ps : List PlanPort) → ((i : ℕ) (d : PlanPort) → i < length ps → f (get_or ps i d) ≡ g (get_or ps i d))
    → (n : ℕ) → sum_by f (take n ps) ≡ sum_by g (take n ps)
same_sums f g [] same zero = refl
same_sums f g [] same (suc n) = refl
same_sums f g (p ∷ ps) same zero = refl
same_sums f g (p ∷ ps) same (suc n) =
    let here : f p ≡ g p = same 0 p (omega arith) in
    let rest : sum_by f (take n ps) ≡ sum_by g (take n ps) = same_sums f g ps (λ i d low. same (suc i) d (omega arith)) n in
    let left : sum_by f (p ∷ take n ps) ≡ f p + sum_by f (take n ps) = sum_by-cons f p (take n ps) in
    let right : sum_by g (p ∷ take n ps) ≡ g p + sum_by g (take n ps) = sum_by-cons g p (take n ps) in
    omega arith
