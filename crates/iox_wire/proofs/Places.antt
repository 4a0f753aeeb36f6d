-- A node of a wire by its number, and another in its place.
use Rattle.std.specs.Prelude.{IfSome, Option, find, position, not, nat_lt}
use Rattle.std.specs.List.{prefix_len}
use Rattle.std.proofs.Common.{◌≡◌, ℕ, zero, suc, ◌<◌, ◌≤◌, ◌+◌, ◌==◌, Bool, true, false, cond, List, [], ◌∷◌, length, get_or, Some, None, refl, ap, sym, ◌∙◌, arith, slice_set, eqb-true, inl, inr}
use Rattle.std.proofs.lemmas.Bool.{cases_Bool, ltb-false}
use Rattle.std.proofs.lemmas.List.Quantifiers.{position-Some}
use Rattle.iox_laws.proofs.WeaveLaws.MapLemmas.{eqb-refl}
use Rattle.iox_laws.proofs.WeaveLedger.Truths.{none-some}
use Rattle.std.proofs.lemmas.List.{get_or-map}
use Rattle.iox_model.specs.declared.kind.Role.TheVariants.{Client}
use Rattle.iox_wire_weaves.specs.PlanPort.{PlanPort}
use Rattle.iox_wire_weaves.specs.Plans.{number_at}
use Rattle.iox_wire_weaves.specs.WirePlan.{WirePlan}
use Rattle.iox_wire_weaves.specs.Laws.{Replaces}
use Rattle.iox_model.specs.Maps.{refused_if}
use Rattle.iox_wire_weaves.specs.declared.refusal.WireRefusal.TheVariants.{NodeIsDead, UnknownNode}
use Rattle.iox_wire_weaves.specs.Wires.{WireNode, living_refusal, node_at}
use Rattle.iox_wire_weaves.proofs.Lookups.{living_by}

found_at : (n : ℕ) (xs : List WireNode) (i : ℕ) (e : WireNode) → i < length xs → ((get_or xs i e).number == n) ≡ true
    → ((k : ℕ) → k < i → ((get_or xs k e).number == n) ≡ false) → node_at n xs ≡ Some (get_or xs i e)
found_at n [] i e low is first = absurd (omega (arith, low))
found_at n (x ∷ xs) zero e low is first = rw is refl
found_at n (x ∷ xs) (suc i) e low is first =
    rw (first 0 (omega arith)) (found_at n xs i e (omega (arith, low)) is (λ k less. first (suc k) (omega (arith, less))))

found_there : (n : ℕ) (xs : List WireNode) (i : ℕ) (e y : WireNode) → i < length xs → (y.number == n) ≡ true
    → ((k : ℕ) → k < i → ((get_or xs k e).number == n) ≡ false) → node_at n (slice_set xs i y) ≡ Some y
found_there n [] i e y low is first = absurd (omega (arith, low))
found_there n (x ∷ xs) zero e y low is first = rw is refl
found_there n (x ∷ xs) (suc i) e y low is first =
    rw (first 0 (omega arith)) (found_there n xs i e y (omega (arith, low)) is (λ k less. first (suc k) (omega (arith, less))))

others_there : (m : ℕ) (xs : List WireNode) (i : ℕ) (e y : WireNode) → i < length xs → (y.number == m) ≡ false → ((get_or xs i e).number == m) ≡ false
    → node_at m (slice_set xs i y) ≡ node_at m xs
others_there m [] i e y low new old = absurd (omega (arith, low))
others_there m (x ∷ xs) zero e y low new old = rw (new, old) refl
others_there m (x ∷ xs) (suc i) e y low new old = elim (cases_Bool (x.number == m)) [
  | inl here ↦ rw here refl
  | inr apart ↦ rw apart (others_there m xs i e y (omega (arith, low)) new old)
]

-- the node at the place of a number is the one of that number
pub read_there : (n : ℕ) (xs : List WireNode) (i : ℕ) (d : WireNode) → position (λ x. x.number == n) xs ≡ Some i → d ≡ get_or xs i d → node_at n xs ≡ Some d
read_there n xs i d at read =
    let facts = position-Some (λ (x : WireNode). x.number == n) xs i d at in
    found_at n xs i d facts.0 facts.1 facts.2 ∙ ap Some (sym read)

pub number_there : (n : ℕ) (xs : List WireNode) (i : ℕ) (d : WireNode) → position (λ x. x.number == n) xs ≡ Some i → d ≡ get_or xs i d → d.number ≡ n
number_there n xs i d at read =
    let facts = position-Some (λ (x : WireNode). x.number == n) xs i d at in
    eqb-true d.number n (ap (λ (x : WireNode). x.number == n) read ∙ facts.1)

-- another node of that number in its place
pub replaced : (n : ℕ) (xs : List WireNode) (i : ℕ) (d y : WireNode) → position (λ x. x.number == n) xs ≡ Some i → d ≡ get_or xs i d
    → y.number ≡ d.number → Replaces xs n d y (slice_set xs i y)
replaced n xs i d y at read same =
    let facts = position-Some (λ (x : WireNode). x.number == n) xs i d at in
    let number : y.number ≡ n = same ∙ number_there n xs i d at read in
    record {
      before = read_there n xs i d at read;
      here = found_there n xs i d y facts.0 (ap (λ k. k == n) number ∙ eqb-refl n) facts.2;
      others = λ m other. (
          let apart : (n == m) ≡ false = flipped m n other in
          others_there m xs i d y facts.0 (ap (λ k. k == m) number ∙ apart)
          (ap (λ k. k == m) (eqb-true (get_or xs i d).number n facts.1) ∙ apart)
          );
    }
  where
    flipped : (a b : ℕ) → (a == b) ≡ false → (b == a) ≡ false
    flipped a b other = elim (cases_Bool (b == a)) [
      | inl same ↦ absurd (none-some true (sym (ap (λ t. cond t (Some true) None) (sym (eqb-refl a) ∙ ap (λ k. a == k) (sym (eqb-true b a same)) ∙ other))))
      | inr apart ↦ apart
    ]

-- the same node in its place
pub unchanged_there : (xs : List WireNode) (i : ℕ) (d y : WireNode) → d ≡ get_or xs i d → y ≡ d → slice_set xs i y ≡ xs
unchanged_there [] i d y read same = refl
unchanged_there (x ∷ xs) zero d y read same = ap (λ z. z ∷ xs) (same ∙ read)
unchanged_there (x ∷ xs) (suc i) d y read same = ap (λ ys. x ∷ ys) (unchanged_there xs i d y read same)

-- no element passes
none_passes : {A : Type 0} (test : A → Bool) (xs : List A) → length xs ≤ prefix_len (λ x. not (test x)) xs → find test xs ≡ None
none_passes test [] h = refl
none_passes test (x ∷ xs) h = by_case (test x) refl h (none_passes test xs)
  where
    by_case : (t : Bool) → test x ≡ t
        → suc (length xs) ≤ cond (not t) (1 + prefix_len (λ x. not (test x)) xs) 0
        → (length xs ≤ prefix_len (λ x. not (test x)) xs → find test xs ≡ None)
        → cond t (Some x) (find test xs) ≡ None
    by_case true is h rest = absurd (omega (arith, h))
    by_case false is h rest = rest (omega (arith, h))

pub none_found : {A : Type 0} (test : A → Bool) (xs : List A) → position test xs ≡ None → find test xs ≡ None
none_found test xs e = by_case (nat_lt (prefix_len (λ x. not (test x)) xs) (length xs)) refl e
  where
    by_case : (t : Bool) → nat_lt (prefix_len (λ x. not (test x)) xs) (length xs) ≡ t
        → cond t (Some (prefix_len (λ x. not (test x)) xs)) None ≡ None → find test xs ≡ None
    by_case true is none = absurd (none-some (prefix_len (λ x. not (test x)) xs) (sym none))
    by_case false is none = none_passes test xs (ltb-false _ _ is)

-- the port at the place of a number has it
no_port : PlanPort
no_port = record { number = 0; node = 0; role = Client; pool = 0; longest = 0; slot_words = 0 }

pub found_port : (plan : WirePlan) (n : ℕ) (o : Option ℕ) → o ≡ position (λ q. q.number == n) plan.ports.items → IfSome o (λ i. number_at plan i ≡ n)
found_port plan n None at = tt
found_port plan n (Some i) at =
    let facts = position-Some (λ (q : PlanPort). q.number == n) plan.ports.items i no_port (sym at) in
    get_or-map (λ (q : PlanPort). q.number) plan.ports.items i no_port 0 facts.0 ∙ eqb-true (get_or plan.ports.items i no_port).number n facts.1

-- ---- why a node does not live

pub unknown_there : (n : ℕ) (xs : List WireNode) → position (λ x. x.number == n) xs ≡ None → living_refusal xs n ≡ Some UnknownNode
unknown_there n xs at = living_by xs n None (none_found (λ x. x.number == n) xs at)

pub refusal_there : (n : ℕ) (xs ys : List WireNode) (i : ℕ) (d : WireNode) (b : Bool) → xs ≡ ys → position (λ x. x.number == n) ys ≡ Some i → d ≡ get_or xs i d
    → d.alive ≡ b → living_refusal ys n ≡ refused_if (not b) NodeIsDead
refusal_there n xs ys i d b same at read alive =
    living_by ys n (Some d) (read_there n ys i d at (read ∙ ap (λ zs. get_or zs i d) same)) ∙ ap (λ t. refused_if (not t) NodeIsDead) alive
