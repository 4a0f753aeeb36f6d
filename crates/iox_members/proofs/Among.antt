-- A node among those that are kept, and what is so of the others.
use Rattle.std.proofs.Common.{◌≡◌, ◌==◌, ◌||◌, ◌+◌, ℕ, zero, suc, Bool, true, false, not, List, [], ◌∷◌, ◌++◌, Option, Some, None, cond, filter, length, map, refl, ap, ap₂, sym, subst, ◌∙◌, arith, true≢false}
use Rattle.std.specs.Prelude.{⊤, find}
use Rattle.std.specs.List.{list_any, slice_get}
use Rattle.std.proofs.lemmas.Bool.{and_from, eq-eqb, eqb-true}
use Rattle.iox_types.specs.declared.identifiers.system_id.UniqueSystemId.{UniqueSystemId}
use Rattle.iox_model.specs.Joins.{same_id}
use Rattle.iox_model.specs.Maps.{AreDistinct, has_number, is_empty}
use Rattle.iox_registry.specs.Registers.{Registrations, details_of}
use Rattle.iox_members.specs.declared.member.Member.{Member}
use Rattle.iox_members.specs.Registering.{AreBelow, AreOnce, HaveRegistrations}

-- ---- tests

pub or_parts : (a b : Bool) → (a || b) ≡ false → (a ≡ false) × (b ≡ false)
or_parts true b is = absurd (true≢false is)
or_parts false b is = (refl, is)

pub same-self : (a : UniqueSystemId) → same_id a a ≡ true
same-self a =
    and_from _ _ (and_from _ _ (eq-eqb a.process _ refl) (eq-eqb a.seconds _ refl))
    (and_from _ _ (eq-eqb a.nanoseconds _ refl) (eq-eqb a.counter _ refl))

-- ids that are not the same differ
pub differ-since : (a b : UniqueSystemId) → same_id a b ≡ false → b ≡ a → ⊥
differ-since a b not_same same = true≢false (sym (same-self a) ∙ ap (same_id a) (sym same) ∙ not_same)

-- ---- a node and the others

-- these are the nodes with that one, and those are the others
abbrev pub Beside : Member → List Member → List Member → Type 0
Beside m nodes left = (before : List Member) × (behind : List Member) × (nodes ≡ before ++ m ∷ behind) × (left ≡ before ++ behind)

none_filtered : (n : ℕ) (xs : List Member) → has_number n (map (λ x. x.number) xs) ≡ false → filter (λ x. not (x.number == n)) xs ≡ xs
none_filtered n [] none = refl
none_filtered n (x ∷ xs) none =
    let parts = or_parts (x.number == n) _ none in
    ap (λ b. cond (not b) (x ∷ filter (λ x. not (x.number == n)) xs) (filter (λ x. not (x.number == n)) xs)) parts.0
    ∙ ap (λ ys. x ∷ ys) (none_filtered n xs parts.1)

one_of : (x m : Member) → ◌≡◌ {A = Option Member} (Some x) (Some m) → x ≡ m
one_of x m same = cc

not_some : (m : Member) → ◌≡◌ {A = Option Member} None (Some m) → ⊥
not_some m same = cc

-- the node of a number is among them, and the others are those of other numbers
pub found-beside : (node : ℕ) (m : Member) (xs : List Member) → find (λ x. x.number == node) xs ≡ Some m → AreDistinct (map (λ x. x.number) xs)
    → Beside m xs (filter (λ x. not (x.number == node)) xs)
found-beside node m [] is apart = absurd (not_some m is)
found-beside node m (x ∷ xs) is apart = of_test (x.number == node) refl (found-beside node m xs)
  where
    of_test : (b : Bool) → (x.number == node) ≡ b
        → (find (λ x. x.number == node) xs ≡ Some m → AreDistinct (map (λ x. x.number) xs) → Beside m xs (filter (λ x. not (x.number == node)) xs))
        → Beside m (x ∷ xs) (filter (λ x. not (x.number == node)) (x ∷ xs))
    of_test true e rest =
        let here : x ≡ m = one_of x m (sym (ap (λ b. cond b (Some x) (find (λ x. x.number == node) xs)) e) ∙ is) in
        let none : has_number node (map (λ x. x.number) xs) ≡ false = subst (λ n. has_number n (map (λ x. x.number) xs) ≡ false) (eqb-true x.number node e) apart.0 in (
          [],
          xs,
          ap (λ y. y ∷ xs) here,
          ap (λ b. cond (not b) (x ∷ filter (λ x. not (x.number == node)) xs) (filter (λ x. not (x.number == node)) xs)) e ∙ none_filtered node xs none,
        )
    of_test false e rest =
        let later = rest (sym (ap (λ b. cond b (Some x) (find (λ x. x.number == node) xs)) e) ∙ is) apart.1 in (
          x ∷ later.0,
          later.1,
          ap (λ ys. x ∷ ys) later.2,
          ap (λ b. cond (not b) (x ∷ filter (λ x. not (x.number == node)) xs) (filter (λ x. not (x.number == node)) xs)) e ∙ ap (λ ys. x ∷ ys) later.3,
        )

-- a number that no node has takes nobody away
pub none-found : (node : ℕ) (xs : List Member) → find (λ x. x.number == node) xs ≡ None → filter (λ x. not (x.number == node)) xs ≡ xs
none-found node [] is = refl
none-found node (x ∷ xs) is = of_test (x.number == node) refl (none-found node xs)
  where
    none_here : ◌≡◌ {A = Option Member} (Some x) None → ⊥
    none_here same = cc

    of_test : (b : Bool) → (x.number == node) ≡ b
        → (find (λ x. x.number == node) xs ≡ None → filter (λ x. not (x.number == node)) xs ≡ xs)
        → filter (λ x. not (x.number == node)) (x ∷ xs) ≡ x ∷ xs
    of_test true e rest = absurd (none_here (sym (ap (λ b. cond b (Some x) (find (λ x. x.number == node) xs)) e) ∙ is))
    of_test false e rest =
        ap (λ b. cond (not b) (x ∷ filter (λ x. not (x.number == node)) xs) (filter (λ x. not (x.number == node)) xs)) e
        ∙ ap (λ ys. x ∷ ys) (rest (sym (ap (λ b. cond b (Some x) (find (λ x. x.number == node) xs)) e) ∙ is))

-- ---- the others

module _ (m : Member) (behind : List Member) where
  pub one-more : (before : List Member) → length (before ++ m ∷ behind) ≡ length (before ++ behind) + 1
  one-more [] = omega arith
  one-more (x ∷ before) = let rest = one-more before in omega arith

  pub not-empty : (before : List Member) → is_empty (before ++ m ∷ behind) ≡ false
  not-empty [] = refl
  not-empty (x ∷ before) = refl

  pub others-below : (joins : ℕ) (before : List Member) → AreBelow joins (map (λ x. x.number) (before ++ m ∷ behind)) → AreBelow joins (map (λ x. x.number) (before ++ behind))
  others-below joins [] is = is.1
  others-below joins (x ∷ before) is = (is.0, others-below joins before is.1)

  none_of : {X : Type 0} (f : Member → X) (test : X → Bool) (before : List Member) → list_any test (map f (before ++ m ∷ behind)) ≡ false
      → list_any test (map f (before ++ behind)) ≡ false
  none_of f test [] is = (or_parts (test (f m)) _ is).1
  none_of f test (x ∷ before) is =
      let parts = or_parts (test (f x)) _ is in
      ap₂ (λ a b. a || b) parts.0 (none_of f test before parts.1)

  not_it : {X : Type 0} (f : Member → X) (test : X → Bool) (before : List Member) → list_any test (map f (before ++ m ∷ behind)) ≡ false
      → test (f m) ≡ false
  not_it f test [] is = (or_parts (test (f m)) _ is).0
  not_it f test (x ∷ before) is = not_it f test before (or_parts (test (f x)) _ is).1

  pub others-distinct : (before : List Member) → AreDistinct (map (λ x. x.number) (before ++ m ∷ behind)) → AreDistinct (map (λ x. x.number) (before ++ behind))
  others-distinct [] is = is.1
  others-distinct (x ∷ before) is = (none_of (λ y. y.number) (λ k. k == x.number) before is.0, others-distinct before is.1)

  pub others-once : (before : List Member) → AreOnce (map (λ x. x.id) (before ++ m ∷ behind)) → AreOnce (map (λ x. x.id) (before ++ behind))
  others-once [] is = is.1
  others-once (x ∷ before) is = (none_of (λ y. y.id) (same_id x.id) before is.0, others-once before is.1)

  pub own-registration : (registry : Registrations UniqueSystemId) (before : List Member) → HaveRegistrations registry (before ++ m ∷ behind)
      → details_of registry m.registration ≡ Some m.id
  own-registration registry [] is = is.0
  own-registration registry (x ∷ before) is = own-registration registry before is.1

-- each of these has another id
abbrev pub HaveOtherIds : UniqueSystemId → List Member → Type 0
HaveOtherIds id [] = ⊤
HaveOtherIds id (x ∷ xs) = (x.id ≡ id → ⊥) × HaveOtherIds id xs

pub others-since : (id : UniqueSystemId) (xs : List Member) → list_any (same_id id) (map (λ x. x.id) xs) ≡ false → HaveOtherIds id xs
others-since id [] none = tt
others-since id (x ∷ xs) none =
    let parts = or_parts (same_id id x.id) _ none in
    (differ-since id x.id parts.0, others-since id xs parts.1)

pub have-other-ids : (m : Member) (behind before : List Member) → AreOnce (map (λ x. x.id) (before ++ m ∷ behind)) → HaveOtherIds m.id (before ++ behind)
have-other-ids m behind [] is = others-since m.id behind is.0
have-other-ids m behind (x ∷ before) is =
    let not_same = not_it m behind (λ y. y.id) (same_id x.id) before is.0 in
    (λ same. differ-since x.id m.id not_same (sym same), have-other-ids m behind before is.1)

-- registrations that tell what they told
abbrev pub TellsOn : Registrations UniqueSystemId → Registrations UniqueSystemId → UniqueSystemId → Type 0
TellsOn old new id = (x : Member) → details_of old x.registration ≡ Some x.id → (x.id ≡ id → ⊥) → details_of new x.registration ≡ Some x.id

have-on : (old new : Registrations UniqueSystemId) (id : UniqueSystemId) (xs : List Member) → TellsOn old new id → HaveOtherIds id xs
    → HaveRegistrations old xs → HaveRegistrations new xs
have-on old new id [] on others is = tt
have-on old new id (x ∷ xs) on others is = (on x is.0 others.0, have-on old new id xs on others.1 is.1)

-- the others have their registrations still
pub others-registered : (old new : Registrations UniqueSystemId) (m : Member) (behind before : List Member) → TellsOn old new m.id
    → AreOnce (map (λ x. x.id) (before ++ m ∷ behind)) → HaveRegistrations old (before ++ m ∷ behind) → HaveRegistrations new (before ++ behind)
others-registered old new m behind before on once is =
    have-on old new m.id (before ++ behind) on (have-other-ids m behind before once) (without before is)
  where
    without : (before : List Member) → HaveRegistrations old (before ++ m ∷ behind) → HaveRegistrations old (before ++ behind)
    without [] is = is.1
    without (x ∷ before) is = (is.0, without before is.1)

-- ---- where a node stands

has-at : (xs : List Member) (i : ℕ) (m : Member) → slice_get xs i ≡ Some m → has_number m.number (map (λ x. x.number) xs) ≡ true
has-at [] i m is = absurd (not_some m is)
has-at (x ∷ xs) zero m is = rw (one_of x m is, eq-eqb m.number m.number refl) refl
has-at (x ∷ xs) (suc i) m is = or_true (x.number == m.number) _ (has-at xs i m is)
  where
    or_true : (a b : Bool) → b ≡ true → (a || b) ≡ true
    or_true true b is = refl
    or_true false b is = is

-- the node that stands there is found by its number
pub found-at : (xs : List Member) (i : ℕ) (m : Member) → slice_get xs i ≡ Some m → AreDistinct (map (λ x. x.number) xs)
    → find (λ x. x.number == m.number) xs ≡ Some m
found-at [] i m is apart = absurd (not_some m is)
found-at (x ∷ xs) zero m is apart = rw (one_of x m is, eq-eqb m.number m.number refl) refl
found-at (x ∷ xs) (suc i) m is apart = of_test (x.number == m.number) refl (found-at xs i m is apart.1)
  where
    of_test : (b : Bool) → (x.number == m.number) ≡ b → find (λ y. y.number == m.number) xs ≡ Some m
        → find (λ y. y.number == m.number) (x ∷ xs) ≡ Some m
    of_test true e later =
        let has : has_number m.number (map (λ y. y.number) xs) ≡ true = has-at xs i m is in
        let none : has_number m.number (map (λ y. y.number) xs) ≡ false =
        subst (λ n. has_number n (map (λ y. y.number) xs) ≡ false) (eqb-true x.number m.number e) apart.0 in
        absurd (true≢false (sym has ∙ none))
    of_test false e later = ap (λ b. cond b (Some x) (find (λ y. y.number == m.number) xs)) e ∙ later
