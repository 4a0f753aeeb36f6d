-- Ports that stay where one is made, is released, or goes.
use Rattle.std.specs.Prelude.{◌≡◌, ℕ, Bool, true, false, not, ◌||◌, if◌then◌else◌, ◌==◌, nat_lt, List, [], ◌∷◌, ◌++◌, map, filter, Option, Some, None, find, refl}
use Rattle.std.specs.List.{list_any}
use Rattle.std.specs.Option.{option_map_or}
use Rattle.std.proofs.Common.{sym, subst, ap, ◌∙◌, true≢false, eqb-true, arith}
use Rattle.iox_model.specs.States.{Port}
use Rattle.iox_model.specs.Ends.{port_dropped}
use Rattle.iox_laws.proofs.WeaveLaws.CallLaws.{not-true}
use Rattle.iox_laws.proofs.WeaveLaws.MapLemmas.{either, eqb-refl}
use Rattle.iox_laws.proofs.WeaveLaws.WholeLemmas.{split}
use Rattle.iox_laws.proofs.WeaveWorlds.ReachedPorts.{below}
use Rattle.iox_laws.proofs.WeaveLedger.Views.{node_in}
use Rattle.iox_laws.proofs.WeaveLedger.Truths.{by_cases, or-left, or-right, or-rest, or-false, or-neither}

abbrev pub any_at : ℕ → List Port → Bool
any_at k ps = list_any (λ p. p.number == k) ps

abbrev pub first_at : ℕ → List Port → Option Port
first_at k ps = find (λ p. p.number == k) ps

pub none_at : (k : ℕ) (ps : List Port) → any_at k ps ≡ false → first_at k ps ≡ None
none_at k [] e = refl
none_at k (p ∷ ps) e =
    let q : ((p.number == k) ≡ false) × (any_at k ps ≡ false) = or-false (p.number == k) (any_at k ps) e in
    either (λ (o : Option Port). o ≡ None) (p.number == k) (Some p) (first_at k ps) (λ is. absurd (true≢false (sym is ∙ q.0))) (λ u. none_at k ps q.1)

-- ---- one more port

pub at_more : (k : ℕ) (ps : List Port) (p : Port) → any_at k ps ≡ true → any_at k (ps ++ p ∷ []) ≡ true
at_more k [] p e = absurd (true≢false (sym e))
at_more k (q ∷ qs) p e =
    by_cases (q.number == k) (or-left (q.number == k) (any_at k (qs ++ p ∷ [])))
    (λ other. or-right (q.number == k) (any_at k (qs ++ p ∷ [])) (at_more k qs p (or-rest (q.number == k) (any_at k qs) e other)))

-- who stands there now is the new one, or stood there before
pub at_last : (k : ℕ) (ps : List Port) (p : Port) → any_at k (ps ++ p ∷ []) ≡ true → any_at k ps ≡ false → p.number ≡ k
at_last k [] p e other =
    by_cases (p.number == k) (eqb-true p.number k) (λ differs. absurd (true≢false (sym (or-rest (p.number == k) false e differs))))
at_last k (q ∷ qs) p e other =
    let r : ((q.number == k) ≡ false) × (any_at k qs ≡ false) = or-false (q.number == k) (any_at k qs) other in
    at_last k qs p (or-rest (q.number == k) (any_at k (qs ++ p ∷ [])) e r.0) r.1

pub first_more : (k : ℕ) (ps : List Port) (p : Port) → any_at k ps ≡ true → first_at k (ps ++ p ∷ []) ≡ first_at k ps
first_more k [] p e = absurd (true≢false (sym e))
first_more k (q ∷ qs) p e =
    by_cases (q.number == k)
    (λ same. ap (λ (b : Bool). if b then Some q else first_at k (qs ++ p ∷ [])) same ∙ sym (ap (λ (b : Bool). if b then Some q else first_at k qs) same))
    (λ other. ap (λ (b : Bool). if b then Some q else first_at k (qs ++ p ∷ [])) other ∙ first_more k qs p (or-rest (q.number == k) (any_at k qs) e other)
    ∙ sym (ap (λ (b : Bool). if b then Some q else first_at k qs) other))

-- no port has the next number
pub next_is_free : (n : ℕ) (ps : List Port) → below n ps ≡ true → any_at n ps ≡ false
next_is_free n [] e = refl
next_is_free n (p ∷ ps) e =
    let q : (nat_lt p.number n ≡ true) × (below n ps ≡ true) = split (nat_lt p.number n) (below n ps) e in
    or-neither (p.number == n) (any_at n ps) (less p.number n q.0) (next_is_free n ps q.1)
  where
    less : (a b : ℕ) → nat_lt a b ≡ true → (a == b) ≡ false
    less a b e = grind (arith)

-- and each has one below
pub at_below : (n k : ℕ) (ps : List Port) → below n ps ≡ true → any_at k ps ≡ true → nat_lt k n ≡ true
at_below n k [] e there = absurd (true≢false (sym there))
at_below n k (p ∷ ps) e there =
    let q : (nat_lt p.number n ≡ true) × (below n ps ≡ true) = split (nat_lt p.number n) (below n ps) e in
    by_cases (p.number == k) (λ same. subst (λ j. nat_lt j n ≡ true) (eqb-true p.number k same) q.0)
    (λ other. at_below n k ps q.1 (or-rest (p.number == k) (any_at k ps) there other))

-- ---- a port's value is released

dropped-number : (port : ℕ) (p : Port) → (port_dropped port p).number ≡ p.number
dropped-number port p = either (λ (q : Port). q.number ≡ p.number) (p.number == port) (record p { held = false }) p (λ u. refl) (λ u. refl)

pub any_dropped : (port k : ℕ) (ps : List Port) → any_at k (map (port_dropped port) ps) ≡ any_at k ps
any_dropped port k [] = refl
any_dropped port k (p ∷ ps) =
    ap (λ j. (j == k) || any_at k (map (port_dropped port) ps)) (dropped-number port p) ∙ ap (λ b. (p.number == k) || b) (any_dropped port k ps)

-- all else of a port is as it was
pub first_dropped : {A : Type 0} (value : Port → A) (none : A) (port k : ℕ) (ps : List Port)
    → ((p : Port) → value (record p { held = false }) ≡ value p)
    → option_map_or value (first_at k (map (port_dropped port) ps)) none ≡ option_map_or value (first_at k ps) none
first_dropped value none port k [] same = refl
first_dropped value none port k (p ∷ ps) same =
    ap (λ (j : ℕ). option_map_or value (if j == k then Some (port_dropped port p) else first_at k (map (port_dropped port) ps)) none) (dropped-number port p)
    ∙ here (p.number == k) (first_dropped value none port k ps same)
  where
    value_is : value (port_dropped port p) ≡ value p
    value_is = either (λ (q : Port). value q ≡ value p) (p.number == port) (record p { held = false }) p (λ u. same p) (λ u. refl)

    here : (b : Bool) → option_map_or value (first_at k (map (port_dropped port) ps)) none ≡ option_map_or value (first_at k ps) none
        → option_map_or value (if b then Some (port_dropped port p) else first_at k (map (port_dropped port) ps)) none
        ≡ option_map_or value (if b then Some p else first_at k ps) none
    here true rest = value_is
    here false rest = rest

-- ---- a port goes

abbrev pub others_than : ℕ → List Port → List Port
others_than gone ps = filter (λ p. not (p.number == gone)) ps

pub any_others : (gone k : ℕ) (ps : List Port) → any_at k (others_than gone ps) ≡ true → (any_at k ps ≡ true) × ((k == gone) ≡ false)
any_others gone k [] e = absurd (true≢false (sym e))
any_others gone k (p ∷ ps) e =
    either (λ (qs : List Port). any_at k qs ≡ true → (any_at k (p ∷ ps) ≡ true) × ((k == gone) ≡ false)) (not (p.number == gone))
    (p ∷ others_than gone ps) (others_than gone ps)
    (λ stays r. by_cases (p.number == k)
    (λ same. (or-left (p.number == k) (any_at k ps) same, subst (λ j. (j == gone) ≡ false) (eqb-true p.number k same) (not-true (p.number == gone) stays)))
    (λ other. later (any_others gone k ps (or-rest (p.number == k) (any_at k (others_than gone ps)) r other))))
    (λ u r. later (any_others gone k ps r)) e
  where
    later : (any_at k ps ≡ true) × ((k == gone) ≡ false) → (any_at k (p ∷ ps) ≡ true) × ((k == gone) ≡ false)
    later q = (or-right (p.number == k) (any_at k ps) q.0, q.1)

pub first_others : (gone k : ℕ) (ps : List Port) → (k == gone) ≡ false → first_at k (others_than gone ps) ≡ first_at k ps
first_others gone k [] e = refl
first_others gone k (p ∷ ps) e =
    by_cases (p.number == gone)
    (λ goes. ap (λ (b : Bool). first_at k (if not b then p ∷ others_than gone ps else others_than gone ps)) goes ∙ first_others gone k ps e
    ∙ sym (ap (λ (b : Bool). if b then Some p else first_at k ps) (no_port goes)))
    (λ stays. ap (λ (b : Bool). first_at k (if not b then p ∷ others_than gone ps else others_than gone ps)) stays
    ∙ ap (λ o. if p.number == k then Some p else o) (first_others gone k ps e))
  where
    no_port : (p.number == gone) ≡ true → (p.number == k) ≡ false
    no_port goes =
        by_cases (p.number == k)
        (λ same. absurd (true≢false (sym (eqb-refl k) ∙ ap (λ j. k == j) (sym (eqb-true p.number k same) ∙ eqb-true p.number gone goes) ∙ e)))
        (λ other. other)

pub any_stay : (gone k : ℕ) (ps : List Port) → (k == gone) ≡ false → any_at k ps ≡ true → any_at k (others_than gone ps) ≡ true
any_stay gone k [] other e = e
any_stay gone k (p ∷ ps) other e =
    by_cases (p.number == k)
    (λ same. ap (λ (b : Bool). any_at k (if not b then p ∷ others_than gone ps else others_than gone ps))
    (subst (λ j. (j == gone) ≡ false) (sym (eqb-true p.number k same)) other) ∙ or-left (p.number == k) (any_at k (others_than gone ps)) same)
    (λ differs. either (λ (qs : List Port). any_at k qs ≡ true) (not (p.number == gone)) (p ∷ others_than gone ps) (others_than gone ps)
    (λ u. or-right (p.number == k) (any_at k (others_than gone ps)) (any_stay gone k ps other (or-rest (p.number == k) (any_at k ps) e differs)))
    (λ u. any_stay gone k ps other (or-rest (p.number == k) (any_at k ps) e differs)))

-- ---- the ports of a node

-- the port is among them, and the node's
abbrev pub IsPortIn : List Port → ℕ → ℕ → Type 0
IsPortIn ps node port = (any_at port ps ≡ true) × (node_in ps port ≡ node)

pub port_more : (ps : List Port) (node k : ℕ) (p : Port) → IsPortIn ps node k → IsPortIn (ps ++ p ∷ []) node k
port_more ps node k p q = (at_more k ps p q.0, ap (λ o. option_map_or (λ (x : Port). x.node) o 0) (first_more k ps p q.0) ∙ q.1)

pub port_still : (ps : List Port) (node k port : ℕ) → IsPortIn ps node k → IsPortIn (map (port_dropped port) ps) node k
port_still ps node k port q = (any_dropped port k ps ∙ q.0, first_dropped (λ p. p.node) 0 port k ps (λ p. refl) ∙ q.1)

pub port_was : (ps : List Port) (node k port : ℕ) → IsPortIn (map (port_dropped port) ps) node k → IsPortIn ps node k
port_was ps node k port q = (sym (any_dropped port k ps) ∙ q.0, sym (first_dropped (λ p. p.node) 0 port k ps (λ p. refl)) ∙ q.1)

pub port_stays : (ps : List Port) (node k gone : ℕ) → (k == gone) ≡ false → IsPortIn ps node k → IsPortIn (others_than gone ps) node k
port_stays ps node k gone other q =
    (any_stay gone k ps other q.0, ap (λ o. option_map_or (λ (x : Port). x.node) o 0) (first_others gone k ps other) ∙ q.1)

pub port_stood : (ps : List Port) (node k gone : ℕ) → IsPortIn (others_than gone ps) node k → IsPortIn ps node k
port_stood ps node k gone q =
    let r : (any_at k ps ≡ true) × ((k == gone) ≡ false) = any_others gone k ps q.0 in
    (r.0, sym (ap (λ o. option_map_or (λ (x : Port). x.node) o 0) (first_others gone k ps r.1)) ∙ q.1)
