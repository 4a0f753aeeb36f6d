-- A service and its hub give each port a number of its own.
use Rattle.std.specs.Prelude.{◌≡◌, ℕ, ◌+◌, Bool, true, false, ◌==◌, nat_lt, List, [], ◌∷◌, ◌++◌, map, filter, refl}
use Rattle.std.specs.List.{list_all}
use Rattle.std.proofs.Common.{sym, subst, ap, arith}
use Rattle.iox_model.specs.States.{Port, Fixed, State}
use Rattle.iox_model.specs.Maps.{has_number, AreDistinct}
use Rattle.iox_model.specs.Ends.{port_dropped}
use Rattle.iox_model.specs.Counts.{numbered}
use Rattle.iox_model.specs.Makings.{new_port}
use Rattle.iox_laws.proofs.WeaveLaws.MapLemmas.{either}
use Rattle.iox_laws.proofs.WeaveLaws.WholeLemmas.{split}
use Rattle.iox_model.specs.Runs.{IsReachableState}
use Rattle.iox_laws.proofs.WeaveWorlds.PortsKept.{OfPorts, IsSteady, numbered_says, is_kept}
use Rattle.iox_laws.proofs.WeaveWorlds.Inductions.{reached_keeps}
use Rattle.iox_laws.proofs.WeaveWorlds.PortLemmas.{AreDistinctPorts, distinct-filter}
use Rattle.iox_laws.proofs.WeaveLedger.Orders.{less-next, next-is-less}
use Rattle.iox_laws.proofs.WeaveLedger.Truths.{both_true, or-false, or-neither}

-- ---- numbers below the next one

abbrev pub below : ℕ → List Port → Bool
below n ps = list_all (λ p. nat_lt p.number n) ps

-- each port has a number of its own, below the next one
abbrev pub IsNumbered : Fixed → Type 0
IsNumbered f = AreDistinctPorts f × (below f.next_number f.ports ≡ true)

below_more : (n : ℕ) (ps : List Port) → below n ps ≡ true → below (n + 1) ps ≡ true
below_more n [] e = refl
below_more n (p ∷ ps) e =
    let q : (nat_lt p.number n ≡ true) × (below n ps ≡ true) = split (nat_lt p.number n) (below n ps) e in
    both_true (nat_lt p.number (n + 1)) (below (n + 1) ps) (less-next p.number n q.0) (below_more n ps q.1)

pub below_filter : (n : ℕ) (test : Port → Bool) (ps : List Port) → below n ps ≡ true → below n (filter test ps) ≡ true
below_filter n test [] e = refl
below_filter n test (p ∷ ps) e =
    let q : (nat_lt p.number n ≡ true) × (below n ps ≡ true) = split (nat_lt p.number n) (below n ps) e in
    either (λ (xs : List Port). below n xs ≡ true) (test p) (p ∷ filter test ps) (filter test ps)
    (λ u. both_true (nat_lt p.number n) (below n (filter test ps)) q.0 (below_filter n test ps q.1)) (λ u. below_filter n test ps q.1)

-- one more at the end
pub below_next : (n : ℕ) (ps : List Port) (p : Port) → p.number ≡ n → below n ps ≡ true → below (n + 1) (ps ++ p ∷ []) ≡ true
below_next n [] p is e = both_true (nat_lt p.number (n + 1)) true (next-is-less p.number n is) refl
below_next n (q ∷ qs) p is e =
    let r : (nat_lt q.number n ≡ true) × (below n qs ≡ true) = split (nat_lt q.number n) (below n qs) e in
    both_true (nat_lt q.number (n + 1)) (below (n + 1) (qs ++ p ∷ [])) (less-next q.number n r.0) (below_next n qs p is r.1)

-- a number that stands nowhere stands only at the end
not_before : (n k : ℕ) (ps : List Port) (p : Port) → p.number ≡ k → nat_lt n k ≡ true → has_number n (map (λ q. q.number) ps) ≡ false
    → has_number n (map (λ q. q.number) (ps ++ p ∷ [])) ≡ false
not_before n k [] p is less e = or-neither (p.number == n) false (other p.number n k is less) refl
  where
    other : (a n k : ℕ) → a ≡ k → nat_lt n k ≡ true → (a == n) ≡ false
    other a n k e l = grind (arith)
not_before n k (q ∷ qs) p is less e =
    let r : ((q.number == n) ≡ false) × (has_number n (map (λ (x : Port). x.number) qs) ≡ false)
    = or-false (q.number == n) (has_number n (map (λ (x : Port). x.number) qs)) e in
    or-neither (q.number == n) (has_number n (map (λ (x : Port). x.number) (qs ++ p ∷ []))) r.0 (not_before n k qs p is less r.1)

pub distinct_next : (n : ℕ) (ps : List Port) (p : Port) → p.number ≡ n → below n ps ≡ true → AreDistinct (map (λ q. q.number) ps)
    → AreDistinct (map (λ q. q.number) (ps ++ p ∷ []))
distinct_next n [] p is e d = (refl, tt)
distinct_next n (q ∷ qs) p is e d =
    let r : (nat_lt q.number n ≡ true) × (below n qs ≡ true) = split (nat_lt q.number n) (below n qs) e in
    (not_before q.number n qs p is r.0 d.0, distinct_next n qs p is r.1 d.1)

-- ---- steps that keep it

pub same_numbers : (port : ℕ) (ps : List Port) → map (λ p. p.number) (map (port_dropped port) ps) ≡ map (λ p. p.number) ps
same_numbers port [] = refl
same_numbers port (p ∷ ps) =
    either (λ (q : Port). q.number ∷ map (λ x. x.number) (map (port_dropped port) ps) ≡ p.number ∷ map (λ x. x.number) ps) (p.number == port)
    (record p { held = false }) p (λ u. ap (λ ns. p.number ∷ ns) (same_numbers port ps)) (λ u. ap (λ ns. p.number ∷ ns) (same_numbers port ps))

pub same_below : (n port : ℕ) (ps : List Port) → below n ps ≡ true → below n (map (port_dropped port) ps) ≡ true
same_below n port [] e = refl
same_below n port (p ∷ ps) e =
    let q : (nat_lt p.number n ≡ true) × (below n ps ≡ true) = split (nat_lt p.number n) (below n ps) e in
    both_true (nat_lt (port_dropped port p).number n) (below n (map (port_dropped port) ps))
    (either (λ (x : Port). nat_lt x.number n ≡ true) (p.number == port) (record p { held = false }) p (λ u. q.0) (λ u. q.0)) (same_below n port ps q.1)

abbrev AreNumbered : OfPorts
AreNumbered l ps n = AreDistinct (map (λ p. p.number) ps) × (below n ps ≡ true)

steady : IsSteady AreNumbered
steady = record {
  numbers = λ l ps n p. (p.0, below_more n ps p.1);
  filters = λ l ps n keep p. (distinct-filter keep ps p.0, below_filter n keep ps p.1);
  drops = λ l ps n port p. (subst AreDistinct (sym (same_numbers port ps)) p.0, same_below n port ps p.1);
}

pub numbered_keeps : (f : Fixed) (node : ℕ) → IsNumbered f → IsNumbered (numbered f node)
numbered_keeps = numbered_says AreNumbered steady

-- What a service and its hub come to has ports with numbers of their own.
pub reached_ports : (s : State) → IsReachableState s → AreDistinctPorts s.fixed
reached_ports s reached =
    (reached_keeps (λ t. IsNumbered t.fixed)
    (is_kept AreNumbered steady (λ f node role id o memory allowed p. (
      distinct_next f.next_number f.ports (new_port f node role id o) refl p.1 p.0,
      below_next f.next_number f.ports (new_port f node role id o) refl p.1,
    )))
    (λ l acts id. (tt, refl)) s reached).0
