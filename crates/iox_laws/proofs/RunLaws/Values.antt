-- The numbers of a node's values, ascending: none stands there twice, and each is that of a value.
use Rattle.std.specs.Prelude.{◌≡◌, ℕ, Bool, true, false, ◌&&◌, if◌then◌else◌, ◌==◌, nat_lt, List, [], ◌∷◌, ◌++◌, map, filter, ◌⊎◌}
use Rattle.std.proofs.Common.{sym, subst, eqb-true, inl, inr}
use Rattle.iox_model.specs.Services.{insert_number, ascending, numbers_of_node}
use Rattle.iox_model.specs.States.{Port, Handle, Fixed}
use Rattle.iox_laws.proofs.WeaveLaws.MapLemmas.{eqb-refl}
use Rattle.iox_laws.proofs.WeaveLaws.WholeLemmas.{split}
use Rattle.iox_laws.proofs.WeaveLedger.Truths.{never}
use Rattle.iox_laws.proofs.WeaveLedger.Lists.{IsAmong, NoRepeats, among-append, among-any, map-among, filter-among, no_repeats-map_filter, distinct-no_repeats, no_repeats-distinct, no_repeats-append}
use Rattle.iox_laws.specs.RunLaws.Resting.{ValuesHaveOwnNumbers}
use Rattle.iox_laws.proofs.RunLaws.Ports.{any_at}
use Rattle.iox_laws.proofs.RunLaws.Rests.{Rests}
use Rattle.iox_laws.proofs.RunLaws.Cleanups.{IsValue}
use Rattle.iox_laws.proofs.RunLaws.Runs.{left_calm}

-- ---- in order

insert-among : (k n : ℕ) (ns : List ℕ) → IsAmong k (insert_number n ns) → (k ≡ n) ⊎ IsAmong k ns
insert-among k n [] (inl e) = inl e
insert-among k n [] (inr p) = absurd p
insert-among k n (m ∷ ms) p = by_case (nat_lt n m) (insert-among k n ms) p
  where
    by_case : (b : Bool) → (IsAmong k (insert_number n ms) → (k ≡ n) ⊎ IsAmong k ms)
        → IsAmong k (if b then n ∷ m ∷ ms else m ∷ insert_number n ms) → (k ≡ n) ⊎ IsAmong k (m ∷ ms)
    by_case true rest (inl e) = inl e
    by_case true rest (inr q) = inr q
    by_case false rest (inl e) = inr (inl e)
    by_case false rest (inr q) = elim (rest q) as (λ u. (k ≡ n) ⊎ IsAmong k (m ∷ ms)) [ inl e ↦ inl e | inr a ↦ inr (inr a) ]

insert-apart : (n : ℕ) (ns : List ℕ) → NoRepeats ns → (IsAmong n ns → ⊥) → NoRepeats (insert_number n ns)
insert-apart n [] d new = ((λ p. p), tt)
insert-apart n (m ∷ ms) d new = by_case (nat_lt n m) (insert-apart n ms d.1 (λ p. new (inr p)))
  where
    by_case : (b : Bool) → NoRepeats (insert_number n ms) → NoRepeats (if b then n ∷ m ∷ ms else m ∷ insert_number n ms)
    by_case true rest = (new, d)
    by_case false rest = ((λ p. elim (insert-among m n ms p) as (λ u. ⊥) [ inl e ↦ new (inl (sym e)) | inr q ↦ d.0 q ]), rest)

pub ascending-among : (k : ℕ) (ns : List ℕ) → IsAmong k (ascending ns) → IsAmong k ns
ascending-among k [] p = p
ascending-among k (n ∷ ns) p = elim (insert-among k n (ascending ns) p) as (λ u. IsAmong k (n ∷ ns)) [
  | inl e ↦ inl e
  | inr q ↦ inr (ascending-among k ns q)
]

ascending-apart : (ns : List ℕ) → NoRepeats ns → NoRepeats (ascending ns)
ascending-apart [] d = tt
ascending-apart (n ∷ ns) d = insert-apart n (ascending ns) (ascending-apart ns d.1) (λ p. d.0 (ascending-among n ns p))

-- ---- of a node

abbrev is_value : ℕ → Port → Bool
is_value node p = (p.node == node) && p.held

port_among : (f : Fixed) (node k : ℕ) → IsAmong k (map (λ p. p.number) (filter (is_value node) f.ports))
    → (p : Port) × IsAmong p f.ports × (p.number ≡ k) × (p.node ≡ node) × (p.held ≡ true)
port_among f node k a =
    let q : (p : Port) × IsAmong p (filter (is_value node) f.ports) × (k ≡ p.number)
    = map-among (λ (p : Port). p.number) k (filter (is_value node) f.ports) a in
    let t : IsAmong q.0 f.ports × (is_value node q.0 ≡ true) = filter-among (is_value node) q.0 f.ports q.1 in
    let s : (((q.0).node == node) ≡ true) × ((q.0).held ≡ true) = split ((q.0).node == node) (q.0).held t.1 in
    (q.0, t.0, sym q.2, eqb-true (q.0).node node s.0, s.1)

handle_among : (f : Fixed) (node k : ℕ) → IsAmong k (map (λ h. h.number) (f.handles node)) → (h : Handle) × IsAmong h (f.handles node) × (h.number ≡ k)
handle_among f node k a =
    let q : (h : Handle) × IsAmong h (f.handles node) × (k ≡ h.number) = map-among (λ (h : Handle). h.number) k (f.handles node) a in
    (q.0, q.1, sym q.2)

pub numbers_are_values : (f : Fixed) (node k : ℕ) → IsAmong k (numbers_of_node f node) → IsValue f node k
numbers_are_values f node k a =
    let ports : List ℕ = map (λ p. p.number) (filter (is_value node) f.ports) in
    let handles : List ℕ = map (λ h. h.number) (f.handles node) in
    elim (among-append k ports handles (ascending-among k (ports ++ handles) a)) as (λ u. IsValue f node k) [
      | inl p ↦ inl (port_among f node k p)
      | inr p ↦ inr (handle_among f node k p)
    ]

pub numbers_apart : (f : Fixed) (node : ℕ) → Rests f → NoRepeats (numbers_of_node f node)
numbers_apart f node r =
    let ports : List ℕ = map (λ p. p.number) (filter (is_value node) f.ports) in
    let handles : List ℕ = map (λ h. h.number) (f.handles node) in
    ascending-apart (ports ++ handles)
    (no_repeats-append ports handles
    (no_repeats-map_filter (λ (p : Port). p.number) (is_value node) f.ports (distinct-no_repeats (map (λ (p : Port). p.number) f.ports) (r.numbered).0))
    (r.handles node).apart both)
  where
    both : (k : ℕ) → IsAmong k (map (λ p. p.number) (filter (is_value node) f.ports)) → IsAmong k (map (λ h. h.number) (f.handles node)) → ⊥
    both k a b =
        let p : (p : Port) × IsAmong p f.ports × (p.number ≡ k) × (p.node ≡ node) × (p.held ≡ true) = port_among f node k a in
        let h : (h : Handle) × IsAmong h (f.handles node) × (h.number ≡ k) = handle_among f node k b in
        never (any_at k f.ports)
        (among-any (λ q. q.number == k) p.0 f.ports p.1 (subst (λ j. (j == k) ≡ true) (sym p.2) (eqb-refl k)))
        (subst (λ j. any_at j f.ports ≡ false) h.2 ((r.handles node).each h.0 h.1).no_port)

pub values_have_own_numbers : ValuesHaveOwnNumbers
values_have_own_numbers s node left = no_repeats-distinct (numbers_of_node s.fixed node) (numbers_apart s.fixed node ((left_calm s left).rests).fixed)
