-- The numbers of a node's values ascend.
use Rattle.std.specs.Prelude.{◌≡◌, ℕ, Bool, true, false, ◌&&◌, if◌then◌else◌, ◌==◌, nat_lt, nat_le, List, [], ◌∷◌, map, filter, ◌++◌, ◌⊎◌, refl}
use Rattle.std.specs.List.{list_all}
use Rattle.std.proofs.Common.{arith, inl, inr}
use Rattle.iox_model.specs.Services.{insert_number, ascending, numbers_of_node}
use Rattle.iox_laws.proofs.WeaveLaws.WholeLemmas.{split}
use Rattle.iox_laws.proofs.WeaveLedger.Lists.{IsAmong, NoRepeats}
use Rattle.iox_laws.proofs.WeaveLedger.Orders.{le-le}
use Rattle.iox_laws.proofs.WeaveLedger.Truths.{both_true}
use Rattle.iox_laws.proofs.RunLaws.Runs.{left_calm}
use Rattle.iox_laws.proofs.RunLaws.Values.{numbers_apart}
use Rattle.iox_laws.specs.ServiceLaws.Cleaning.{ReleasesAscend}
use Rattle.iox_laws.specs.ServiceLaws.Listings.{are_ascending}

-- ---- in order, where some may stand there twice

abbrev are_ordered : List ℕ → Bool
are_ordered [] = true
are_ordered (n ∷ ns) = list_all (nat_le n) ns && are_ordered ns

all_insert : (p : ℕ → Bool) (n : ℕ) (ns : List ℕ) → p n ≡ true → list_all p ns ≡ true → list_all p (insert_number n ns) ≡ true
all_insert p n [] here e = both_true (p n) true here refl
all_insert p n (k ∷ ks) here e =
    let q : (p k ≡ true) × (list_all p ks ≡ true) = split (p k) (list_all p ks) e in
    by_case (nat_lt n k) (all_insert p n ks here q.1) q.0
  where
    by_case : (b : Bool) → list_all p (insert_number n ks) ≡ true → p k ≡ true
        → list_all p (if b then n ∷ k ∷ ks else k ∷ insert_number n ks) ≡ true
    by_case true rest first = both_true (p n) (list_all p (k ∷ ks)) here e
    by_case false rest first = both_true (p k) (list_all p (insert_number n ks)) first rest

all_above : (n k : ℕ) (ks : List ℕ) → nat_le n k ≡ true → list_all (nat_le k) ks ≡ true → list_all (nat_le n) ks ≡ true
all_above n k [] less e = refl
all_above n k (m ∷ ms) less e =
    let q : (nat_le k m ≡ true) × (list_all (nat_le k) ms ≡ true) = split (nat_le k m) (list_all (nat_le k) ms) e in
    both_true (nat_le n m) (list_all (nat_le n) ms) (le-le n k m less q.0) (all_above n k ms less q.1)

insert_ordered : (n : ℕ) (ns : List ℕ) → are_ordered ns ≡ true → are_ordered (insert_number n ns) ≡ true
insert_ordered n [] e = refl
insert_ordered n (k ∷ ks) e =
    let q : (list_all (nat_le k) ks ≡ true) × (are_ordered ks ≡ true) = split (list_all (nat_le k) ks) (are_ordered ks) e in
    by_case (nat_lt n k) refl q.0 (insert_ordered n ks q.1)
  where
    below : (a b : ℕ) → nat_lt a b ≡ true → nat_le a b ≡ true
    below a b e = grind (arith)

    above : (a b : ℕ) → nat_lt a b ≡ false → nat_le b a ≡ true
    above a b e = grind (arith)

    by_case : (b : Bool) → nat_lt n k ≡ b → list_all (nat_le k) ks ≡ true → are_ordered (insert_number n ks) ≡ true
        → are_ordered (if b then n ∷ k ∷ ks else k ∷ insert_number n ks) ≡ true
    by_case true less first rest =
        both_true (list_all (nat_le n) (k ∷ ks)) (are_ordered (k ∷ ks))
        (both_true (nat_le n k) (list_all (nat_le n) ks) (below n k less) (all_above n k ks (below n k less) first)) e
    by_case false less first rest =
        both_true (list_all (nat_le k) (insert_number n ks)) (are_ordered (insert_number n ks))
        (all_insert (nat_le k) n ks (above n k less) first) rest

ascending_ordered : (ns : List ℕ) → are_ordered (ascending ns) ≡ true
ascending_ordered [] = refl
ascending_ordered (n ∷ ns) = insert_ordered n (ascending ns) (ascending_ordered ns)

-- ---- where none stands there twice

all_strict : (n : ℕ) (ns : List ℕ) → (IsAmong n ns → ⊥) → list_all (nat_le n) ns ≡ true → list_all (nat_lt n) ns ≡ true
all_strict n [] new e = refl
all_strict n (k ∷ ks) new e =
    let q : (nat_le n k ≡ true) × (list_all (nat_le n) ks ≡ true) = split (nat_le n k) (list_all (nat_le n) ks) e in
    both_true (nat_lt n k) (list_all (nat_lt n) ks) (by_case (nat_lt n k) refl) (all_strict n ks (λ p. new (inr p)) q.1)
  where
    same : (a b : ℕ) → nat_le a b ≡ true → nat_lt a b ≡ false → a ≡ b
    same a b e f = grind (arith)

    by_case : (b : Bool) → nat_lt n k ≡ b → nat_lt n k ≡ true
    by_case true is = is
    by_case false is = absurd (new (inl (same n k (split (nat_le n k) (list_all (nat_le n) ks) e).0 is)))

ordered_ascends : (ns : List ℕ) → NoRepeats ns → are_ordered ns ≡ true → are_ascending ns ≡ true
ordered_ascends [] d e = refl
ordered_ascends (n ∷ ns) d e =
    let q : (list_all (nat_le n) ns ≡ true) × (are_ordered ns ≡ true) = split (list_all (nat_le n) ns) (are_ordered ns) e in
    both_true (list_all (nat_lt n) ns) (are_ascending ns) (all_strict n ns d.0 q.0) (ordered_ascends ns d.1 q.1)

pub releases_ascend : ReleasesAscend
releases_ascend s node left =
    ordered_ascends (numbers_of_node s.fixed node) (numbers_apart s.fixed node ((left_calm s left).rests).fixed)
    (ascending_ordered (map (λ p. p.number) (filter (λ p. (p.node == node) && p.held) s.fixed.ports)
    ++ map (λ h. h.number) (s.fixed.handles node)))

-- ---- all that were there are there still

insert-too : (k n : ℕ) (ns : List ℕ) → (k ≡ n) ⊎ IsAmong k ns → IsAmong k (insert_number n ns)
insert-too k n [] (inl e) = inl e
insert-too k n [] (inr p) = absurd p
insert-too k n (m ∷ ms) p = by_case (nat_lt n m) p (λ q. insert-too k n ms q)
  where
    by_case : (b : Bool) → (k ≡ n) ⊎ IsAmong k (m ∷ ms) → ((k ≡ n) ⊎ IsAmong k ms → IsAmong k (insert_number n ms))
        → IsAmong k (if b then n ∷ m ∷ ms else m ∷ insert_number n ms)
    by_case true (inl e) rest = inl e
    by_case true (inr q) rest = inr q
    by_case false (inl e) rest = inr (rest (inl e))
    by_case false (inr (inl e)) rest = inl e
    by_case false (inr (inr q)) rest = inr (rest (inr q))

pub among-ascending : (k : ℕ) (ns : List ℕ) → IsAmong k ns → IsAmong k (ascending ns)
among-ascending k [] p = p
among-ascending k (n ∷ ns) (inl e) = insert-too k n (ascending ns) (inl e)
among-ascending k (n ∷ ns) (inr p) = insert-too k n (ascending ns) (inr (among-ascending k ns p))
