-- Lists in ascending order: their first is the least, and those with the same members are one.
use Rattle.std.specs.Prelude.{◌≡◌, ℕ, ◌<◌, Bool, true, false, if◌then◌else◌, nat_lt, List, [], ◌∷◌, min, Some, refl}
use Rattle.std.specs.List.{list_all}
use Rattle.std.proofs.Common.{sym, ap, ap₂, ◌∙◌, arith, inl, inr}
use Rattle.std.proofs.lemmas.Bool.{ltb-true, ltb-false}
use Rattle.iox_model.specs.Maps.{first_of}
use Rattle.iox_model.specs.Services.{ascending, insert_number}
use Rattle.iox_laws.specs.ServiceLaws.Listings.{are_ascending}
use Rattle.iox_laws.proofs.WeaveLaws.WholeLemmas.{split}
use Rattle.iox_laws.proofs.WeaveLedger.Lists.{IsAmong}
use Rattle.iox_handles.specs.Least.{least, lesser}

-- ---- the first

first-insert : (n : ℕ) (ks : List ℕ) → first_of (insert_number n ks) ≡ lesser (Some n) (first_of ks)
first-insert n [] = refl
first-insert n (k ∷ ks) = by_case (nat_lt n k) refl
  where
    by_case : (b : Bool) → nat_lt n k ≡ b → first_of (if b then n ∷ k ∷ ks else k ∷ insert_number n ks) ≡ Some (min n k)
    by_case true e = let less = ltb-true n k e in ap (λ m. Some m) (omega (arith, less))
    by_case false e = let more = ltb-false n k e in ap (λ m. Some m) (omega (arith, more))

pub first-ascending : (ns : List ℕ) → first_of (ascending ns) ≡ least ns
first-ascending [] = refl
first-ascending (n ∷ ns) = first-insert n (ascending ns) ∙ ap (lesser (Some n)) (first-ascending ns)

-- ---- the same members

pub above_all : (n k : ℕ) (ns : List ℕ) → list_all (nat_lt n) ns ≡ true → IsAmong k ns → n < k
above_all n k (m ∷ ms) e (inl same) =
    let less = ltb-true n m (split (nat_lt n m) (list_all (nat_lt n) ms) e).0 in omega (arith, less, same)
above_all n k (m ∷ ms) e (inr among) = above_all n k ms (split (nat_lt n m) (list_all (nat_lt n) ms) e).1 among
above_all n k [] e among = absurd among

pub same_ascending : (xs ys : List ℕ) → are_ascending xs ≡ true → are_ascending ys ≡ true → ((k : ℕ) → IsAmong k xs → IsAmong k ys)
    → ((k : ℕ) → IsAmong k ys → IsAmong k xs) → xs ≡ ys
same_ascending [] [] a b there back = refl
same_ascending [] (y ∷ ys) a b there back = absurd (back y (inl refl))
same_ascending (x ∷ xs) [] a b there back = absurd (there x (inl refl))
same_ascending (x ∷ xs) (y ∷ ys) a b there back =
    let p : (list_all (nat_lt x) xs ≡ true) × (are_ascending xs ≡ true) = split (list_all (nat_lt x) xs) (are_ascending xs) a in
    let q : (list_all (nat_lt y) ys ≡ true) × (are_ascending ys ≡ true) = split (list_all (nat_lt y) ys) (are_ascending ys) b in
    ap₂ (λ m ms. m ∷ ms) (first p.0 q.0 (there x (inl refl)) (back y (inl refl)))
    (same_ascending xs ys p.1 q.1
    (λ k among. behind x y ys k (above_all x k xs p.0 among) (first p.0 q.0 (there x (inl refl)) (back y (inl refl))) (there k (inr among)))
    (λ k among. behind y x xs k (above_all y k ys q.0 among) (sym (first p.0 q.0 (there x (inl refl)) (back y (inl refl)))) (back k (inr among))))
  where
    first : list_all (nat_lt x) xs ≡ true → list_all (nat_lt y) ys ≡ true → IsAmong x (y ∷ ys) → IsAmong y (x ∷ xs) → x ≡ y
    first p q (inl same) other = same
    first p q (inr among) (inl same) = sym same
    first p q (inr among) (inr other) =
        let one = above_all y x ys q among in
        let two = above_all x y xs p other in absurd (omega (arith, one, two))

    behind : (z w : ℕ) (ws : List ℕ) (k : ℕ) → z < k → z ≡ w → IsAmong k (w ∷ ws) → IsAmong k ws
    behind z w ws k less same (inl is) = absurd (omega (arith, less, same, is))
    behind z w ws k less same (inr among) = among
