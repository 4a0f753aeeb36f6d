-- What a loan reads at the desk of its port.
use Rattle.std.proofs.Common.{◌≡◌, ℕ, zero, suc, ◌+◌, ◌<◌, ◌==◌, Bool, true, false, cond, List, [], ◌∷◌, length, get_or, Some, None, refl, ap, sym, subst, ◌∙◌, arith, slice_index}
use Rattle.std.specs.Prelude.{Option, find, position}
use Rattle.std.proofs.lemmas.List.Quantifiers.{position-Some}
use Rattle.iox_wire_locals.specs.declared.table.Desk.{Desk}
use Rattle.iox_wire_seats.specs.Desks.{AreOfOtherPorts}

-- ---- the desk of a port

found_from : (n : ℕ) (ds : List Desk) (i : ℕ) (d : Desk) → i < length ds → ((get_or ds i d).port == n) ≡ true
    → ((k : ℕ) → k < i → ((get_or ds k d).port == n) ≡ false) → find (λ x. x.port == n) ds ≡ Some (get_or ds i d)
found_from n [] i d h is first = absurd (omega (arith, h))
found_from n (x ∷ ds) zero d h is first = ap (λ (t : Bool). cond t (Some x) (find (λ y. y.port == n) ds)) is
found_from n (x ∷ ds) (suc i) d h is first =
    ap (λ (t : Bool). cond t (Some x) (find (λ y. y.port == n) ds)) (first 0 (omega arith))
    ∙ found_from n ds i d (omega (arith, h)) is (λ k j. first (suc k) (omega (arith, j)))

pub found_there : (n : ℕ) (ds : List Desk) (i : ℕ) (d : Desk) → Some i ≡ position (λ x. x.port == n) ds → d ≡ get_or ds i d
    → find (λ x. x.port == n) ds ≡ Some d
found_there n ds i d at read =
    let facts = position-Some (λ (x : Desk). x.port == n) ds i d (sym at) in
    found_from n ds i d facts.0 facts.1 facts.2 ∙ ap (λ (x : Desk). Some x) (sym read)

pub none_found : (n : ℕ) (ds : List Desk) → AreOfOtherPorts n ds → find (λ x. x.port == n) ds ≡ None
none_found n [] other = refl
none_found n (x ∷ ds) other =
    ap (λ (t : Bool). cond t (Some x) (find (λ y. y.port == n) ds)) other.0 ∙ none_found n ds other.1
