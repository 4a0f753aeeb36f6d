-- A change of the desk of one port is a change at one place.
use Rattle.std.proofs.Common.{◌≡◌, ℕ, zero, suc, ◌+◌, ◌<◌, ◌≤◌, ◌==◌, Bool, not, true, false, cond, List, [], ◌∷◌, length, get_or, map, Some, None, refl, ap, sym, subst, ◌∙◌, arith, slice_set, eqb-true}
use Rattle.std.specs.Prelude.{Option, IfSome, find, position, nat_lt, ◌^◌}
use Rattle.std.specs.Option.{option_map_or}
use Rattle.std.specs.List.{prefix_len}
use Rattle.std.proofs.lemmas.Bool.{ltb-false}
use Rattle.std.proofs.lemmas.List.Quantifiers.{position-Some}
use Rattle.iox_wire_locals.specs.declared.table.Entry.{Entry}
use Rattle.iox_wire_locals.specs.declared.table.Desk.{Desk}
use Rattle.iox_wire_locals.specs.Desks.{on_desk}
use Rattle.iox_wire_seats.specs.Desks.{AreOfOtherPorts, AreOfDifferentPorts, IsHeldAt, MayGiveUp, MayCount, AtDesk, free_at}
use Rattle.iox_wire_seats.proofs.CountLemmas.{some-none}

-- ---- where no desk is of the port

pub others_stay : (n : ℕ) (f : Desk → Desk) (ds : List Desk) → AreOfOtherPorts n ds → ds ≡ map (on_desk n f) ds
others_stay n f [] other = refl
others_stay n f (d ∷ ds) other =
    ap (λ xs. d ∷ xs) (others_stay n f ds other.1)
    ∙ sym (ap (λ t. cond t (f d) d ∷ map (on_desk n f) ds) other.0)

none_from : (n : ℕ) (ds : List Desk) → length ds ≤ prefix_len (λ d. not (d.port == n)) ds → AreOfOtherPorts n ds
none_from n [] h = tt
none_from n (d ∷ ds) h = by_case (d.port == n) refl h (none_from n ds)
  where
    by_case : (t : Bool) → (d.port == n) ≡ t
        → suc (length ds) ≤ cond (not t) (1 + prefix_len (λ d. not (d.port == n)) ds) 0
        → (length ds ≤ prefix_len (λ d. not (d.port == n)) ds → AreOfOtherPorts n ds)
        → ((d.port == n) ≡ false) × AreOfOtherPorts n ds
    by_case true is h rest = absurd (omega (arith, h))
    by_case false is h rest = (is, rest (omega (arith, h)))

pub none_is : (n : ℕ) (ds : List Desk) → position (λ d. d.port == n) ds ≡ None → AreOfOtherPorts n ds
none_is n ds e = by_case (nat_lt (prefix_len (λ d. not (d.port == n)) ds) (length ds)) refl e
  where
    by_case : (t : Bool) → nat_lt (prefix_len (λ d. not (d.port == n)) ds) (length ds) ≡ t
        → cond t (Some (prefix_len (λ d. not (d.port == n)) ds)) None ≡ None → AreOfOtherPorts n ds
    by_case true is none = absurd (some-none none)
    by_case false is none = none_from n ds (ltb-false _ _ is)

-- ---- where one is

pub changed_at : (n : ℕ) (f : Desk → Desk) (ds : List Desk) (i : ℕ) (e : Desk) → AreOfDifferentPorts ds → i < length ds
    → ((get_or ds i e).port == n) ≡ true → ((k : ℕ) → k < i → ((get_or ds k e).port == n) ≡ false)
    → slice_set ds i (f (get_or ds i e)) ≡ map (on_desk n f) ds
changed_at n f [] i e apart h is first = absurd (omega (arith, h))
changed_at n f (d ∷ ds) zero e apart h is first =
    ap (λ xs. f d ∷ xs)
    (others_stay n f ds (subst (λ v. AreOfOtherPorts v ds) (eqb-true d.port n is) apart.0))
    ∙ sym (ap (λ t. cond t (f d) d ∷ map (on_desk n f) ds) is)
changed_at n f (d ∷ ds) (suc i) e apart h is first =
    ap (λ xs. d ∷ xs) (changed_at n f ds i e apart.1 (omega (arith, h)) is (λ k j. first (suc k) (omega (arith, j))))
    ∙ sym (ap (λ t. cond t (f d) d ∷ map (on_desk n f) ds) (first 0 (omega arith)))

-- the ports stay
OtherPorts-set : (n : ℕ) (ds : List Desk) (i : ℕ) (e d : Desk) → d.port ≡ (get_or ds i e).port → i < length ds
    → AreOfOtherPorts n ds → AreOfOtherPorts n (slice_set ds i d)
OtherPorts-set n [] i e d same h other = tt
OtherPorts-set n (x ∷ ds) zero e d same h other = (ap (λ y. y == n) same ∙ other.0, other.1)
OtherPorts-set n (x ∷ ds) (suc i) e d same h other = (other.0, OtherPorts-set n ds i e d same (omega (arith, h)) other.1)

pub DifferentPorts-set : (ds : List Desk) (i : ℕ) (e d : Desk) → d.port ≡ (get_or ds i e).port → i < length ds
    → AreOfDifferentPorts ds → AreOfDifferentPorts (slice_set ds i d)
DifferentPorts-set [] i e d same h apart = tt
DifferentPorts-set (x ∷ ds) zero e d same h apart = (subst (λ v. AreOfOtherPorts v ds) (sym same) apart.0, apart.1)
DifferentPorts-set (x ∷ ds) (suc i) e d same h apart =
    (OtherPorts-set x.port ds i e d same (omega (arith, h)) apart.0, DifferentPorts-set ds i e d same (omega (arith, h)) apart.1)

held_at : (o : Entry) (ds : List Desk) (i : ℕ) (e : Desk) → MayGiveUp o ds → i < length ds
    → ((get_or ds i e).port == o.port) ≡ true → IsHeldAt o (get_or ds i e)
held_at o [] i e held h is = absurd (omega (arith, h))
held_at o (d ∷ ds) zero e held h is = held.0 is
held_at o (d ∷ ds) (suc i) e held h is = held_at o ds i e held.1 (omega (arith, h)) is

-- ---- what was read at the place of the port

pub stored_at : (n : ℕ) (f : Desk → Desk) (ds : List Desk) (i : ℕ) (d : Desk) → AreOfDifferentPorts ds
    → Some i ≡ position (λ x. x.port == n) ds → d ≡ get_or ds i d → slice_set ds i (f d) ≡ map (on_desk n f) ds
stored_at n f ds i d apart at read =
    let facts = position-Some (λ (x : Desk). x.port == n) ds i d (sym at) in
    ap (λ (x : Desk). slice_set ds i (f x)) read ∙ changed_at n f ds i d apart facts.0 facts.1 facts.2

pub kept_apart : (ds : List Desk) (i : ℕ) (d e : Desk) (n : ℕ) → AreOfDifferentPorts ds
    → Some i ≡ position (λ x. x.port == n) ds → d ≡ get_or ds i d → e.port ≡ d.port
    → AreOfDifferentPorts (slice_set ds i e)
kept_apart ds i d e n apart at read same =
    let facts = position-Some (λ (x : Desk). x.port == n) ds i d (sym at) in
    DifferentPorts-set ds i d e (same ∙ ap (λ (x : Desk). x.port) read) facts.0 apart

pub held_there : (o : Entry) (ds : List Desk) (i : ℕ) (d : Desk) → MayGiveUp o ds
    → Some i ≡ position (λ x. x.port == o.port) ds → d ≡ get_or ds i d → IsHeldAt o d
held_there o ds i d held at read =
    let facts = position-Some (λ (x : Desk). x.port == o.port) ds i d (sym at) in
    subst (λ (x : Desk). IsHeldAt o x) (sym read) (held_at o ds i d held facts.0 facts.1)

count_at : (n : ℕ) (ds : List Desk) (i : ℕ) (e : Desk) → MayCount n ds → i < length ds
    → ((get_or ds i e).port == n) ≡ true → (get_or ds i e).loans + 1 < 2 ^ 64
count_at n [] i e may h is = absurd (omega (arith, h))
count_at n (d ∷ ds) zero e may h is = may.0 is
count_at n (d ∷ ds) (suc i) e may h is = count_at n ds i e may.1 (omega (arith, h)) is

pub count_there : (n : ℕ) (ds : List Desk) (i : ℕ) (d : Desk) → MayCount n ds
    → Some i ≡ position (λ x. x.port == n) ds → d ≡ get_or ds i d → d.loans + 1 < 2 ^ 64
count_there n ds i d may at read =
    let facts = position-Some (λ (x : Desk). x.port == n) ds i d (sym at) in
    subst (λ (x : Desk). x.loans + 1 < 2 ^ 64) (sym read) (count_at n ds i d may facts.0 facts.1)

-- ---- what is so at the desk of the port

so_at : (P : Desk → Type 0) (n : ℕ) (ds : List Desk) (i : ℕ) (e : Desk) → AtDesk P n ds → i < length ds
    → ((get_or ds i e).port == n) ≡ true → P (get_or ds i e)
so_at P n [] i e so h is = absurd (omega (arith, h))
so_at P n (d ∷ ds) zero e so h is = so.0 is
so_at P n (d ∷ ds) (suc i) e so h is = so_at P n ds i e so.1 (omega (arith, h)) is

pub so_there : (P : Desk → Type 0) (n : ℕ) (ds : List Desk) (i : ℕ) (d : Desk) → AtDesk P n ds
    → Some i ≡ position (λ x. x.port == n) ds → d ≡ get_or ds i d → P d
so_there P n ds i d so at read =
    let facts = position-Some (λ (x : Desk). x.port == n) ds i d (sym at) in
    subst P (sym read) (so_at P n ds i d so facts.0 facts.1)

-- ---- the free slots of a port

free_from : (n : ℕ) (ds : List Desk) (i : ℕ) (d : Desk) → i < length ds → ((get_or ds i d).port == n) ≡ true
    → ((k : ℕ) → k < i → ((get_or ds k d).port == n) ≡ false) → free_at n ds ≡ (get_or ds i d).free
free_from n [] i d h is first = absurd (omega (arith, h))
free_from n (x ∷ ds) zero d h is first =
    ap (λ (t : Bool). option_map_or (λ (y : Desk). y.free) (cond t (Some x) (find (λ y. y.port == n) ds)) []) is
free_from n (x ∷ ds) (suc i) d h is first =
    ap (λ (t : Bool). option_map_or (λ (y : Desk). y.free) (cond t (Some x) (find (λ y. y.port == n) ds)) []) (first 0 (omega arith))
    ∙ free_from n ds i d (omega (arith, h)) is (λ k j. first (suc k) (omega (arith, j)))

pub free_there : (n : ℕ) (ds : List Desk) (i : ℕ) (d : Desk) → Some i ≡ position (λ x. x.port == n) ds → d ≡ get_or ds i d
    → free_at n ds ≡ d.free
free_there n ds i d at read =
    let facts = position-Some (λ (x : Desk). x.port == n) ds i d (sym at) in
    free_from n ds i d facts.0 facts.1 facts.2 ∙ sym (ap (λ (x : Desk). x.free) read)

pub none_free : (n : ℕ) (ds : List Desk) → AreOfOtherPorts n ds → free_at n ds ≡ []
none_free n [] other = refl
none_free n (x ∷ ds) other =
    ap (λ (t : Bool). option_map_or (λ (y : Desk). y.free) (cond t (Some x) (find (λ y. y.port == n) ds)) []) other.0
    ∙ none_free n ds other.1

pub if_both : {A : Type 0} {P Q R : A → Type 0} (r : Option A) → ((a : A) → P a → Q a → R a) → IfSome r P → IfSome r Q → IfSome r R
if_both (Some a) f p q = f a p q
if_both None f p q = tt
