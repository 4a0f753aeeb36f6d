-- What is read of the count of one way.
use Rattle.std.proofs.Common.{◌≡◌, ℕ, zero, suc, ◌<◌, Bool, true, false, cond, List, [], ◌∷◌, length, get_or, Some, refl, ap, sym, subst, ◌∙◌, arith, true≢false}
use Rattle.std.specs.Prelude.{position, find, nat_le, ◌^◌, ◌-◌}
use Rattle.std.specs.Bool.{OnFalse}
use Rattle.std.proofs.lemmas.Bool.{leb-false}
use Rattle.std.specs.Option.{option_map_or}
use Rattle.std.proofs.lemmas.List.Quantifiers.{position-Some}
use Rattle.iox_model.specs.declared.way.Way.{Way}
use Rattle.iox_model.specs.Maps.{same_way}
use Rattle.iox_laws.proofs.WeaveLaws.MapLemmas.{same_way-true}
use Rattle.iox_wire_locals.specs.declared.table.Borrowed.{Borrowed}
use Rattle.iox_wire_seats.specs.Counts.{AreOfOtherWays, AreOfDifferentWays, IsBelow, count_at}

-- ---- the count of a way

first_is : (w : Way) (b : Borrowed) (bs : List Borrowed) → same_way b.way w ≡ true → count_at w (b ∷ bs) ≡ b.count
first_is w b bs is = ap (λ t. option_map_or (λ (x : Borrowed). x.count) (cond t (Some b) (find (λ x. same_way x.way w) bs)) 0) is

later_is : (w : Way) (b : Borrowed) (bs : List Borrowed) → same_way b.way w ≡ false → count_at w (b ∷ bs) ≡ count_at w bs
later_is w b bs is = ap (λ t. option_map_or (λ (x : Borrowed). x.count) (cond t (Some b) (find (λ x. same_way x.way w) bs)) 0) is

pub none_counted : (w : Way) (bs : List Borrowed) → AreOfOtherWays w bs → count_at w bs ≡ 0
none_counted w [] other = refl
none_counted w (b ∷ bs) other = later_is w b bs other.0 ∙ none_counted w bs other.1

at_place : (w : Way) (bs : List Borrowed) (i : ℕ) (d : Borrowed) → i < length bs
    → same_way (get_or bs i d).way w ≡ true → ((k : ℕ) → k < i → same_way (get_or bs k d).way w ≡ false)
    → count_at w bs ≡ (get_or bs i d).count
at_place w [] i d h is first = absurd (omega (arith, h))
at_place w (b ∷ bs) zero d h is first = first_is w b bs is
at_place w (b ∷ bs) (suc i) d h is first =
    later_is w b bs (first 0 (omega arith))
    ∙ at_place w bs i d (omega (arith, h)) is (λ k j. first (suc k) (omega (arith, j)))

pub count_is : (w : Way) (bs : List Borrowed) (i : ℕ) (b : Borrowed) → Some i ≡ position (λ x. same_way x.way w) bs
    → b ≡ get_or bs i b → count_at w bs ≡ b.count
count_is w bs i b at read =
    let facts = position-Some (λ (x : Borrowed). same_way x.way w) bs i b (sym at) in
    at_place w bs i b facts.0 facts.1 facts.2 ∙ sym (ap (λ (x : Borrowed). x.count) read)

-- ---- a bound of it

pub others_below : (n : ℕ) (w : Way) (bs : List Borrowed) → AreOfOtherWays w bs → IsBelow n w bs
others_below n w [] other = tt
others_below n w (b ∷ bs) other = (λ is. absurd (true≢false (sym is ∙ other.0)), others_below n w bs other.1)

pub is_below : (n : ℕ) (w : Way) (bs : List Borrowed) → AreOfDifferentWays bs → count_at w bs < n → IsBelow n w bs
is_below n w [] apart h = tt
is_below n w (b ∷ bs) apart h = by_case (same_way b.way w) refl (is_below n w bs apart.1)
  where
    by_case : (t : Bool) → same_way b.way w ≡ t → (count_at w bs < n → IsBelow n w bs) → IsBelow n w (b ∷ bs)
    by_case true is rest = (
      λ same. subst (λ (k : ℕ). k < n) (first_is w b bs is) h,
      others_below n w bs (subst (λ v. AreOfOtherWays v bs) (same_way-true b.way w is) apart.0),
    )
    by_case false is rest = (
      λ same. absurd (true≢false (sym same ∙ is)),
      rest (subst (λ (k : ℕ). k < n) (later_is w b bs is) h),
    )

pub below_limit : (limit : ℕ) (w : Way) (bs : List Borrowed) → limit < 2 ^ 64 → AreOfDifferentWays bs
    → OnFalse (nat_le limit (count_at w bs)) (IsBelow (2 ^ 64 - 1) w bs)
below_limit limit w bs fits apart = by_case (nat_le limit (count_at w bs)) refl
  where
    by_case : (t : Bool) → nat_le limit (count_at w bs) ≡ t → OnFalse t (IsBelow (2 ^ 64 - 1) w bs)
    by_case true is = tt
    by_case false is =
        let less : count_at w bs < limit = leb-false limit (count_at w bs) is in
        is_below (2 ^ 64 - 1) w bs apart (omega (arith, less, fits))
