-- What is left where a receiver gives back the only message that it has.
use Rattle.std.proofs.Common.{◌≡◌, ◌==◌, ℕ, List, [], ◌∷◌, ◌++◌, Option, Some, Bool, true, cond, get_or, is_some, length, refl, sym, ap, ◌∙◌, arith, length-append}
use Rattle.std.proofs.lemmas.Bool.{eq-eqb}
use Rattle.std.specs.List.{position_from, swap_remove}
use Rattle.std.specs.Option.{option_map_or}
use Rattle.iox_lanes.specs.Lanes.{LaneState, is_taken, rank_in, without_taken}

lone_rank : (l : LaneState) (k : ℕ) → l.taken ≡ k ∷ [] → rank_in l.taken k ≡ Some 0
lone_rank l k is =
    ap (λ (ks : List ℕ). rank_in ks k) is
    ∙ ap (λ (b : Bool). cond b (Some 0) (position_from (λ n. n == k) 1 [])) (eq-eqb k k refl)

-- it has it
pub lone_taken : (l : LaneState) (k : ℕ) → l.taken ≡ k ∷ [] → is_taken l k ≡ true
lone_taken l k is = ap (λ (o : Option ℕ). is_some o) (lone_rank l k is)

none_before : (ks : List ℕ) (k x : ℕ) → k ∷ [] ≡ ks ++ x ∷ [] → ks ≡ []
none_before [] k x e = refl
none_before (y ∷ ys) k x e =
    let size = ap (λ (zs : List ℕ). length zs) e in
    absurd (omega (arith, size, length-append ys (x ∷ [])))

-- nothing is left
pub lone_left : (l : LaneState) (k x : ℕ) (ks : List ℕ) → l.taken ≡ k ∷ [] → l.taken ≡ ks ++ x ∷ []
    → record l { taken = ks } ≡ without_taken l k
lone_left l k x ks is e =
    let none : ks ≡ [] = none_before ks k x (sym is ∙ e) in
    let gone : ks ≡ swap_remove l.taken 0 k = none ∙ sym (ap (λ (zs : List ℕ). swap_remove zs 0 k) is) in
    ap (λ (zs : List ℕ). record l { taken = zs }) gone
    ∙ sym (ap (λ (o : Option ℕ). option_map_or (λ i. record l { taken = swap_remove l.taken i k }) o l) (lone_rank l k is))

-- ---- a list of one

pub one_place : (ks : List ℕ) (k : ℕ) → length ks ≡ 1 → get_or ks 0 0 ≡ k → ks ≡ k ∷ []
one_place [] k h e = absurd (omega (arith, h))
one_place (x ∷ []) k h e = ap (λ (n : ℕ). n ∷ []) e
one_place (x ∷ y ∷ ys) k h e = absurd (omega (arith, h))
