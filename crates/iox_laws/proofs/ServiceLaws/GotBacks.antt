-- What a port gets back, one after another.
use Rattle.std.specs.Prelude.{◌≡◌, ℕ, Bool, true, false, not, ◌&&◌, ◌||◌, if◌then◌else◌, ◌==◌, List, [], ◌∷◌, ◌++◌, Some, refl}
use Rattle.std.proofs.Common.{sym, subst, ap, ◌∙◌, arith}
use Rattle.std.proofs.lemmas.List.{append_assoc}
use Rattle.iox_model.specs.declared.way.Way.{Way}
use Rattle.iox_model.specs.Maps.{is_empty, first_of, rest_of, has_number, put_at, same_way}
use Rattle.iox_model.specs.Moments.{Holds, moved, GetBack}
use Rattle.iox_model.specs.States.{State}
use Rattle.iox_laws.proofs.WeaveLaws.MapLemmas.{put_same, same_way-true, eqb-refl}
use Rattle.iox_laws.proofs.WeaveLaws.WholeLemmas.{some-is}
use Rattle.iox_laws.proofs.WeaveLedger.Truths.{none-some, or-right}
use Rattle.iox_laws.specs.ServiceLaws.Refusing.{GotBack}
use Rattle.iox_laws.proofs.ServiceLaws.Quiet.{Quiet}

-- what was got back on a way, where these are given back there still and those are outstanding
abbrev IsBack : State → ℕ → Way → List ℕ → (ℕ → Bool) → Type 0
IsBack s port w rs ds =
    (ks : List ℕ) × ((is_empty ks || (w.sender == port)) ≡ true) × (s.returned w ≡ ks ++ rs)
    × ((k : ℕ) → ds k ≡ (s.delivered w k && not (has_number k ks)))

and_true : (b : Bool) → b ≡ (b && true)
and_true true = refl
and_true false = refl

pub got_none : (s : State) (port : ℕ) → GotBack s port s
got_none s port = record {
  members = refl;
  fixed = refl;
  waiting = refl;
  in_hand = refl;
  request_state = refl;
  back = λ w. ([], refl, refl, λ k. and_true (s.delivered w k));
}

pub first_rest : {A : Type 0} (xs : List A) (x : A) → first_of xs ≡ Some x → xs ≡ x ∷ rest_of xs
first_rest [] x e = none-some x e
first_rest (y ∷ ys) x e = ap (λ z. z ∷ ys) (some-is y x e)

-- one more among those got back
one_more : (j k : ℕ) (ks : List ℕ) (b d : Bool) → d ≡ (b && not (has_number j ks))
    → (if j == k then false else d) ≡ (b && not (has_number j (ks ++ k ∷ [])))
one_more j k ks b d e = by_case (j == k) refl
  where
    flip : (a c : ℕ) → (c == a) ≡ (a == c)
    flip a c = grind (arith)

    last : (ns : List ℕ) → has_number j (ns ++ k ∷ []) ≡ (has_number j ns || (j == k))
    last [] = ap (λ x. x || false) (flip j k) ∙ or_none (j == k)
      where
        or_none : (x : Bool) → (x || false) ≡ x
        or_none true = refl
        or_none false = refl
    last (n ∷ ns) = ap (λ x. (n == j) || x) (last ns) ∙ or_more (n == j) (has_number j ns) (j == k)
      where
        or_more : (x y z : Bool) → (x || (y || z)) ≡ ((x || y) || z)
        or_more true y z = refl
        or_more false y z = refl

    none : (x y : Bool) → false ≡ (x && not (y || true))
    none true true = refl
    none true false = refl
    none false y = refl

    same : (x y : Bool) → (x && not y) ≡ (x && not (y || false))
    same x true = refl
    same x false = refl

    by_case : (c : Bool) → (j == k) ≡ c → (if c then false else d) ≡ (b && not (has_number j (ks ++ k ∷ [])))
    by_case true is = none b (has_number j ks) ∙ ap (λ x. b && not (has_number j ks || x)) (sym is) ∙ ap (λ x. b && not x) (sym (last ks))
    by_case false other =
        e ∙ same b (has_number j ks) ∙ ap (λ x. b && not (has_number j ks || x)) (sym other) ∙ ap (λ x. b && not x) (sym (last ks))

pub got_more : (s : State) (port : ℕ) (u : State) (w : Way) (k : ℕ) → Quiet s → w.sender ≡ port → Holds u (GetBack w k) → GotBack s port u
    → GotBack s port (moved u (GetBack w k))
got_more s port u w k q from holds g = record {
  members = g.members;
  fixed = g.fixed;
  waiting = g.waiting;
  in_hand = put_same u.in_hand w [] empty ∙ g.in_hand;
  request_state = g.request_state;
  back = λ v. by_case v (same_way v w) refl;
}
  where
    empty : u.in_hand w ≡ []
    empty = ap (λ (f : Way → List ℕ). f w) g.in_hand ∙ q.hand w

    rest : u.returned w ≡ k ∷ rest_of (u.returned w)
    rest = first_rest (u.returned w) k (sym (ap (λ xs. first_of (xs ++ u.returned w)) empty) ∙ holds)

    shorter : (if is_empty (u.in_hand w) then rest_of (u.returned w) else u.returned w) ≡ rest_of (u.returned w)
    shorter = ap (λ (xs : List ℕ). if is_empty xs then rest_of (u.returned w) else u.returned w) empty

    here : IsBack s port w (if is_empty (u.in_hand w) then rest_of (u.returned w) else u.returned w) (put_at (u.delivered w) k false)
    here =
        let b : IsBack s port w (u.returned w) (u.delivered w) = g.back w in (
          b.0 ++ k ∷ [],
          or-right (is_empty (b.0 ++ k ∷ [])) (w.sender == port) (subst (λ n. (w.sender == n) ≡ true) from (eqb-refl w.sender)),
          b.2 ∙ ap (λ xs. b.0 ++ xs) rest ∙ sym (append_assoc b.0 (k ∷ []) (rest_of (u.returned w))) ∙ ap (λ xs. (b.0 ++ k ∷ []) ++ xs) (sym shorter),
          (λ j. one_more j k b.0 (s.delivered w j) (u.delivered w j) (b.3 j)),
        )

    by_case : (v : Way) (c : Bool) → same_way v w ≡ c
        → IsBack s port v (if c then (if is_empty (u.in_hand w) then rest_of (u.returned w) else u.returned w) else u.returned v)
        (if c then put_at (u.delivered w) k false else u.delivered v)
    by_case v true same =
        subst (λ z. IsBack s port z (if is_empty (u.in_hand w) then rest_of (u.returned w) else u.returned w) (put_at (u.delivered w) k false))
        (sym (same_way-true v w same)) here
    by_case v false other = g.back v
