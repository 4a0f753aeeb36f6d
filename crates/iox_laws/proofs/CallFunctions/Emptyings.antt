-- A phase of a call in which ways are emptied, as loans and sends have it: all that was given back is
-- got back, way by way.
use Rattle.std.specs.Prelude.{◌≡◌, ℕ, Bool, false, List, [], ◌∷◌, ◌++◌, if◌then◌else◌, refl}
use Rattle.std.proofs.Common.{sym, subst, ap, ap₂, ◌∙◌}
use Rattle.iox_model.specs.declared.way.Way.{Way}
use Rattle.iox_model.specs.Doings.{Sending, Doing, Loaning, Emptying}
use Rattle.iox_model.specs.Maps.{is_empty, first_of, rest_of, put_at, put, without_way}
use Rattle.iox_model.specs.Moments.{moved, GetBack, SeesNoneBack}
use Rattle.iox_model.specs.Requests.{emptying}
use Rattle.iox_model.specs.Responses.{loaning}
use Rattle.iox_model.specs.States.{Handle, State}
use Rattle.iox_model.specs.Transitions.{next, IsIn}
use Rattle.iox_laws.proofs.WeaveLaws.MapLemmas.{is_in-first, put_twice, put_there, put_same}
use Rattle.iox_laws.specs.CallFunctions.Answers.{NoneInHand}
use Rattle.iox_laws.specs.CallFunctions.Sends.{without_all, emptied_at, emptied}
use Rattle.iox_laws.proofs.CallFunctions.Leads.{first_way}
use Rattle.iox_laws.proofs.CallFunctions.Walks.{Walks, stays, goes, joins}

-- What is to be done while these ways are left, and what follows from a state once they are those.
pub record IsEmptying (node : ℕ) (during : List Way → Doing) (after : State → List Way → Doing) : Type 0 where
  pub back_may : (s : State) (w : Way) (left : List Way) (k : ℕ) → IsIn w left → (next s node (during left) (GetBack w k)).condition
  pub back_stays : (s : State) (w : Way) (left : List Way) (k : ℕ) → (next s node (during left) (GetBack w k)).after ≡ during left
  pub none_may : (s : State) (w : Way) (left : List Way) → IsIn w left → (next s node (during left) (SeesNoneBack w)).condition
  pub none_leaves : (s : State) (w : Way) (left : List Way) → (next s node (during left) (SeesNoneBack w)).after ≡ after s (without_way w left)
  pub begins : (s : State) (w : Way) (left : List Way) → after s (w ∷ left) ≡ during (w ∷ left)

pub of_send : (node : ℕ) (x : Sending) → IsEmptying node (Emptying x) (λ s. emptying x)
of_send node x = record {
  back_may = λ s w left k e. e;
  back_stays = λ s w left k. refl;
  none_may = λ s w left e. e;
  none_leaves = λ s w left. refl;
  begins = λ s w left. refl;
}

pub of_loan : (node : ℕ) (copies : Bool) (h : Handle) → IsEmptying node (Loaning copies h) (λ s. loaning s copies h)
of_loan node copies h = record {
  back_may = λ s w left k e. e;
  back_stays = λ s w left k. refl;
  none_may = λ s w left e. e;
  none_leaves = λ s w left. refl;
  begins = λ s w left. refl;
}

-- ---- one way

-- one message is got back; all are
back_one : (s : State) (w : Way) (k : ℕ) → s.in_hand w ≡ []
    → moved s (GetBack w k) ≡ record s { returned = put s.returned w (rest_of (s.returned w)); delivered = put s.delivered w (put_at (s.delivered w) k false) }
back_one s w k hand = λ i. record s {
  in_hand = put_same s.in_hand w [] hand i;
  returned = put s.returned w (if is_empty (hand i) then rest_of (s.returned w) else s.returned w);
  delivered = put s.delivered w (put_at (s.delivered w) k false);
}

-- all these are the sender's again
abbrev with_none : State → Way → List ℕ → State
with_none s w ks = record s { returned = put s.returned w []; delivered = put s.delivered w (without_all (s.delivered w) ks) }

none_twice : (s : State) (w : Way) (a : List ℕ) (b : ℕ → Bool) (ks : List ℕ)
    → with_none (record s { returned = put s.returned w a; delivered = put s.delivered w b }) w ks
    ≡ record s { returned = put s.returned w []; delivered = put s.delivered w (without_all b ks) }
none_twice s w a b ks = λ i. record s {
  returned = put_twice s.returned w a [] i;
  delivered = (put_twice s.delivered w b (without_all (put s.delivered w b w) ks)
      ∙ ap (λ (f : ℕ → Bool). put s.delivered w (without_all f ks)) (put_there s.delivered w b)) i;
}

empties_at : (node : ℕ) (during : List Way → Doing) (after : State → List Way → Doing) → IsEmptying node during after
    → (s : State) (w : Way) (left : List Way) (ks : List ℕ) → s.in_hand w ≡ [] → s.returned w ≡ ks
    → Walks s node (during (w ∷ left)) (with_none s w ks) (after (with_none s w ks) left)
empties_at node during after f s w left [] hand e =
    let same : s ≡ with_none s w [] = λ i. record s { returned = sym (put_same s.returned w [] e) i; delivered = sym (put_same s.delivered w (s.delivered w) refl) i } in (
      SeesNoneBack w ∷ [],
      (ap is_empty e, f.none_may s w (w ∷ left) (is_in-first w left), tt),
      same,
      f.none_leaves s w (w ∷ left) ∙ first_way (after s) w left ∙ ap (λ (t : State). after t left) same,
    )
empties_at node during after f s w left (k ∷ ks) hand e =
    let d : ℕ → Bool = put_at (s.delivered w) k false in
    let t : State = record s { returned = put s.returned w (rest_of (s.returned w)); delivered = put s.delivered w d } in
    let back : t.returned w ≡ ks = put_there s.returned w (rest_of (s.returned w)) ∙ ap rest_of e in
    let rest : Walks t node (during (w ∷ left)) (with_none t w ks) (after (with_none t w ks) left) = empties_at node during after f t w left ks hand back in
    goes s node (during (w ∷ left)) (GetBack w k) _ _ (ap₂ (λ a b. first_of (a ++ b)) hand e) (f.back_may s w (w ∷ left) k (is_in-first w left))
    (subst (λ (x : Doing). Walks (moved s (GetBack w k)) node x (with_none s w (k ∷ ks)) (after (with_none s w (k ∷ ks)) left)) (sym (f.back_stays s w (w ∷ left) k))
    (subst (λ (v : State). Walks v node (during (w ∷ left)) (with_none s w (k ∷ ks)) (after (with_none s w (k ∷ ks)) left)) (sym (back_one s w k hand))
    (subst (λ (u : State). Walks t node (during (w ∷ left)) u (after u left)) (none_twice s w (rest_of (s.returned w)) d ks) rest)))

-- All ways are emptied, and then the call continues.
pub empties_all : (node : ℕ) (during : List Way → Doing) (after : State → List Way → Doing) → IsEmptying node during after
    → (s : State) (ws : List Way) → NoneInHand s → Walks s node (after s ws) (emptied s ws) (after (emptied s ws) [])
empties_all node during after f s [] none = stays _ _ _
empties_all node during after f s (w ∷ ws) none =
    subst (λ (d : Doing). Walks s node d (emptied s (w ∷ ws)) (after (emptied s (w ∷ ws)) [])) (sym (f.begins s w ws))
    (joins s node (during (w ∷ ws)) (emptied_at s w) (after (emptied_at s w) ws) _ _ (empties_at node during after f s w ws (s.returned w) (none w) refl)
    (empties_all node during after f (emptied_at s w) ws none))
