-- What a receive drops because it is stale, one after another.
use Rattle.std.specs.Prelude.{◌≡◌, ℕ, Bool, true, false, ◌||◌, if◌then◌else◌, ◌==◌, List, [], ◌∷◌, ◌++◌, refl}
use Rattle.std.proofs.Common.{sym, subst, ap, ◌∙◌}
use Rattle.std.proofs.lemmas.List.{append-nil, append_assoc, map-append}
use Rattle.iox_model.specs.declared.way.Way.{Way}
use Rattle.iox_model.specs.Maps.{is_empty, rest_of, same_way}
use Rattle.iox_model.specs.Messages.{serials_of, Message}
use Rattle.iox_model.specs.Moments.{Holds, moved, Take, GiveBack}
use Rattle.iox_model.specs.Peers.{is_counted_on}
use Rattle.iox_model.specs.States.{Fixed, State}
use Rattle.iox_laws.proofs.WeaveLaws.MapLemmas.{same_way-true, eqb-refl}
use Rattle.iox_laws.proofs.WeaveLedger.Truths.{or-right}
use Rattle.iox_laws.specs.ServiceLaws.Refusing.{DroppedStale}
use Rattle.iox_laws.proofs.ServiceLaws.GotBacks.{first_rest}

-- what was dropped on a way, where this is taken and not yet given back, this waits, and these are
-- given back
abbrev IsDropped : State → ℕ → Way → List Message → List Message → List ℕ → Type 0
IsDropped s port w held ws rs =
    (ms : List Message) × ((is_empty ms || (w.receiver == port)) ≡ true) × (s.waiting w ≡ ms ++ (held ++ ws))
    × (rs ≡ (if is_counted_on s.fixed w then s.returned w ++ serials_of ms else s.returned w))

-- the message of that way, if one is taken
abbrev held_on : Way → Message → Way → List Message
held_on w m v = if same_way v w then m ∷ [] else []

pub record Taken (s : State) (port : ℕ) (w : Way) (m : Message) (t : State) : Type 0 where
  pub members : t.members ≡ s.members
  pub fixed : t.fixed ≡ s.fixed
  pub in_hand : t.in_hand ≡ s.in_hand
  pub delivered : t.delivered ≡ s.delivered
  pub request_state : t.request_state ≡ s.request_state
  pub stale : (v : Way) → IsDropped s port v (held_on w m v) (t.waiting v) (t.returned v)

append_none : (b : Bool) (ns : List ℕ) → ns ≡ (if b then ns ++ [] else ns)
append_none true ns = sym (append-nil ns)
append_none false ns = refl

pub dropped_none : (s : State) (port : ℕ) → DroppedStale s port s
dropped_none s port = record {
  members = refl;
  fixed = refl;
  in_hand = refl;
  delivered = refl;
  request_state = refl;
  stale = λ w. ([], refl, refl, append_none (is_counted_on s.fixed w) (s.returned w));
}

pub takes_one : (s : State) (port : ℕ) (u : State) (w : Way) (m : Message) → Holds u (Take w m) → DroppedStale s port u
    → Taken s port w m (moved u (Take w m))
takes_one s port u w m holds p = record {
  members = p.members;
  fixed = p.fixed;
  in_hand = p.in_hand;
  delivered = p.delivered;
  request_state = p.request_state;
  stale = λ v. by_case v (same_way v w) refl;
}
  where
    by_case : (v : Way) (c : Bool) → same_way v w ≡ c
        → IsDropped s port v (if c then m ∷ [] else []) (if c then rest_of (u.waiting w) else u.waiting v) (u.returned v)
    by_case v true same =
        subst (λ z. IsDropped s port z (m ∷ []) (rest_of (u.waiting w)) (u.returned z)) (sym (same_way-true v w same)) (
          (p.stale w).0,
          (p.stale w).1,
          (p.stale w).2 ∙ ap (λ xs. (p.stale w).0 ++ xs) (first_rest (u.waiting w) m holds),
          (p.stale w).3,
        )
    by_case v false other = p.stale v

pub gives_one : (s : State) (port : ℕ) (u : State) (w : Way) (m : Message) → w.receiver ≡ port → Taken s port w m u
    → DroppedStale s port (moved u (GiveBack w m.serial))
gives_one s port u w m at p = record {
  members = p.members;
  fixed = p.fixed;
  in_hand = p.in_hand;
  delivered = p.delivered;
  request_state = p.request_state;
  stale = λ v. by_case v (same_way v w) refl (p.stale v);
}
  where
    counted : (b : Bool) (rs ms_rs : List ℕ) (ms : List Message) → rs ≡ (if b then ms_rs ++ serials_of ms else ms_rs)
        → (if b then rs ++ m.serial ∷ [] else rs) ≡ (if b then ms_rs ++ serials_of (ms ++ m ∷ []) else ms_rs)
    counted true rs old ms e =
        ap (λ xs. xs ++ m.serial ∷ []) e ∙ append_assoc old (serials_of ms) (m.serial ∷ [])
        ∙ ap (λ xs. old ++ xs) (sym (map-append (λ (x : Message). x.serial) ms (m ∷ [])))
    counted false rs old ms e = e

    by_case : (v : Way) (c : Bool) → same_way v w ≡ c → IsDropped s port v (if c then m ∷ [] else []) (u.waiting v) (u.returned v)
        → IsDropped s port v [] (u.waiting v) (if c then (if is_counted_on u.fixed w then u.returned w ++ m.serial ∷ [] else u.returned w) else u.returned v)
    by_case v true same d =
        let is : w ≡ v = sym (same_way-true v w same) in (
          d.0 ++ m ∷ [],
          or-right (is_empty (d.0 ++ m ∷ [])) (v.receiver == port)
              (subst (λ (z : Way). (z.receiver == port) ≡ true) is (subst (λ n. (w.receiver == n) ≡ true) at (eqb-refl w.receiver))),
          d.2 ∙ sym (append_assoc d.0 (m ∷ []) (u.waiting v)),
          ap (λ (z : Way). if is_counted_on u.fixed z then u.returned z ++ m.serial ∷ [] else u.returned z) is
              ∙ ap (λ (f : Fixed). if is_counted_on f v then u.returned v ++ m.serial ∷ [] else u.returned v) p.fixed
              ∙ counted (is_counted_on s.fixed v) (u.returned v) (s.returned v) d.0 d.3,
        )
    by_case v false other d = d
