-- What the end of a call of a service adds to what a port keeps: nothing that its call did not hold.
use Rattle.std.specs.Prelude.{◌≡◌, ℕ, ◌<◌, Bool, true, false, if◌then◌else◌, ◌==◌, List, [], Some, ◌⊎◌, refl}
use Rattle.std.specs.Option.{option_map_or}
use Rattle.std.proofs.Common.{sym, subst, ap, ◌∙◌, eqb-true, inl, inr}
use Rattle.iox_model.specs.declared.way.Way.{Way}
use Rattle.iox_model.specs.declared.kind.Role.TheVariants.{Client}
use Rattle.iox_model.specs.Doings.{Outcome, Doing}
use Rattle.iox_model.specs.Ends.{settled}
use Rattle.iox_model.specs.Keeping.{serials_of_outcome, under_way}
use Rattle.iox_model.specs.Maps.{has_number}
use Rattle.iox_model.specs.Outstandings.{is_held, is_outstanding}
use Rattle.iox_model.specs.Peers.{port_at, role_at, node_of_port, ways_from}
use Rattle.iox_model.specs.States.{Port, Handle, State}
use Rattle.iox_model.specs.Transitions.{ends}
use Rattle.iox_model.specs.Weaves.{at_work}
use Rattle.iox_laws.proofs.WeaveWorlds.Reached.{ended_fits}
use Rattle.iox_laws.proofs.WeaveWorlds.Sound.{FitsOutcome}
use Rattle.iox_laws.proofs.WeaveLedger.Truths.{one_of, or-left, or-right}
use Rattle.iox_laws.proofs.WeaveLedger.Lists.{IsAmong, any-among, among-any}
use Rattle.iox_laws.proofs.WeaveLedger.Phases.{HasOwnPorts}
use Rattle.iox_laws.proofs.WeaveLedger.Views.{view, after_call}
use Rattle.iox_laws.proofs.WeavePools.Holds.{HoldsOwn, holds-held, held-holds, own-before}
use Rattle.iox_laws.proofs.WeavePools.HoldsKept.{keeps, under, Follows}
use Rattle.iox_laws.proofs.WeavePools.Under.{ends-same}
use Rattle.iox_laws.proofs.RunLaws.Calls.{own_ports}
use Rattle.iox_laws.proofs.RunLaws.Holding.{HoldsEnd, ended_holds}
use Rattle.iox_laws.proofs.RunLaws.Ports.{any_at}
use Rattle.iox_laws.proofs.RunLaws.Rests.{Rests}
use Rattle.iox_laws.proofs.RunPools.Stands.{StandsEnd, ends_stand, under_next}
use Rattle.iox_laws.proofs.RunPools.Goings.{Going}
use Rattle.iox_laws.proofs.RunPools.Follows.{calls, of_call, under_here, nothing}
use Rattle.iox_laws.proofs.RunPools.Parts.{SamePort, Leaves, was_way, settled_leaves, settled_more}
use Rattle.iox_laws.proofs.RunPools.Handles.{hub_view, end_fits, settled_handles}

-- a call that ends
pub record Ending (s : State) (n : ℕ) (o : Outcome) : Type 0 where
  pub fits : FitsOutcome s.fixed n o
  pub holds : HoldsEnd s.fixed o
  pub stands : StandsEnd s.fixed n o
  pub rests : Rests s.fixed

pub ending : (L : Handle → List Way → Type 0) (s : State) (n : ℕ) (d : Doing) (o : Outcome) → Going L s n d → ends s d ≡ Some o → Ending s n o
ending L s n d o g ended = record {
  fits = ended_fits s n d o ended ((g.goes).call).1;
  holds = ended_holds s d o ended (g.goes).holds;
  stands = ends_stand L s n d o ended g.stands;
  rests = (g.goes).fixed;
}

-- ---- handles

held_before : (s : State) (n : ℕ) (d : Doing) (payload : List ℕ) (o : Outcome) (q k : ℕ) → Ending s n o → ends s d ≡ Some o
    → HoldsOwn (view (settled s n payload o).fixed (node_of_port s.fixed q)) q k
    → (is_held s.fixed q k ≡ true) ⊎ (has_number k (under (calls s n d) q) ≡ true)
held_before s n d payload o q k e ended x =
    by_case (node_of_port s.fixed q == n) refl
    (subst (IsAmong x.handle) (settled_handles s n payload o (node_of_port s.fixed q) e.rests e.fits e.stands) x.among)
  where
    here : node_of_port s.fixed q ≡ n → HoldsOwn (hub_view s.fixed n) q k ⊎ (has_number k (serials_of_outcome q o) ≡ true)
        → (is_held s.fixed q k ≡ true) ⊎ (has_number k (under (calls s n d) q) ≡ true)
    here at (inl r) = inl (held-holds s.fixed n q k at (record { handle = r.handle; among = r.among; port = r.port; own = r.own; serial = r.serial }))
    here at (inr r) = inr (ap (has_number k) (under_here s n d q at ∙ ends-same s q d o ended) ∙ r)

    by_case : (b : Bool) → (node_of_port s.fixed q == n) ≡ b
        → IsAmong x.handle (if b then (after_call (hub_view s.fixed n) n payload o).handles else s.fixed.handles (node_of_port s.fixed q))
        → (is_held s.fixed q k ≡ true) ⊎ (has_number k (under (calls s n d) q) ≡ true)
    by_case true at among =
        here (eqb-true (node_of_port s.fixed q) n at)
        (own-before (hub_view s.fixed n) n payload o q k (e.rests.handles n).apart (end_fits s.fixed n o e.fits e.holds e.stands)
        (record { handle = x.handle; among = among; port = x.port; own = x.own; serial = x.serial }))
    by_case false at among =
        inl (held-holds s.fixed (node_of_port s.fixed q) q k refl (record { handle = x.handle; among = among; port = x.port; own = x.own; serial = x.serial }))

-- ---- all that the port keeps

pub end_follows : (L : Handle → List Way → Type 0) (s : State) (n : ℕ) (d : Doing) (payload : List ℕ) (o : Outcome) (q : ℕ) (p r : Port) → Going L s n d
    → ends s d ≡ Some o → Ending s n o → HasOwnPorts (settled s n payload o).fixed → port_at s.fixed q ≡ Some p
    → port_at (settled s n payload o).fixed q ≡ Some r
    → SamePort p r → any_at q (settled s n payload o).fixed.ports ≡ true → Follows (calls s n d) (at_work (settled s n payload o)) q p
end_follows L s n d payload o q p r g ended e own was is same there = record {
  loans = leaves.loans q there;
  kept = λ k h. elim (one_of (is_held t.fixed q k) (is_outstanding t q k) h) as (λ z. (keeps s q k ≡ true) ⊎ (has_number k (under (calls s n d) q) ≡ true)) [
    | inl h ↦ held k (held_before s n d payload o q k e ended (holds-held t.fixed (node_of_port s.fixed q) q k at h))
    | inr h ↦ inl (or-right (is_held s.fixed q k) (is_outstanding s q k) (out k (any-among (λ y. t.delivered y k) (ways_from t.fixed q) h)))
  ];
  call = λ k h. nothing k h;
  under_is = λ k. of_call s n d q (λ ks. has_number k ks ≡ true → k ≡ s.fixed.loans q) (λ at. under_next L s.fixed n d g.stands q k) (λ h. nothing k h);
  stays = λ k. of_call s n d q (λ ks. has_number k ks ≡ true → (k < t.fixed.loans q) ⊎ (has_number k [] ≡ true)) (λ at h. inl (below k h)) (λ h. nothing k h);
}
  where
    t : State
    t = settled s n payload o

    leaves : Leaves s t
    leaves = settled_leaves s n payload o (e.rests).hub e.stands

    at : node_of_port t.fixed q ≡ node_of_port s.fixed q
    at = ap (λ o. option_map_or (λ (x : Port). x.node) o 0) is ∙ same.node ∙ sym (ap (λ o. option_map_or (λ (x : Port). x.node) o 0) was)

    role : role_at t.fixed q ≡ role_at s.fixed q
    role = ap (λ o. option_map_or (λ (x : Port). x.role) o Client) is ∙ same.role ∙ sym (ap (λ o. option_map_or (λ (x : Port). x.role) o Client) was)

    held : (k : ℕ) → (is_held s.fixed q k ≡ true) ⊎ (has_number k (under (calls s n d) q) ≡ true)
        → (keeps s q k ≡ true) ⊎ (has_number k (under (calls s n d) q) ≡ true)
    held k (inl h) = inl (or-left (is_held s.fixed q k) (is_outstanding s q k) h)
    held k (inr h) = inr h

    out : (k : ℕ) → (y : Way) × IsAmong y (ways_from t.fixed q) × (t.delivered y k ≡ true) → is_outstanding s q k ≡ true
    out k y =
        among-any (λ z. s.delivered z k) y.0 (ways_from s.fixed q)
        (was_way s.fixed t.fixed q y.0 (own_ports s.fixed e.rests) own role (λ z a u. leaves.ports z a) y.1) (leaves.delivered y.0 k y.2)

    below : (k : ℕ) → has_number k (under_way q d) ≡ true → k < t.fixed.loans q
    below k h =
        subst (λ j. j < t.fixed.loans q) (sym (under_next L s.fixed n d g.stands q k h))
        (settled_more s n payload o q k (e.rests).hub (ap (has_number k) (sym (ends-same s q d o ended)) ∙ h))
