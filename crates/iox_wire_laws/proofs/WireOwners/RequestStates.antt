-- A state that names no other request stays such a state as others close it and give hints.
use Rattle.std.specs.Prelude.{if◌then◌else◌}
use Rattle.std.proofs.Common.{◌≡◌, ℕ, Bool, true, false, ◌==◌, refl, sym, subst, ◌∙◌, true≢false, eqb-true, eq-eqb}
use Rattle.iox_model.specs.declared.way.RequestState.{RequestState}
use Rattle.iox_model.specs.declared.way.RequestState.TheVariants.{Closed, Named}
use Rattle.iox_model.specs.declared.way.Way.{Way}
use Rattle.iox_model.specs.Maps.{same_way}
use Rattle.iox_model.specs.Messages.{closed_for, hinted_for, names}
use Rattle.iox_model.specs.Moments.{Moment, Open, Close, Hint, moved}
use Rattle.iox_model.specs.Peers.{node_of_port}
use Rattle.iox_model.specs.Weaves.{World, Begins, Makes, Ends, Dies, IsBeat}
use Rattle.iox_laws.proofs.WeaveLaws.MapLemmas.{either, same_way-true}
use Rattle.iox_laws.proofs.WeaveLaws.WireLemmas.{settled_same}
use Rattle.iox_laws.proofs.WeaveBeats.LiveWays.{Here, here}
use Rattle.iox_laws.proofs.WeaveLedger.OwnWays.{CallsOwn, own-is, opens-here, weave-own}
use Rattle.iox_laws.proofs.WeaveLedger.Worlds.{doing-is}
use Rattle.iox_laws.specs.WeaveWorlds.Worlds.{IsReachable}
use Rattle.iox_wire_laws.specs.WireOwners.RequestStates.{NamesNoOther, OnlyClientsOpen, OthersOpenNothing}

-- ---- who opens

-- whatever calls are under way
calls_open : (w : World) → IsReachable w → (k : ℕ) → CallsOwn (w.doing k)
calls_open w reach = weave-own reach.0 w reach.1 reach.3 (λ k. subst (λ (v : World). CallsOwn (v.doing k)) (sym reach.2.3) tt)

pub only_clients_open : OnlyClientsOpen
only_clients_open w u node id y reach beat =
    opens-here w.state node beat.1 y id (doing-is w node beat.1 (here w reach).holding.fits beat.2)
    (own-is (w.doing node) beat.1 beat.2 (calls_open w reach node)) beat.4

-- ---- what a state names

is_named : (b : Bool) (a : ℕ) (h : Bool) → (if b then Closed else Named a h) ≡ Closed → b ≡ true
is_named true a h e = refl
is_named false a h e = absurd (subst IsNamed e tt)
  where
    IsNamed : RequestState → Type 0
    IsNamed Closed = ⊥
    IsNamed (Named k j) = Unit {0}

pub closed_still : (shown : RequestState) (other id : ℕ) → NamesNoOther shown id → NamesNoOther (closed_for shown other) id
closed_still shown other id is = either (λ s. NamesNoOther s id) (names shown other) Closed shown (λ u. refl) (λ u. is)

pub hinted_still : (shown : RequestState) (other id : ℕ) → NamesNoOther shown id → NamesNoOther (hinted_for shown other) id
hinted_still Closed other id is = refl
hinted_still (Named a h) other id is =
    either (λ s. NamesNoOther s id) (a == other) (Named other true) (Named a h) (λ same. rw (sym (eqb-true a other same), is_named (a == id) a h is) refl) (λ u. is)

-- ---- beats of others

module _ (w u : World) (k n : ℕ) (y : Way) (id : ℕ) (reach : IsReachable w) (other : (n == k) ≡ false) (at : node_of_port w.state.fixed y.receiver ≡ n)
    (is : NamesNoOther (w.state.request_state y) id) where
  moved_still : (m : Moment) → IsBeat w (Makes k m) u → NamesNoOther ((moved w.state m).request_state y) id
  moved_still (Open z i) beat =
      either (λ s. NamesNoOther s id) (same_way y z) (Named i false) (w.state.request_state y)
      (λ same. absurd (true≢false (sym (eq-eqb n k (sym at
      ∙ only_clients_open w u k i y reach (subst (λ v. IsBeat w (Makes k (Open v i)) u) (sym (same_way-true y z same)) beat))) ∙ other))) (λ u. is)
  moved_still (Close z i) beat =
      either (λ s. NamesNoOther s id) (same_way y z) (closed_for (w.state.request_state z) i) (w.state.request_state y)
      (λ same. subst (λ v. NamesNoOther (closed_for (w.state.request_state v) i) id) (same_way-true y z same) (closed_still (w.state.request_state y) i id is)) (λ u. is)
  moved_still (Hint z i) beat =
      either (λ s. NamesNoOther s id) (same_way y z) (hinted_for (w.state.request_state z) i) (w.state.request_state y)
      (λ same. subst (λ v. NamesNoOther (hinted_for (w.state.request_state v) i) id) (same_way-true y z same) (hinted_still (w.state.request_state y) i id is)) (λ u. is)
  moved_still m beat = is

pub others_open_nothing : OthersOpenNothing
others_open_nothing w u (Begins k call c) n id y reach beat other at is = subst (λ (v : World). NamesNoOther (v.state.request_state y) id) (sym beat.2) is
others_open_nothing w u (Makes k m) n id y reach beat other at is =
    subst (λ (v : World). NamesNoOther (v.state.request_state y) id) (sym beat.5) (moved_still w u k n y id reach other at is m beat)
others_open_nothing w u (Ends k reply payload) n id y reach beat other at is =
    let h : Here w = here w reach in
    subst (λ (v : World). NamesNoOther (v.state.request_state y) id) (sym beat.7)
    (subst (λ (f : Way → RequestState). NamesNoOther (f y) id) (sym (settled_same w.state k payload beat.3 h.holding.fits.wire).request_state) is)
others_open_nothing w u (Dies k) n id y reach beat other at is = subst (λ (v : World). NamesNoOther (v.state.request_state y) id) (sym beat.1) is
