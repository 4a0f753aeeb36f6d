-- What is owned depends only on the node's own part of what is fixed.
use Rattle.std.specs.Prelude.{not, ◌&&◌, nat_le, map, filter}
use Rattle.std.specs.List.{list_any}
use Rattle.std.proofs.Common.{◌≡◌, ℕ, Bool, true, false, ◌==◌, List, [], ◌∷◌, Option, Some, None, refl, ap, sym, subst, ◌∙◌, inl, inr, eq-eqb}
use Rattle.iox_model.specs.declared.kind.Role.{Role}
use Rattle.iox_model.specs.declared.kind.Role.TheVariants.{Client, Server}
use Rattle.iox_model.specs.declared.way.RequestState.{RequestState}
use Rattle.iox_model.specs.declared.way.Way.{Way}
use Rattle.iox_model.specs.Joins.{not_living}
use Rattle.iox_model.specs.Maps.{has_number}
use Rattle.iox_model.specs.Peers.{is_connected_port, is_counted_on, node_of_port, others}
use Rattle.iox_model.specs.Receives.{is_at_limit}
use Rattle.iox_model.specs.Settings.{borrow_limit_of, other_role, same_role}
use Rattle.iox_model.specs.States.{Fixed, Port}
use Rattle.iox_model.specs.Weaves.{World, Beat, Begins, Makes, Ends, Dies, IsBeat}
use Rattle.iox_laws.proofs.WeaveBeats.LiveWays.{Here, beats_are_reachable, here, ways_to_the_living_are_counted}
use Rattle.iox_laws.specs.WeaveLaws.Laws.{node_of_beat}
use Rattle.iox_laws.proofs.WeaveLaws.WholeLemmas.{moved-fixed}
use Rattle.iox_laws.proofs.WeaveLedger.Moves.{ends-fits}
use Rattle.iox_laws.proofs.WeaveLedger.Senders.{FitsOutcome}
use Rattle.iox_laws.proofs.WeaveLedger.Settling.{settled-else}
use Rattle.iox_laws.proofs.WeaveLedger.Views.{View, forgot_in, role_in, view}
use Rattle.iox_laws.proofs.WeaveLedger.Worlds.{doing-is}
use Rattle.iox_laws.specs.WeaveWorlds.Worlds.{IsReachable}
use Rattle.iox_word_map.specs.WordMaps.{IsWay}
use Rattle.iox_wire_locals.specs.declared.local.Delivery.{Delivery}
use Rattle.iox_wire_locals.specs.declared.local.Local.{Local}
use Rattle.iox_wire_locals.specs.declared.local.Local.TheVariants.{Ends, LendEmpties, LendStores, SendAsks, SendEmpties, SendLooks, SendOpens, SendPushes, SendEvicts, SendGetsBack, SendEnds, ReceiveLooks, ReceivePops, ReceiveLoads, ReceiveAsks, ReceiveReturns, ReleaseCloses, ReleaseReturns, Seeks}
use Rattle.iox_wire_locals.specs.declared.table.Entry.{Entry}
use Rattle.iox_wire_locals.specs.declared.table.NewLoan.{NewLoan}
use Rattle.iox_wire_locals.specs.Tables.{Setting}
use Rattle.iox_wire_laws.specs.WireShows.OwnedCalls.{Each, DeliversOn, IsLeft, OwnsLast, OwnsSend, ReceivesOn, SendsOn}
use Rattle.iox_wire_laws.specs.WireRegions.OwnedWords.{LendsOn, Owns, OwnsCopy, OwnsLoan, send_to}
use Rattle.iox_wire_laws.specs.WireRegions.OwnedBegins.{LayoutFits}
use Rattle.iox_wire_laws.specs.WireRegions.OwnedOthers.{ClosesNothing, OthersLeaveOwned}
use Rattle.iox_wire_laws.proofs.WireRegions.OwnPorts.{both, connected}
use Rattle.iox_wire_laws.proofs.WireRegions.ReceiveBegins.{layouts_stay_fit}

-- ---- the node's own part stays

view_stays : (w u : World) (b : Beat) (n : ℕ) → IsReachable w → IsBeat w b u → (n == node_of_beat b) ≡ false → view u.state.fixed n ≡ view w.state.fixed n
view_stays w u (Begins k call c) n reach beat other = ap (λ (v : World). view v.state.fixed n) beat.2
view_stays w u (Makes k m) n reach beat other = ap (λ (v : World). view v.state.fixed n) beat.5 ∙ ap (λ f. view f n) (moved-fixed w.state m)
view_stays w u (Dies k) n reach beat other = ap (λ (v : World). view v.state.fixed n) beat.1
view_stays w u (Ends k reply payload) n reach beat other =
    let h : Here w = here w reach in
    let fits : FitsOutcome (view w.state.fixed k) k beat.3
    = ends-fits w.state k beat.1 beat.3 (doing-is w k beat.1 h.holding.fits beat.2) beat.4 in
    ap (λ (v : World). view v.state.fixed n) beat.7
    ∙ settled-else w.state k n payload beat.3 h.holding.fits.wire (h.holding.fits.handles k) fits other

each_change : (P Q : Way → Type 0) → ((y : Way) → P y → Q y) → (ways : List Way) → Each P ways → Each Q ways
each_change P Q change [] each = tt
each_change P Q change (y ∷ ways) each = (change y each.0, each_change P Q change ways each.1)

-- whether a node with this part counts on a way of its own, and is at its limit there
abbrev counts_in : View → Way → Bool
counts_in v y = list_any (λ (q : Port). q.number == y.sender) v.ports && not (forgot_in v y.receiver)

abbrev limit_in : View → Way → Bool
limit_in v y = nat_le (borrow_limit_of v.limits (other_role (role_in v.ports y.receiver))) (v.borrowed y)

module _ (p : Setting) (f : Fixed) (n : ℕ) (fits : LayoutFits p f) where
  node_is : (port : ℕ) → is_connected_port f port ≡ true → p.layout.owner port ≡ n → node_of_port f port ≡ n
  node_is port there mine = sym (fits.owner port there) ∙ mine

  count_is : (y : Way) → is_connected_port f y.sender ≡ true → p.layout.owner y.sender ≡ n → is_counted_on f y ≡ counts_in (view f n) y
  count_is y there mine = rw (node_is y.sender there mine) refl

  limit_is : (y : Way) → is_connected_port f y.receiver ≡ true → p.layout.owner y.receiver ≡ n → is_at_limit f y ≡ limit_in (view f n) y
  limit_is y there mine = rw (eq-eqb (node_of_port f y.receiver) n (node_is y.receiver there mine)) refl

  receiver_there : (y : Way) → IsWay p.layout.sizes y → is_connected_port f y.receiver ≡ true
  receiver_there y (inl way) = connected f Server y.receiver (subst (λ ks. has_number y.receiver ks ≡ true) fits.servers way.1)
  receiver_there y (inr way) = connected f Client y.receiver (subst (λ ks. has_number y.receiver ks ≡ true) fits.clients way.2)

  sender_there : (y : Way) → is_counted_on f y ≡ true → is_connected_port f y.sender ≡ true
  sender_there y counted = (both (is_connected_port f y.sender) _ counted).0

module _ (p : Setting) (w u : World) (n : ℕ) (reach : IsReachable u) (living : not_living u.state n ≡ None) (fits : LayoutFits p w.state.fixed)
    (after : LayoutFits p u.state.fixed) (same : view u.state.fixed n ≡ view w.state.fixed n) where
  abbrev f : Fixed
  f = w.state.fixed

  abbrev g : Fixed
  g = u.state.fixed

  still : (port : ℕ) → is_connected_port w.state.fixed port ≡ true → is_connected_port u.state.fixed port ≡ true
  still port there = ap (λ (v : View). list_any (λ (q : Port). q.number == port) v.ports) same ∙ there

  sends_on : (y : Way) → SendsOn p n w.state.fixed y → SendsOn p n u.state.fixed y
  sends_on y on =
      let there : is_connected_port w.state.fixed y.sender ≡ true = sender_there p w.state.fixed n fits y on.counted in
      record {
        way = on.way;
        mine = on.mine;
        counted =
            count_is p u.state.fixed n after y (still y.sender there) on.mine ∙ ap (λ v. counts_in v y) same
            ∙ sym (count_is p w.state.fixed n fits y there on.mine) ∙ on.counted;
      }

  receives_on : (y : Way) → ReceivesOn p n w.state.fixed y → ReceivesOn p n u.state.fixed y
  receives_on y on =
      let there : is_connected_port u.state.fixed y.receiver ≡ true = receiver_there p u.state.fixed n after y on.way in
      record {
        way = on.way;
        mine = on.mine;
        counted =
            ways_to_the_living_are_counted u n y reach living (still y.sender (sender_there p w.state.fixed n fits y on.counted), there)
            (node_is p u.state.fixed n after y.receiver there on.mine);
      }

  limit : (y : Way) → ReceivesOn p n w.state.fixed y → is_at_limit u.state.fixed y ≡ is_at_limit w.state.fixed y
  limit y on =
      limit_is p u.state.fixed n after y (receiver_there p u.state.fixed n after y on.way) on.mine ∙ ap (λ v. limit_in v y) same
      ∙ sym (limit_is p w.state.fixed n fits y (receiver_there p w.state.fixed n fits y on.way) on.mine)

  others_are : (role : Role) → others u.state.fixed n role ≡ others w.state.fixed n role
  others_are role =
      ap (λ (v : View). map (λ (q : Port). q.number) (filter (λ q. same_role q.role role && not (has_number q.node v.forgot)) v.ports)) same

  -- ---- of a call

  delivers : (d : Delivery) (ways : List Way) → Each (DeliversOn p n w.state.fixed d) ways → Each (DeliversOn p n u.state.fixed d) ways
  delivers d = each_change (DeliversOn p n w.state.fixed d) (DeliversOn p n u.state.fixed d) (λ y on. (sends_on y on.0, on.1))

  receives : (ways : List Way) → Each (ReceivesOn p n w.state.fixed) ways → Each (ReceivesOn p n u.state.fixed) ways
  receives = each_change (ReceivesOn p n w.state.fixed) (ReceivesOn p n u.state.fixed) receives_on

  send : (d : Delivery) → OwnsSend p n w.state.fixed d → OwnsSend p n u.state.fixed d
  send d owns = record { ways = delivers d _ owns.ways; apart = owns.apart; opens = owns.opens }

  last_on : (last : Option Way) → OwnsLast p n w.state.fixed last → OwnsLast p n u.state.fixed last
  last_on None owns = tt
  last_on (Some v) owns = sends_on v owns

  left_on : (last : Option Way) (ways : List Way) → Each (IsLeft p n w.state.fixed last) ways → Each (IsLeft p n u.state.fixed last) ways
  left_on None ways = each_change (IsLeft p n w.state.fixed None) (IsLeft p n u.state.fixed None) (λ y on. tt) ways
  left_on (Some v) ways = each_change (IsLeft p n w.state.fixed (Some v)) (IsLeft p n u.state.fixed (Some v)) (λ y on. on) ways

  copy : (e : Entry) → OwnsCopy p n w.state.fixed e → OwnsCopy p n u.state.fixed e
  copy e owns = record {
    request = λ is. subst (λ to. OwnsSend p n u.state.fixed (send_to e to)) (sym (others_are Server)) (send _ (owns.request is));
    response = λ is there.
        let o = owns.response is (ap (has_number e.client) (sym (others_are Client)) ∙ there) in (send _ o.0, o.1);
  }

  loan : (o : NewLoan) → OwnsLoan p n w.state.fixed o → OwnsLoan p n u.state.fixed o
  loan o owns = record { region = owns.region; room = owns.room; copy = λ copies lane slot. copy _ (owns.copy copies lane slot) }

  lends : (o : NewLoan) (ways : List Way) → Each (LendsOn p n w.state.fixed o) ways → Each (LendsOn p n u.state.fixed o) ways
  lends o = each_change (LendsOn p n w.state.fixed o) (LendsOn p n u.state.fixed o) (λ y on. (sends_on y on.0, on.1))

  -- ---- place by place

  by_place : (a b : Way → RequestState) (local : Local) → ClosesNothing local → Owns p n w.state.fixed a local → Owns p n u.state.fixed b local
  by_place a b (LendEmpties o y place left) free owns = (loan o owns.0, lends o (y ∷ left) owns.1)
  by_place a b (LendStores o slot next) free owns = (loan o owns.0, owns.1, owns.2, owns.3)
  by_place a b (SendEnds d last count) free owns = last_on last owns
  by_place a b (SendAsks d) free owns = (send d owns.0, owns.1)
  by_place a b (SendEmpties d y place left) free owns = (send d owns.0, delivers d (y ∷ left) owns.1)
  by_place a b (SendLooks d y place left full) free owns = (send d owns.0, delivers d (y ∷ left) owns.1)
  by_place a b (SendOpens d y left full) free owns = (send d owns.0, owns.1)
  by_place a b (SendPushes d last y place left count) free owns =
      (delivers d (y ∷ left) owns.0, owns.1, owns.2, last_on last owns.3, left_on last (y ∷ left) owns.4)
  by_place a b (SendEvicts d y place left count) free owns = (delivers d (y ∷ left) owns.0, owns.1)
  by_place a b (SendGetsBack d y place left count) free owns = (delivers d (y ∷ left) owns.0, owns.1)
  by_place a b (ReleaseCloses e y left) free owns = absurd free
  by_place a b (ReleaseReturns e place) free owns = (receives_on _ owns.0, owns.1, owns.2, owns.3)
  by_place a b (Seeks y place left) free owns = receives (y ∷ left) owns
  by_place a b (ReceiveLooks v y place left waiting) free owns = (receives (y ∷ left) owns.0, limit y owns.0.0 ∙ owns.1)
  by_place a b (ReceivePops v y more place left waiting) free owns = (receives (y ∷ left) owns.0, λ first. limit y owns.0.0 ∙ owns.1 first)
  by_place a b (ReceiveLoads v y slot header left waiting) free owns = (receives (y ∷ left) owns.0, owns.1, owns.2)
  by_place a b (ReceiveAsks v y slot header left waiting) free owns = (receives (y ∷ left) owns.0, owns.1)
  by_place a b (ReceiveReturns v y slot place left waiting) free owns = (receives (y ∷ left) owns.0, owns.1)
  by_place a b local free owns = owns

pub others_leave_owned : OthersLeaveOwned
others_leave_owned p w u b n local reach beat other living fits free owns =
    by_place p w u n (beats_are_reachable w u b reach beat) living fits (layouts_stay_fit p w u b reach beat fits) (view_stays w u b n reach beat other)
    w.state.request_state u.state.request_state local free owns
