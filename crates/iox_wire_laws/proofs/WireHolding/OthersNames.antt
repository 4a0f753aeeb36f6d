-- What a node names depends only on the ports and on the node's own part.
use Rattle.std.specs.Prelude.{◌⊎◌}
use Rattle.std.proofs.Common.{◌≡◌, ℕ, Bool, true, false, ◌==◌, ap, sym, ◌∙◌, inl, inr}
use Rattle.iox_model.specs.declared.way.Way.{Way}
use Rattle.iox_model.specs.Peers.{forgot_port}
use Rattle.iox_model.specs.States.{Fixed}
use Rattle.iox_model.specs.Weaves.{World, Beat, Begins, Makes, Ends, Dies, IsBeat}
use Rattle.iox_laws.proofs.WeaveBeats.LiveWays.{Here, beats_are_reachable, here, ways_to_the_living_are_counted}
use Rattle.iox_laws.specs.WeaveLaws.Laws.{node_of_beat}
use Rattle.iox_laws.proofs.WeaveLaws.WholeLemmas.{moved-fixed}
use Rattle.iox_laws.proofs.WeaveLedger.Moves.{ends-fits}
use Rattle.iox_laws.proofs.WeaveLedger.Senders.{FitsOutcome}
use Rattle.iox_laws.proofs.WeaveLedger.Settling.{settled-else}
use Rattle.iox_laws.proofs.WeaveLedger.Views.{View, forgot_in, node_in, view}
use Rattle.iox_laws.proofs.WeaveLedger.Worlds.{doing-is}
use Rattle.iox_laws.specs.WeaveWorlds.Worlds.{IsReachable}
use Rattle.iox_wire_locals.specs.declared.local.Ending.{Ending}
use Rattle.iox_wire_locals.specs.declared.local.Ending.TheVariants as endings
use Rattle.iox_wire_locals.specs.declared.local.Local.{Local}
use Rattle.iox_wire_locals.specs.declared.local.Local.TheVariants as locals
use Rattle.iox_wire_locals.specs.declared.seat.Seat.{Seat}
use Rattle.iox_wire_locals.specs.declared.table.Entry.{Entry}
use Rattle.iox_wire_locals.specs.Tables.{Setting}
use Rattle.iox_wire_laws.specs.WireShows.OwnedCalls.{ReceivesOn}
use Rattle.iox_wire_laws.specs.WireRegions.OwnedBegins.{LayoutFits}
use Rattle.iox_wire_laws.proofs.WireRegions.ReceiveBegins.{layouts_stay_fit}
use Rattle.iox_wire_laws.specs.WireHolding.OthersNames.{OthersLeaveNames}
use Rattle.iox_wire_laws.specs.WireHolding.SlotsKnown.{EndingStands, SendsOwnEntry, IsAside, PlaceStands}
use Rattle.iox_wire_laws.proofs.WireHolding.WireWays.{way_there}

-- the node's own part stays
view_stays : (w u : World) (b : Beat) (n : ℕ) → IsReachable w → IsBeat w b u → (n == node_of_beat b) ≡ false → view u.state.fixed n ≡ view w.state.fixed n
view_stays w u (Begins k call c) n reach beat other = ap (λ (v : World). view v.state.fixed n) beat.2
view_stays w u (Makes k m) n reach beat other = ap (λ (v : World). view v.state.fixed n) beat.5 ∙ ap (λ f. view f n) (moved-fixed w.state m)
view_stays w u (Dies k) n reach beat other = ap (λ (v : World). view v.state.fixed n) beat.1
view_stays w u (Ends k reply payload) n reach beat other =
    let h : Here w = here w reach in
    let fits : FitsOutcome (view w.state.fixed k) k beat.3
    = ends-fits w.state k beat.1 beat.3 (doing-is w k beat.1 h.holding.fits beat.2) beat.4 in
    ap (λ (v : World). view v.state.fixed n) beat.7
    ∙ settled-else w.state k n payload beat.3 h.holding.fits.wire (h.holding.fits.handles k) fits other

module _ (p : Setting) (f g : Fixed) (x : Seat) (same : view g x.node ≡ view f x.node) (receives : (w : Way) → ReceivesOn p x.node f w → ReceivesOn p x.node g w) where
  sent : (e : Entry) (copied : Bool) → SendsOwnEntry f x e copied → SendsOwnEntry g x e copied
  sent e true has = (has.0, ap (λ (v : View). node_in v.ports e.port) same ∙ has.1)
  sent e false has = has

  dropped : (e : Entry) → IsAside p e ⊎ (forgot_port f x.node e.sender ≡ true) → IsAside p e ⊎ (forgot_port g x.node e.sender ≡ true)
  dropped e (inl aside) = inl aside
  dropped e (inr forgot) = inr (ap (λ (v : View). forgot_in v e.sender) same ∙ forgot)

  ended : (ending : Ending) → EndingStands p f x ending → EndingStands p g x ending
  ended (endings.Sends e copied count) has = sent e copied has
  ended (endings.FailsToSend e copied r) has = sent e copied has
  ended (endings.Receives v w slot header) has = receives w has
  ended (endings.Drops e) has = (has.0, λ received. dropped e (has.1 received))
  ended ending has = has

  place : (local : Local) → PlaceStands p f x local → PlaceStands p g x local
  place (locals.Ends ending) has = ended ending has
  place (locals.SendAsks d) has = sent d.loan d.copied has
  place (locals.SendEmpties d w at left) has = sent d.loan d.copied has
  place (locals.SendLooks d w at left full) has = sent d.loan d.copied has
  place (locals.SendOpens d w left full) has = sent d.loan d.copied has
  place (locals.SendPushes d last w at left count) has = sent d.loan d.copied has
  place (locals.SendEvicts d w at left count) has = sent d.loan d.copied has
  place (locals.SendGetsBack d w at left count) has = sent d.loan d.copied has
  place (locals.SendEnds d last count) has = sent d.loan d.copied has
  place (locals.ReceiveLoads v w slot header left waiting) has = receives w has
  place (locals.ReceiveAsks v w slot header left waiting) has = receives w has
  place (locals.ReceiveReturns v w slot at left waiting) has = receives w has
  place local has = has

pub others_leave_names : OthersLeaveNames
others_leave_names p w u b x reach beat other lives fits stands = record {
  entries = stands.entries;
  place = place p w.state.fixed u.state.fixed x (view_stays w u b x.node reach beat other) receives x.local stands.place;
}
  where
    receives : (y : Way) → ReceivesOn p x.node w.state.fixed y → ReceivesOn p x.node u.state.fixed y
    receives y has =
        let after : LayoutFits p u.state.fixed = layouts_stay_fit p w u b reach beat fits in
        let there = way_there p u.state.fixed after y has.way in record {
          way = has.way;
          mine = has.mine;
          counted =
              ways_to_the_living_are_counted u x.node y (beats_are_reachable w u b reach beat) lives there.0
              (sym (after.owner y.receiver there.0.1) ∙ has.mine);
        }
