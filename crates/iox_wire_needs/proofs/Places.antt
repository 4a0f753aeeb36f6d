-- The slots and lanes that a place names are those of pools.
use Rattle.std.proofs.Common.{◌≡◌, ℕ, ◌<◌, true, false, List, None, ap, refl, sym, subst, ◌∙◌, true≢false}
use Rattle.iox_model.specs.Handles.{is_request_loan}
use Rattle.iox_model.specs.Joins.{not_living}
use Rattle.iox_model.specs.Loans.{kind_of_loan}
use Rattle.iox_model.specs.Settings.{is_client}
use Rattle.iox_model.specs.declared.kind.Role.{Role}
use Rattle.iox_model.specs.declared.kind.Role.TheVariants.{Client, Server}
use Rattle.iox_wire_keeps.specs.OwnedWords.{Owns}
use Rattle.iox_wire_keeps.specs.Local.{Local}
use Rattle.iox_wire_keeps.specs.Local.TheVariants.{LendStores, ReceiveAsks, ReceiveLoads}
use Rattle.iox_wire_keeps.specs.NewLoan.{NewLoan}
use Rattle.iox_wire_keeps.specs.CallsStand.{CallStands}
use Rattle.iox_wire_keeps.specs.Lanes.{lent_in}
use Rattle.iox_wire_keeps.specs.Places.{PlaceFits}
use Rattle.iox_wire_keeps.specs.Tables.{Setting}
use Rattle.iox_wire_keeps.specs.Following.{LeavesNothing, message_at}
use Rattle.iox_wire_keeps.specs.Nodes.{NodeStands}
use Rattle.iox_wire_keeps.specs.Runs.{Run}
use Rattle.iox_wire_keeps.specs.Stands.{Player, seats_of}
use Rattle.iox_wire_keeps.proofs.Kept.{loan_lane}
use Rattle.iox_wire_keeps.proofs.StepsKept.{shown_same}
use Rattle.iox_wire_keeps.specs.Stored.{CallIsStored, HoldsStored}
use Rattle.iox_wire_keeps.specs.WireStands.{WireStands}
use Rattle.iox_wire_needs.specs.Places.{InPools, PlacesAreInPools}

module _ (p : Setting) (words : List ℕ) (players : ℕ → Player) (r : Run) (n : ℕ) (wire : WireStands p words players r) (living : not_living r.last.state n ≡ None) where
  module _ (leaves : LeavesNothing (message_at (players n).seat.local)) where
    same : seats_of p players n ≡ (players n).seat
    same = shown_same p (players n).seat (players n).seat.local leaves

    pub node : NodeStands p wire.stands.held r.last.state (players n).seat
    node = subst (NodeStands p wire.stands.held r.last.state) same (wire.stands.nodes n living)

    pub stored : HoldsStored p wire.stands.held wire.stands.contents (players n).seat
    stored = subst (HoldsStored p wire.stands.held wire.stands.contents) same (wire.messages.nodes n living)

    call : CallStands p wire.stands.held (players n).seat
    call = subst (CallStands p wire.stands.held) same (wire.calls n living)

  -- a request in the making is on a lane of its client
  lane : (o : NewLoan) (slot next : ℕ) → (players n).seat.local ≡ LendStores o slot next → is_request_loan o.kind ≡ true → o.lane < p.layout.sizes.lanes o.port
  lane o slot next is request =
      loan_lane p r.last.state.fixed (players n).seat wire.stands.layout wire.stands.numbers (wire.stands.shows.counts n living).knows.ports stands.lanes o slot place
      (ap (λ l. lent_in (message_at l)) is) (of_client (p.port o.port).role (sym (ap is_request_loan place.1) ∙ request))
    where
      leaves : LeavesNothing (message_at (players n).seat.local)
      leaves = subst (λ l. LeavesNothing (message_at l)) (sym is) tt

      stands : CallStands p wire.stands.held (players n).seat
      stands = call leaves

      place : PlaceFits p (players n).seat (LendStores o slot next)
      place = subst (PlaceFits p (players n).seat) is stands.fits.place

      of_client : (role : Role) → is_request_loan (kind_of_loan role false) ≡ true → is_client role ≡ true
      of_client Client at_client = refl
      of_client Server at_client = absurd (true≢false (sym at_client))

  by_place : (local : Local) → (players n).seat.local ≡ local → InPools p local
  by_place (LendStores o slot next) is =
      (tt, (subst (Owns p (players n).seat.node r.last.state.fixed r.last.state.request_state) is (node (subst (λ l. LeavesNothing (message_at l)) (sym is) tt)).owns.owns).1, lane o slot next is)
  by_place (ReceiveLoads v w slot header left waiting) is =
      ((subst (λ l. CallIsStored p wire.stands.held wire.stands.contents (message_at l)) is (stored (subst (λ l. LeavesNothing (message_at l)) (sym is) tt)).call).fits.in_pool, tt, tt)
  by_place (ReceiveAsks v w slot header left waiting) is =
      ((subst (Owns p (players n).seat.node r.last.state.fixed r.last.state.request_state) is (node (subst (λ l. LeavesNothing (message_at l)) (sym is) tt)).owns.owns).1.3, tt, tt)
  by_place local is = (tt, tt, tt)

pub places_are_in_pools : PlacesAreInPools
places_are_in_pools p words players r n wire living = by_place p words players r n wire living (players n).seat.local refl
