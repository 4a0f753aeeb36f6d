-- What the words tell an access: a push finds room, and a header stands in its region.
use Rattle.std.specs.Prelude.{map, ◌&&◌, ◌<◌}
use Rattle.std.specs.List.{list_any}
use Rattle.std.proofs.Common.{◌≡◌, ℕ, ◌+◌, true, false, ◌==◌, List, None, refl, ap, sym, subst, ◌∙◌, arith, inl, inr}
use Rattle.iox_model.specs.declared.kind.Role.TheVariants.{Client, Server}
use Rattle.iox_model.specs.declared.way.Way.{Way}
use Rattle.iox_model.specs.Joins.{not_living}
use Rattle.iox_model.specs.Maps.{has_number}
use Rattle.iox_model.specs.Peers.{forgot_port}
use Rattle.iox_model.specs.Settings.{other_role}
use Rattle.iox_model.specs.States.{Fixed, Port}
use Rattle.iox_model.specs.Weaves.{World}
use Rattle.iox_laws.specs.WeaveBeats.LiveWays.{AreConnected}
use Rattle.iox_steps.specs.declared.side.Popping.TheVariants as popping
use Rattle.iox_steps.specs.declared.side.Pushing.TheVariants as pushing
use Rattle.iox_steps.specs.Accesses.{seen_by}
use Rattle.iox_word_map.specs.WordMaps.{IsWay, MessageQueue, ReturningQueue, WireQueue}
use Rattle.iox_wire_steps.specs.Fits.{WireContents}
use Rattle.iox_wire_steps.specs.Laws.{AccessIsMade}
use Rattle.iox_wire_steps.specs.Programs.{program_access}
use Rattle.iox_wire_steps.specs.MomentsOf.{Pools}
use Rattle.iox_wire_steps.specs.Local.{Local}
use Rattle.iox_wire_steps.specs.Local.TheVariants.{ReceiveLoads, ReceivePops, ReceiveReturns, ReleaseReturns, SendPushes}
use Rattle.iox_wire_steps.specs.Visit.{Visit}
use Rattle.iox_wire_steps.specs.Seat.{Seat}
use Rattle.iox_wire_steps.specs.Knowing.{Knows}
use Rattle.iox_wire_steps.specs.Known.{known}
use Rattle.iox_wire_steps.specs.Locals.{program_of}
use Rattle.iox_wire_steps.specs.Stored.{header_length}
use Rattle.iox_wire_steps.specs.Tables.{Setting, way_in}
use Rattle.iox_wire_steps.specs.Shows.{OwnsPlace}
use Rattle.iox_wire_steps.specs.OwnedCalls.{HasHeader, ReceivesOn, WordsTell}
use Rattle.iox_wire_steps.specs.Pushes.{ReturnsHaveRoom, PushesInto}
use Rattle.iox_wire_steps.specs.OwnedBegins.{LayoutFits}
use Rattle.iox_wire_steps.specs.OwnedWords.{Owns}
use Rattle.iox_wire_steps.specs.Regions.{HasRegion}
use Rattle.iox_wire_steps.specs.FarSlots.{IsInPool}
use Rattle.iox_wire_steps.proofs.PushesTold.{pushes_are_told}
use Rattle.iox_wire_steps.proofs.OwnPorts.{connected}
use Rattle.iox_wire_steps.proofs.OwnedPlaces.{owners_may_access}
use Rattle.iox_wire_steps.proofs.SlotWords.{words_are_in_their_region}
use Rattle.iox_wire_steps.specs.NamesLaws.{TakesInPool}
use Rattle.iox_wire_steps.specs.Nodes.{NodeStands}
use Rattle.iox_wire_steps.specs.Stands.{AreNumbered}
use Rattle.iox_wire_steps.proofs.SendsFollow.{slots_are_found_in_pools}
use Rattle.iox_wire_steps.proofs.StepsAround.{Whole}
use Rattle.iox_wire_steps.proofs.Homes as homes
use Rattle.iox_wire_calls.specs.Places.{PlaceFits}
use Rattle.iox_wire_calls.specs.StepsTold.{MessageIsTold, PushesBelow}

-- ---- ways

linked : (p : Setting) (f : Fixed) (y : Way) → LayoutFits p f → IsWay p.layout.sizes y → AreConnected f y
linked p f y fits (inl way) = (
  connected f Client y.sender (ap (has_number y.sender) (sym fits.clients) ∙ way.0),
  connected f Server y.receiver (ap (has_number y.receiver) (sym fits.servers) ∙ way.1),
)
linked p f y fits (inr way) = (
  connected f Server y.sender (ap (has_number y.sender) (sym fits.servers) ∙ way.1),
  connected f Client y.receiver (ap (has_number y.receiver) (sym fits.clients) ∙ way.2),
)

-- whom the node forgot it knows
forgot_known : (p : Setting) (x : Seat) (f : Fixed) (held : Pools) (port : ℕ) → Knows p x f held → forgot_port f x.node port ≡ forgot_port (known p x) x.node port
forgot_known p x f held port knows =
    ap (λ (ports : List Port). list_any (λ q. (q.number == port) && has_number q.node (f.forgot x.node)) ports) knows.ports
    ∙ ap (λ (forgot : List ℕ). list_any (λ (q : Port). (q.number == port) && has_number q.node forgot) (map p.port p.layout.sizes.ports)) knows.forgot

in_longest : (k h u m : ℕ) → k < h → k < h + u + m
in_longest k h u m less = omega (arith, less)

module _ (p : Setting) (held : Pools) (word word' : ℕ → ℕ) (c : WireContents) (seats : ℕ → Seat) (w : World) (n : ℕ)
    (whole : Whole p held word c seats w) (regions : (port : ℕ) → has_number port p.layout.sizes.ports ≡ true → HasRegion p port)
    (living : not_living w.state n ≡ None) (numbered : AreNumbered p) (made : AccessIsMade (program_access p.layout (program_of p (seats n).local)) word word') where
  abbrev x : Seat
  x = seats n

  abbrev seen : ℕ
  seen = seen_by (program_access p.layout (program_of p x.local)) word

  stands : NodeStands p held w.state (seats n)
  stands = whole.nodes n living

  -- ---- headers

  there : (y : Way) → IsWay p.layout.sizes y → has_number y.sender p.layout.sizes.ports ≡ true
  there y way = homes.there p held word c seats w n whole.shows living whole.owners numbered y.sender (linked p w.state.fixed y whole.layout way).0

  has_header : (v : Visit) (y : Way) (slot : ℕ) → IsWay p.layout.sizes y → (p.port y.sender).role ≡ other_role v.role → IsInPool p y.sender slot → HasHeader p v y slot
  has_header v y slot way role low = (
    there y way,
    λ k less. words_are_in_their_region p y.sender slot k (record {
      region = regions y.sender (there y way);
      in_pool = low;
      in_message = in_longest k (header_length (p.port y.sender).role) _ _ (subst (λ r. k < header_length r) (sym role) less);
    }),
  )

  taken : TakesInPool p (seats n).local (seen_by (program_access p.layout (program_of p (seats n).local)) word)
  taken =
      (slots_are_found_in_pools p held word word' c seats w n whole.shows living whole.layout whole.owners numbered whole.queues stands.names stands.slots
      stands.owns.owns stands.tells made).0

  -- ---- pushes

  may : OwnsPlace p held w.state (seats n)
  may = (owners_may_access p held w.state x stands.owns.owns stands.tells).0

  room : (y : Way) → ReceivesOn p (seats n).node w.state.fixed y → forgot_port (known p (seats n)) (seats n).node y.sender ≡ false
      → ReturnsHaveRoom p w.state.fixed n (ReturningQueue y)
  room y on kept = (
    (
      linked p w.state.fixed y whole.layout on.way,
      sym (whole.owners y.receiver) ∙ on.mine ∙ whole.shows.node n,
      ap (λ k. forgot_port w.state.fixed k y.sender) (sym (whole.shows.node n)) ∙ forgot_known p x w.state.fixed held y.sender (whole.shows.counts n living).knows ∙ kept,
    ),
    whole.rooms y on.way,
  )

  pushes : (local : Local) (q : WireQueue) → x.local ≡ local → PushesInto local q → ReturnsHaveRoom p w.state.fixed n q → PushesBelow p word local → WordsTell p local seen
  pushes local q is into has below =
      subst (λ l. WordsTell p l seen) is
      (pushes_are_told p held word c seats w n q whole.shows living may (subst (λ l. PushesInto l q) (sym is) into) has (below q into))

  pub words_tell : (local : Local) → x.local ≡ local → PlaceFits p (seats n) local → Owns p (seats n).node w.state.fixed w.state.request_state local
      → PushesBelow p word local → MessageIsTold p held w.state (seats n) seen local → WordsTell p local seen
  words_tell (ReceivePops v y more (popping.Pops q) left waiting) is place owns below told =
      λ slot hands. has_header v y slot owns.0.0.way place.1.0.1
      (subst (λ l. TakesInPool p l seen) is taken slot hands)
  words_tell (ReceivePops v y more part left waiting) is place owns below told = tt
  words_tell (ReceiveLoads v y slot header left waiting) is place owns below told = λ all server. ((told all).1 server).1
  words_tell (SendPushes d last y (pushing.Pushes q) left count) is place owns below told =
      pushes (SendPushes d last y (pushing.Pushes q) left count) (MessageQueue y) is refl tt below
  words_tell (SendPushes d last y part left count) is place owns below told = tt
  words_tell (ReceiveReturns v y slot (pushing.Pushes q) left waiting) is place owns below told =
      pushes (ReceiveReturns v y slot (pushing.Pushes q) left waiting) (ReturningQueue y) is refl (room y owns.0.0 place.0) below
  words_tell (ReceiveReturns v y slot part left waiting) is place owns below told = tt
  words_tell (ReleaseReturns e (pushing.Pushes q)) is place owns below told =
      pushes (ReleaseReturns e (pushing.Pushes q)) (ReturningQueue (way_in e)) is refl (room (way_in e) owns.0 place) below
  words_tell (ReleaseReturns e part) is place owns below told = tt
  words_tell local is place owns below told = tt
