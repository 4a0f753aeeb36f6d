-- Releases begin as owners of their first place, and what a pending response needs for that stays
-- so.
use Rattle.std.specs.Prelude.{◌≡◌, ℕ, ◌<◌, ◌==◌, true, false, None}
use Rattle.iox_model.specs.declared.kind.Kind.TheVariants.{ActiveRequest, PendingResponse, Response}
use Rattle.iox_model.specs.declared.kind.Role.TheVariants.{Client, Server}
use Rattle.iox_model.specs.declared.way.RequestState.{RequestState}
use Rattle.iox_model.specs.declared.way.Way.{Way}
use Rattle.iox_model.specs.Handles.{same_kind}
use Rattle.iox_model.specs.Joins.{not_living}
use Rattle.iox_model.specs.Maps.{has_number, same_way}
use Rattle.iox_model.specs.Moments.{Moment, Open, moved}
use Rattle.iox_model.specs.Peers.{lanes_of, ports_of_role}
use Rattle.iox_model.specs.States.{Fixed, State}
use Rattle.iox_model.specs.Weaves.{World, Beat, IsBeat}
use Rattle.iox_laws.specs.WeaveLaws.Laws.{node_of_beat}
use Rattle.iox_laws.specs.WeaveWorlds.Worlds.{IsReachable}
use Rattle.iox_wire_moments.specs.MomentsOf.{Pools}
use Rattle.iox_wire_locals.specs.declared.seat.Seat.{Seat}
use Rattle.iox_wire_locals.specs.declared.table.Entry.{Entry}
use Rattle.iox_wire_locals.specs.Knowing.{Knows}
use Rattle.iox_wire_locals.specs.ReceiveCourses.{releasing, states_for}
use Rattle.iox_wire_locals.specs.Tables.{Setting}
use Rattle.iox_wire_laws.specs.WireShows.OwnedCalls.{Each}
use Rattle.iox_wire_laws.specs.WireRegions.OwnedBegins.{IsPortOf, LayoutFits}
use Rattle.iox_wire_laws.specs.WireOwners.FirmOwners.{OwnsFirmly}
use Rattle.iox_wire_laws.specs.WireOwners.RequestStates.{NamesNoOther}

-- ---- what is released

-- A pending response is of a client of the node, on one of its lanes; so is a response, which came
-- from a server. An active request came to a server of the node from its client.
pub record ReleasesOwnHandle (f : Fixed) (node : ℕ) (e : Entry) : Type 0 where
  pub pending : same_kind e.kind PendingResponse ≡ true
      → IsPortOf f node Client e.port × (e.lane < lanes_of f e.port)
  pub request : same_kind e.kind ActiveRequest ≡ true
      → IsPortOf f node Server e.port × (e.lane < lanes_of f e.client) × (e.sender ≡ e.client)
      × (has_number e.client (ports_of_role f Client) ≡ true)
  pub response : same_kind e.kind Response ≡ true
      → IsPortOf f node Client e.port × (e.lane < lanes_of f e.port)
      × (has_number e.sender (ports_of_role f Server) ≡ true)

-- on the lane of a pending response, no other request is open to a server that its node did not
-- forget
abbrev pub HasOwnStates : Setting → Seat → (Way → RequestState) → Entry → Type 0
HasOwnStates p x shown e = Each (λ y. NamesNoOther (shown y) e.request) (states_for p x e)

-- The release of such a handle by a living node begins as the firm owner of its first place; that
-- of a pending response where its states name no other request.
abbrev pub ReleasesBeginAsOwners : Type 0
ReleasesBeginAsOwners =
    (p : Setting) (held : Pools) (w : World) (x : Seat) (e : Entry)
    → IsReachable w → not_living w.state x.node ≡ None → LayoutFits p w.state.fixed
    → Knows p x w.state.fixed held → ReleasesOwnHandle w.state.fixed x.node e
    → (same_kind e.kind PendingResponse ≡ true → HasOwnStates p x w.state.request_state e)
    → OwnsFirmly p x.node w.state.fixed w.state.request_state (releasing p x e).local

-- ---- what a pending response needs stays so

-- A beat of another node leaves the states of a pending response so.
abbrev pub OthersLeaveStates : Type 0
OthersLeaveStates =
    (p : Setting) (held : Pools) (w u : World) (b : Beat) (x : Seat) (e : Entry)
    → IsReachable w → IsBeat w b u → (x.node == node_of_beat b) ≡ false → LayoutFits p w.state.fixed
    → Knows p x w.state.fixed held → ReleasesOwnHandle w.state.fixed x.node e
    → same_kind e.kind PendingResponse ≡ true
    → HasOwnStates p x w.state.request_state e → HasOwnStates p x u.state.request_state e

-- the moment opens no other request on the way
abbrev pub OpensNoOther : Moment → ℕ → Way → Type 0
OpensNoOther (Open z other) id y = same_way y z ≡ true → other ≡ id
OpensNoOther m id y = Unit {0}

-- So does any moment, of the node itself or of another, that opens no other request there.
abbrev pub MomentsLeaveStates : Type 0
MomentsLeaveStates =
    (s : State) (m : Moment) (id : ℕ) (y : Way) → OpensNoOther m id y
    → NamesNoOther (s.request_state y) id → NamesNoOther ((moved s m).request_state y) id

-- Once a request is opened there, the state names no other.
abbrev pub OpenedStatesAreOwn : Type 0
OpenedStatesAreOwn =
    (s : State) (id : ℕ) (y : Way) → NamesNoOther ((moved s (Open y id)).request_state y) id
