-- Questions and hints begin as owners of their first place.
use Rattle.std.specs.Prelude.{◌≡◌, ℕ, ◌^◌, ◌<◌, Bool, true, false}
use Rattle.iox_model.specs.declared.kind.Kind.TheVariants.{PendingResponse}
use Rattle.iox_model.specs.declared.kind.Role.TheVariants.{Client, Server}
use Rattle.iox_model.specs.declared.way.RequestState.{RequestState}
use Rattle.iox_model.specs.declared.way.Way.{Way}
use Rattle.iox_model.specs.Handles.{same_kind}
use Rattle.iox_model.specs.Peers.{lanes_of}
use Rattle.iox_model.specs.States.{Fixed}
use Rattle.iox_wire_moments.specs.MomentsOf.{Pools}
use Rattle.iox_wire_locals.specs.declared.seat.Seat.{Seat}
use Rattle.iox_wire_locals.specs.declared.table.Entry.{Entry}
use Rattle.iox_wire_locals.specs.Knowing.{Knows}
use Rattle.iox_wire_locals.specs.ReceiveCourses.{checking, hinting, states_for}
use Rattle.iox_wire_locals.specs.Tables.{Setting}
use Rattle.iox_wire_laws.specs.WireRegions.OwnedWords.{Owns}
use Rattle.iox_wire_laws.specs.WireRegions.OwnedBegins.{IsPortOf, LayoutFits}

-- A pending response is of a client of the node, on one of its lanes; any other handle that is
-- asked is of a server of the node, on a lane of its client.
pub record AsksOwnHandle (f : Fixed) (node : ℕ) (e : Entry) : Type 0 where
  pub pending : same_kind e.kind PendingResponse ≡ true
      → IsPortOf f node Client e.port × (e.lane < lanes_of f e.port)
  pub active : same_kind e.kind PendingResponse ≡ false
      → IsPortOf f node Server e.port × (e.lane < lanes_of f e.client)

-- Such a handle's questions begin as owners, and so do hints to a request with a small id.
abbrev pub QuestionsBeginAsOwners : Type 0
QuestionsBeginAsOwners =
    (p : Setting) (x : Seat) (f : Fixed) (held : Pools) (shown : Way → RequestState) (e : Entry)
    (hinted : Bool)
    → LayoutFits p f → Knows p x f held → AsksOwnHandle f x.node e
    → Owns p x.node f shown (checking x e hinted (states_for p x e)).local
    × (e.request < 2 ^ 62 → Owns p x.node f shown (hinting x e (states_for p x e)).local)
