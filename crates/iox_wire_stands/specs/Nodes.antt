-- What is so of a living node of a wire, wherever it is in its call.
use Rattle.std.specs.Prelude.{◌≡◌, ◌⊎◌, ℕ, ◌==◌, true, find, is_some, map}
use Rattle.iox_model.specs.declared.kind.Kind.TheVariants.{PendingResponse}
use Rattle.iox_model.specs.declared.way.Way.{Way}
use Rattle.iox_model.specs.Handles.{same_kind}
use Rattle.iox_model.specs.Maps.{AreDistinct}
use Rattle.iox_model.specs.States.{State}
use Rattle.iox_word_map.specs.WordMaps.{IsWay}
use Rattle.iox_wire_moments.specs.MomentsOf.{Pools}
use Rattle.iox_wire_locals.specs.declared.seat.Seat.{Seat}
use Rattle.iox_wire_locals.specs.declared.table.Entry.{Entry}
use Rattle.iox_wire_locals.specs.Known.{loans_at}
use Rattle.iox_wire_locals.specs.Tables.{Setting}
use Rattle.iox_wire_laws.specs.WireShows.OwnedCalls.{TellsLane}
use Rattle.iox_wire_laws.specs.WireOwners.Borrowed.{BorrowedFits, HasCount}
use Rattle.iox_wire_laws.specs.WireOwners.FirmOwners.{OwnsFirmly}
use Rattle.iox_wire_laws.specs.WireOwners.Releases.{HasOwnStates, ReleasesOwnHandle}
use Rattle.iox_wire_laws.specs.WireOwners.SentStates.{HasOpened}
use Rattle.iox_wire_laws.specs.WireHolding.FarSlots.{IsInPool, NamesSlots}
use Rattle.iox_wire_laws.specs.WireHolding.SlotsKnown.{HasEntry, IsPortOfSeat, NamesStand, SlotsKnown}
use Rattle.iox_wire_pools.specs.Uses.{AllUsesAreCounted}
use Rattle.iox_wire_stands.specs.Following.{CallMessage, Leaving, Lent, message_at}

-- only ports of the node have desks
abbrev pub HasOwnDesks : Setting → Seat → Type 0
HasOwnDesks p x =
    (port : ℕ) → is_some (find (λ d. d.port == port) x.desks) ≡ true → IsPortOfSeat p x port

-- a loan in the making is one of a port of the node
abbrev pub LendsAtHome : Setting → Seat → CallMessage → Type 0
LendsAtHome p x (Lent o slot) = IsPortOfSeat p x o.port
LendsAtHome p x other = Unit {0}

-- What is so of a living node between two of its accesses.
pub record NodeStands (p : Setting) (held : Pools) (s : State) (x : Seat) : Type 0 where
  -- its call owns the ways, states and slots of its place, and no other node takes them away
  pub owns : OwnsFirmly p x.node s.fixed s.request_state x.local
  -- its entries and its place name messages of its own, or such as came to its ports
  pub names : NamesStand p s.fixed x
  -- in slots of pools, or in its own beyond one
  pub name_slots : NamesSlots p x
  -- and beyond one only while it leaves what it gave back
  pub in_pools : (e : Entry) → HasEntry x e
      → IsInPool p e.sender e.slot ⊎ (message_at x.local ≡ Leaving e)
  -- what it lends it lends by its own port
  pub lends : LendsAtHome p x (message_at x.local)
  -- the pools of its ports fit what the machine keeps, and records what is outstanding
  pub slots : SlotsKnown p held s x
  -- and only they have desks
  pub at_desks : HasOwnDesks p x
  -- and its desks count how often each slot is in use
  pub uses : AllUsesAreCounted p x
  -- and how many loans the ports made
  pub loans : (port : ℕ) → IsPortOfSeat p x port → s.fixed.loans port ≡ loans_at x port
  -- it counts the messages that it borrows
  pub borrowed : BorrowedFits p x s.fixed
  -- on each way to its ports
  pub counted : (y : Way) → IsWay p.layout.sizes y → p.layout.owner y.receiver ≡ x.node → HasCount x y
  -- no two entries have one number
  pub numbers : AreDistinct (map (λ e. e.number) x.table)
  -- what an entry received or asked for is of the node's ports
  pub released : (e : Entry) → HasEntry x e → ReleasesOwnHandle s.fixed x.node e
  -- and the states of a pending response name no other request
  pub states : (e : Entry) → HasEntry x e → same_kind e.kind PendingResponse ≡ true
      → HasOwnStates p x s.request_state e
  -- as do those that a send has opened
  pub opened : HasOpened s.request_state x.local
  -- what it loaded of a request's header is so
  pub tells : TellsLane held x.local
