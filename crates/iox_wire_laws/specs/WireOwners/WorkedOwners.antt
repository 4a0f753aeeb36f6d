-- Worked: what is released on a wire with one client and one server, and a close that is owned.
use Rattle.std.specs.Prelude.{ℕ, false, []}
use Rattle.iox_model.specs.declared.kind.Kind.{Kind}
use Rattle.iox_model.specs.declared.kind.Kind.TheVariants.{ActiveRequest, PendingResponse, Response}
use Rattle.iox_model.specs.declared.way.RequestState.{RequestState}
use Rattle.iox_model.specs.declared.way.RequestState.TheVariants.{Named}
use Rattle.iox_model.specs.declared.way.Way.{Way}
use Rattle.iox_model.specs.Messages.{request_way, response_way}
use Rattle.iox_model.specs.States.{Fixed}
use Rattle.iox_word_map.specs.WordMaps.{ReturningQueue}
use Rattle.iox_wire_locals.specs.declared.local.Local.TheVariants.{ReleaseCloses}
use Rattle.iox_wire_locals.specs.declared.table.Entry.{Entry}
use Rattle.iox_wire_locals.specs.Known.{known}
use Rattle.iox_wire_locals.specs.WorkedCalls.{fresh}
use Rattle.iox_wire_locals.specs.WorkedWires.{ones}
use Rattle.iox_wire_laws.specs.WireOwners.FirmOwners.{ClosesOwn, OwnsFirmly}
use Rattle.iox_wire_laws.specs.WireOwners.Pushes.{ReturnsHaveRoom}
use Rattle.iox_wire_laws.specs.WireOwners.Releases.{HasOwnStates, ReleasesOwnHandle}

-- a handle of a port, on lane 0, to the request of id 7, with a message of that sender
abbrev pub entry_of_ones : Kind → (port sender : ℕ) → Entry
entry_of_ones kind port sender = record {
  number = 2;
  kind = kind;
  port = port;
  sender = sender;
  slot = 0;
  client = 0;
  lane = 0;
  request = 7;
  elements = 1;
  connections = 1;
}

-- both nodes know the same ports
abbrev pub ports_of_ones : Fixed
ports_of_ones = known ones fresh.client

-- A pending response and a response of node 0, and an active request of node 1.
abbrev pub WorkedAreReleased : Type 0
WorkedAreReleased =
    ReleasesOwnHandle ports_of_ones 0 (entry_of_ones PendingResponse 0 0)
    × ReleasesOwnHandle ports_of_ones 0 (entry_of_ones Response 0 1)
    × ReleasesOwnHandle ports_of_ones 1 (entry_of_ones ActiveRequest 1 0)

-- all request states name the request of that id
abbrev pub naming : ℕ → Way → RequestState
naming id y = Named id false

-- The pending response has its states where they name its request, and not where they name another.
abbrev pub WorkedHaveOwnStates : Type 0
WorkedHaveOwnStates =
    HasOwnStates ones fresh.client (naming 7) (entry_of_ones PendingResponse 0 0)
    × (HasOwnStates ones fresh.client (naming 8) (entry_of_ones PendingResponse 0 0) → ⊥)

-- Node 0 owns the close of its one state firmly, and node 1 could not.
abbrev pub WorkedIsFirm : Type 0
WorkedIsFirm =
    let local = ReleaseCloses (entry_of_ones PendingResponse 0 0) (response_way 0 0 1) [] in
    OwnsFirmly ones 0 ports_of_ones (naming 7) local × (ClosesOwn ones 1 local → ⊥)

-- The returning queues of both nodes have room: node 0 gives responses back, node 1 requests.
abbrev pub WorkedHaveRoom : Type 0
WorkedHaveRoom =
    ReturnsHaveRoom ones ports_of_ones 0 (ReturningQueue (response_way 0 0 1))
    × ReturnsHaveRoom ones ports_of_ones 1 (ReturningQueue (request_way 0 1))
