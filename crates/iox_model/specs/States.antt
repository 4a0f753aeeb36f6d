-- The state of the machine.
use Rattle.std.specs.Prelude.{ℕ, Bool, List, Option}
use Rattle.iox_model.specs.declared.kind.Role.{Role}
use Rattle.iox_model.specs.declared.kind.Kind.{Kind}
use Rattle.iox_model.specs.declared.way.Way.{Way}
use Rattle.iox_types.specs.declared.identifiers.system_id.UniqueSystemId.{UniqueSystemId}
use Rattle.iox_model.specs.declared.way.RequestState.{RequestState}
use Rattle.iox_types.specs.declared.backpressure.BackpressureStrategy.{BackpressureStrategy}
use Rattle.iox_model.specs.declared.backpressure.BackpressureAction.{BackpressureAction}
use Rattle.iox_model.specs.Settings.{Limits}
use Rattle.iox_model.specs.Messages.{Message}

-- ---- nodes, ports and handles

-- A node of a service, with the id with which it joined.
pub record Node : Type 0 where
  pub number : ℕ
  pub id : UniqueSystemId
  pub alive : Bool

-- the nodes that neither left nor were cleaned up, dead ones too; how many ever joined; whether the
-- service is closed for good
pub record Members : Type 0 where
  pub nodes : List Node
  pub joins : ℕ
  pub closed : Bool

-- A connected port.
pub record Port : Type 0 where
  pub number : ℕ
  pub node : ℕ
  pub role : Role
  -- the id of its node, and its own id
  pub node_id : UniqueSystemId
  pub id : UniqueSystemId
  -- how many messages its pool has; a client has as many lanes
  pub pool : ℕ
  -- the greatest length of a message, unless the port's messages grow
  pub longest : ℕ
  -- whether its messages may grow past that length
  pub grows : Bool
  -- what it does at a full receiver, unless a handler says otherwise
  pub strategy : BackpressureStrategy
  -- the words of its backpressure handler, if one is set
  pub handler : Option (List ℕ)
  -- of a server: how many loans one request may have
  pub loaned_responses : ℕ
  -- whether the port's own value is still there
  pub held : Bool

-- A loan, a pending response, an active request or a response.
pub record Handle : Type 0 where
  pub node : ℕ
  pub number : ℕ
  pub kind : Kind
  -- the port that it belongs to
  pub port : ℕ
  -- its own message, if it is a loan or a pending response, else the one that was received
  pub message : Message
  -- of a loan: how many elements are filled
  pub filled : ℕ
  -- its request: the client, the lane and the id
  pub client : ℕ
  pub lane : ℕ
  pub request : ℕ
  -- of a pending response: how many servers the request was delivered to
  pub connections : ℕ

-- ---- the state

-- What no moment changes.
pub record Fixed : Type 0 where
  pub limits : Limits
  -- what a backpressure handler, by its words, answers for a sender and a receiver
  pub acts : List ℕ → ℕ → ℕ → BackpressureAction
  -- whether a wire is open: ports are fixed, and each node counts its own handles
  pub on_wire : Bool
  -- the connected ports, oldest first, and how many were ever made
  pub ports : List Port
  pub ports_made : ℕ
  -- the handles of each node, oldest first
  pub handles : ℕ → List Handle
  -- the next number of a port or handle; on a wire also how many handles each node made
  pub next_number : ℕ
  pub handles_made : ℕ → ℕ
  -- how many loans, sends and receives were not refused
  pub calls : ℕ
  -- how many loans of each port succeeded
  pub loans : ℕ → ℕ
  -- on each way how many received messages its receiver has as handles; 0 once the way is given up
  pub borrowed : Way → ℕ
  -- of each receiver the disconnected senders whose messages it still keeps, oldest first
  pub expired : ℕ → List ℕ
  -- the dead nodes that each node forgot
  pub forgot : ℕ → List ℕ

-- All that the machine holds.
pub record State : Type 0 where
  pub members : Members
  pub fixed : Fixed
  -- on each way the messages that wait, oldest first
  pub waiting : Way → List Message
  -- on each way the serials that were given back and not got back, oldest first
  pub returned : Way → List ℕ
  -- on each way the serial that its sender evicted and did not get back yet, if there is one
  pub in_hand : Way → List ℕ
  -- on each way the serials that its sender delivered and did not get back
  pub delivered : Way → ℕ → Bool
  -- on each way of responses the state of the request there
  pub request_state : Way → RequestState
