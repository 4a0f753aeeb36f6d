-- What is left of nodes and ports that are gone.
use Rattle.std.specs.Prelude.{◌≡◌, ℕ, false, if◌then◌else◌, nat_lt, List, [], ◌∷◌, Option, Some, is_some, IsTrue}
use Rattle.iox_model.specs.UniqueSystemId.{UniqueSystemId}
use Rattle.iox_model.specs.declared.command.Command.TheVariants.{Cleanup, DeclareDead, Join, Leave, Port}
use Rattle.iox_model.specs.declared.reply.Refusal.TheVariants.{MarkedForDestruction, NodeIsDead, UnknownNode}
use Rattle.iox_model.specs.declared.reply.Reply.TheVariants.{Done, Refused}
use Rattle.iox_model.specs.declared.way.RequestState.TheVariants.{Closed}
use Rattle.iox_model.specs.declared.way.Way.{Way}
use Rattle.iox_model.specs.Commands.{Command, PortCommand, Refusal, Reply, asking}
use Rattle.iox_model.specs.Joins.{not_living}
use Rattle.iox_model.specs.Maps.{is_empty}
use Rattle.iox_model.specs.Peers.{is_connected_port, port_at}
use Rattle.iox_model.specs.Runs.{IsHistory, ServiceStep, is_member}
use Rattle.iox_model.specs.Services.{IsCommand}
use Rattle.iox_model.specs.States as m
use Rattle.iox_model.specs.States.{State}
use Rattle.iox_laws.specs.MessageLaws.Lists.{IsOneOf}
use Rattle.iox_laws.specs.ServiceLaws.Closing.{IsBare}

-- ---- ports

-- Nothing waits for a port that is gone, and nothing is outstanding to it or of it: what a living
-- sender delivered to it is free again. Messages that it sent may still wait.
pub record KeepsNothingForTheGone (s : State) : Type 0 where
  -- the receiver is gone
  pub waiting : (w : Way) → is_connected_port s.fixed w.receiver ≡ false → s.waiting w ≡ []
  pub request_state :
      (w : Way) → is_connected_port s.fixed w.receiver ≡ false → s.request_state w ≡ Closed
  pub returned_by : (w : Way) → is_connected_port s.fixed w.receiver ≡ false → s.returned w ≡ []
  pub outstanding_to :
      (w : Way) (k : ℕ) → is_connected_port s.fixed w.receiver ≡ false → s.delivered w k ≡ false
  -- the sender is gone
  pub returned : (w : Way) → is_connected_port s.fixed w.sender ≡ false → s.returned w ≡ []
  pub outstanding :
      (w : Way) (k : ℕ) → is_connected_port s.fixed w.sender ≡ false → s.delivered w k ≡ false

-- ---- the service

-- The service is closed exactly if it has no node, and then it has no port, handle or message. Each
-- connected port is of a node that did not leave. What is closed stays so, and no node joins it.
pub record ClosesWithTheLastNode (s : State) : Type 0 where
  pub closed : s.members.closed ≡ is_empty s.members.nodes
  pub bare : IsTrue s.members.closed → IsBare s
  pub ports : (n : ℕ) (p : m.Port) → port_at s.fixed n ≡ Some p → IsTrue (is_member s p.node)
  pub stays :
      (t : State) (xs : List ServiceStep) → IsTrue s.members.closed → IsHistory s xs t
      → IsTrue t.members.closed
  pub joins :
      (t : State) (id : UniqueSystemId) (asked : Option Refusal) (reply : Reply)
      → IsTrue s.members.closed → IsCommand s (Join id asked) reply t
      → (reply ≡ Refused MarkedForDestruction) × (t ≡ s)

-- ---- nodes

-- The node joined, and does not live: it is dead, or it left.
pub record LivesNoMore (s : State) (node : ℕ) : Type 0 where
  pub joined : IsTrue (nat_lt node s.members.joins)
  pub gone : IsTrue (is_some (not_living s node))

-- The command is refused, and changes nothing: to a dead node as dead, to one that left as unknown.
pub record IsRefusedToTheDead (s : State) (node : ℕ) (command : Command) : Type 0 where
  pub reply :
      (t : State) (reply : Reply) → IsCommand s command reply t
      → reply ≡ Refused (if is_member t node then NodeIsDead else UnknownNode)
  pub same : (t : State) (reply : Reply) → IsCommand s command reply t → t ≡ s

-- A node that dies is dead, and one that leaves or is cleaned up is no member any more. Whatever
-- history follows, each later command of such a node, also one to leave or to die, is refused and
-- changes nothing.
pub record TheDeadDoNothing (s : State) : Type 0 where
  pub dies :
      (t : State) (node : ℕ) (command : Command) → IsCommand s command Done t
      → command ≡ DeclareDead node → LivesNoMore t node × IsTrue (is_member t node)
  pub leaves :
      (t : State) (node : ℕ) (command : Command) → IsCommand s command Done t
      → IsOneOf command (Leave node ∷ Cleanup node ∷ [])
      → LivesNoMore t node × (is_member t node ≡ false)
  pub refused :
      (t : State) (xs : List ServiceStep) (node : ℕ) → LivesNoMore s node → IsHistory s xs t
      → (command : PortCommand) → (asking command).0 ≡ node
      → IsRefusedToTheDead t node (Port command)
  pub parts :
      (t : State) (xs : List ServiceStep) (node : ℕ) → LivesNoMore s node → IsHistory s xs t
      → (command : Command) → IsOneOf command (Leave node ∷ DeclareDead node ∷ [])
      → IsRefusedToTheDead t node command
