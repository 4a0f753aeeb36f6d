-- What cleanups, listings and refused commands come to.
use Rattle.std.specs.Prelude.{◌≡◌, ℕ, Bool, List, map, IsTrue}
use Rattle.iox_model.specs.declared.command.Command.TheVariants.{Cleanup, ListClients, ListNodes, ListServers}
use Rattle.iox_model.specs.declared.kind.Role.TheVariants.{Client, Server}
use Rattle.iox_model.specs.declared.reply.Reply.TheVariants.{Done, Listed, Refused}
use Rattle.iox_model.specs.Commands.{Command, Refusal, Reply}
use Rattle.iox_model.specs.Maps.{has_number}
use Rattle.iox_model.specs.Runs.{IsRun, is_member}
use Rattle.iox_model.specs.Services.{IsCommand, numbers_of_node}
use Rattle.iox_model.specs.States.{State}
use Rattle.iox_laws.specs.ServiceLaws.Cleaning.{releases_and_leave, with_life}
use Rattle.iox_laws.specs.ServiceLaws.Listings.{are_ascending, is_port_of_role}
use Rattle.iox_laws.specs.ServiceLaws.Refusing.{CommandRefusalLeaves}

-- A cleanup leaves the state that the dead node would leave if it lived, released each of its values
-- and then left. The values are released by ascending numbers.
pub record CleanupsAreReleases (s : State) : Type 0 where
  pub same :
      (t : State) (node : ℕ) → IsCommand s (Cleanup node) Done t
      → IsRun (with_life s node) (releases_and_leave s.fixed node)
      (map (λ c. Done) (releases_and_leave s.fixed node)) t
  pub ascending : (node : ℕ) → IsTrue (are_ascending (numbers_of_node s.fixed node))

-- The command lists exactly the numbers that pass the test, each once, ascending, and changes
-- nothing.
abbrev pub IsExactHere : State → Command → (ℕ → Bool) → Type 0
IsExactHere s command is_there =
    (t : State) (reply : Reply) → IsCommand s command reply t
    → (ns : List ℕ) × (reply ≡ Listed ns) × IsTrue (are_ascending ns)
    × ((n : ℕ) → has_number n ns ≡ is_there n) × (t ≡ s)

-- Listings name exactly the nodes that did not leave, and the connected clients and servers.
pub record ListingsAreExact (s : State) : Type 0 where
  pub nodes : IsExactHere s ListNodes (is_member s)
  pub clients : IsExactHere s ListClients (is_port_of_role s.fixed Client)
  pub servers : IsExactHere s ListServers (is_port_of_role s.fixed Server)

-- A refused command leaves the state unchanged, but for three cases of ports and handles.
pub record RefusalsLeave (s : State) : Type 0 where
  pub left :
      (t : State) (command : Command) (r : Refusal) → IsCommand s command (Refused r) t
      → CommandRefusalLeaves s command r t
