-- Listings name exactly the nodes, clients or servers that there are.
use Rattle.std.specs.Prelude.{◌≡◌, ℕ, Bool, true, ◌&&◌, ◌==◌, nat_lt, List, [], ◌∷◌, IsTrue}
use Rattle.std.specs.List.{list_all, list_any}
use Rattle.iox_model.specs.declared.command.Command.TheVariants.{ListNodes, ListClients, ListServers}
use Rattle.iox_model.specs.declared.kind.Role.{Role}
use Rattle.iox_model.specs.declared.kind.Role.TheVariants.{Client, Server}
use Rattle.iox_model.specs.declared.reply.Reply.TheVariants.{Listed}
use Rattle.iox_model.specs.Commands.{Reply, Command}
use Rattle.iox_model.specs.Maps.{has_number}
use Rattle.iox_model.specs.Runs.{is_member, IsReachableState}
use Rattle.iox_model.specs.Services.{IsCommand}
use Rattle.iox_model.specs.Settings.{same_role}
use Rattle.iox_model.specs.States.{Fixed, State}

-- whether each number is below all that follow
abbrev pub are_ascending : List ℕ → Bool
are_ascending [] = true
are_ascending (n ∷ ns) = list_all (nat_lt n) ns && are_ascending ns

-- whether a connected port has that number and that role
abbrev pub is_port_of_role : Fixed → Role → ℕ → Bool
is_port_of_role f role n = list_any (λ p. (p.number == n) && same_role p.role role) f.ports

-- The command lists exactly the numbers that pass the test, each once, ascending, and changes
-- nothing.
abbrev pub IsExact : Command → (State → ℕ → Bool) → Type 0
IsExact command is_there =
    (s t : State) (reply : Reply) → IsReachableState s → IsCommand s command reply t
    → (ns : List ℕ) × (reply ≡ Listed ns) × IsTrue (are_ascending ns)
    × ((n : ℕ) → has_number n ns ≡ is_there s n) × (t ≡ s)

-- The nodes listed are exactly those that did not leave, dead ones included.
abbrev pub NodesAreListed : Type 0
NodesAreListed = IsExact ListNodes is_member

-- the clients listed are exactly the connected ones
abbrev pub ClientsAreListed : Type 0
ClientsAreListed = IsExact ListClients (λ s. is_port_of_role s.fixed Client)

-- the servers listed are exactly the connected ones
abbrev pub ServersAreListed : Type 0
ServersAreListed = IsExact ListServers (λ s. is_port_of_role s.fixed Server)
