-- The steps of a service beside the calls: leaves, deaths, cleanups and listings; its commands.
use Rattle.std.specs.Prelude.{◌≡◌, ℕ, false, not, ◌&&◌, ◌||◌, if◌then◌else◌, ◌==◌, nat_lt, List, [], ◌∷◌, ◌++◌, map, filter, Option}
use Rattle.std.specs.Option.{option_map_or}
use Rattle.iox_model.specs.declared.kind.Role.TheVariants.{Client, Server}
use Rattle.iox_model.specs.declared.call.Call.TheVariants.{Release}
use Rattle.iox_model.specs.declared.command.Command.TheVariants.{Join, Leave, DeclareDead, Cleanup, ListNodes, ListClients, ListServers}
use Rattle.iox_model.specs.declared.command.Command.TheVariants as commands
use Rattle.iox_model.specs.declared.reply.Refusal.TheVariants.{HasPorts}
use Rattle.iox_model.specs.declared.reply.Reply.TheVariants.{Done, Listed}
use Rattle.iox_model.specs.Makings.{IsHubCommand}
use Rattle.iox_model.specs.States.{Node, Fixed, State}
use Rattle.iox_model.specs.WholeCalls.{UnlessRefused, IsWholeCall}
use Rattle.iox_model.specs.Maps.{is_empty, or_else, refused_if}
use Rattle.iox_model.specs.Joins.{node_at, not_living, not_dead, with_members, IsOpening}
use Rattle.iox_model.specs.Commands.{Refusal, Reply, HubCommand, Create, Use, Command, asking}
use Rattle.iox_model.specs.Peers.{ports_of_role}

-- the state once the node is gone; once no node is left the service is closed for good
abbrev pub without_node : State → ℕ → State
without_node s node =
    let left : List Node = filter (λ m. not (m.number == node)) s.members.nodes in
    with_members s (record (s.members) { nodes = left; closed = s.members.closed || is_empty left })

-- a number put into an ascending list
abbrev pub insert_number : ℕ → List ℕ → List ℕ
insert_number n [] = n ∷ []
insert_number n (k ∷ ks) = if nat_lt n k then n ∷ k ∷ ks else k ∷ insert_number n ks

-- the numbers in ascending order
abbrev pub ascending : List ℕ → List ℕ
ascending [] = []
ascending (n ∷ ns) = insert_number n (ascending ns)

-- the numbers of the node's ports and handles that are not released, ascending
abbrev pub numbers_of_node : Fixed → ℕ → List ℕ
numbers_of_node f node =
    ascending (map (λ p. p.number) (filter (λ p. (p.node == node) && p.held) f.ports)
    ++ map (λ h. h.number) (f.handles node))

-- why a node may not leave: it does not live, or it has ports or handles
abbrev pub leaving_refusal : State → ℕ → Option Refusal
leaving_refusal s node =
    or_else (not_living s node)
    (refused_if (not (is_empty (numbers_of_node s.fixed node))) HasPorts)

-- the node, dead if it has this number
abbrev pub dies : ℕ → Node → Node
dies node m = if m.number == node then record m { alive = false } else m

-- the state once the node of that number is dead
abbrev pub with_death : State → ℕ → State
with_death s node =
    with_members s (record (s.members) { nodes = map (dies node) s.members.nodes })

-- the releases of these numbers, one after another
abbrev pub Releases : State → ℕ → List ℕ → State → Type 0
Releases s node [] s' = s' ≡ s
Releases s node (n ∷ ns) s' =
    (mid : State) × IsWholeCall s node (Release n) Done mid × Releases mid node ns s'

-- all that the node has is released, and then the node is gone
abbrev pub IsCleanup : State → ℕ → Reply → State → Type 0
IsCleanup s node reply s' =
    (mid : State) × Releases s node (numbers_of_node s.fixed node) mid
    × (reply ≡ Done) × (s' ≡ without_node mid node)

-- ---- a command

-- the command of a node, in which a port gets the id with which the node joined
abbrev pub with_own_id : State → ℕ → HubCommand → HubCommand
with_own_id s node (Create role id o) = Create role (option_map_or (λ m. m.id) (node_at s node) id) o
with_own_id s node (Use call) = Use call

-- a command that a node asks of the hub may have this reply and lead to that state; it is refused
-- unless the node lives
abbrev pub IsNodeCommand : State → ℕ → HubCommand → Reply → State → Type 0
IsNodeCommand s node command reply s' =
    UnlessRefused (not_living s node) s reply s'
    (IsHubCommand s node (with_own_id s node command) reply s')

-- from a state, the command may have this reply and lead to that state
abbrev pub IsCommand : State → Command → Reply → State → Type 0
IsCommand s (Join id asked) reply s' = IsOpening s id asked reply s'
IsCommand s (commands.Port command) reply s' =
    IsNodeCommand s (asking command).0 (asking command).1 reply s'
IsCommand s (Leave node) reply s' =
    UnlessRefused (leaving_refusal s node) s reply s' ((reply ≡ Done) × (s' ≡ without_node s node))
IsCommand s (DeclareDead node) reply s' =
    UnlessRefused (not_living s node) s reply s' ((reply ≡ Done) × (s' ≡ with_death s node))
IsCommand s (Cleanup node) reply s' =
    UnlessRefused (not_dead s node) s reply s' (IsCleanup s node reply s')
IsCommand s ListNodes reply s' =
    (reply ≡ Listed (map (λ m. m.number) s.members.nodes)) × (s' ≡ s)
IsCommand s ListClients reply s' = (reply ≡ Listed (ports_of_role s.fixed Client)) × (s' ≡ s)
IsCommand s ListServers reply s' = (reply ≡ Listed (ports_of_role s.fixed Server)) × (s' ≡ s)
