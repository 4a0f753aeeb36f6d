-- The nodes of a service: who lives, and who may join.
use Rattle.std.specs.Prelude.{◌≡◌, ℕ, ◌+◌, Bool, true, not, ◌&&◌, ◌==◌, nat_le, [], ◌∷◌, ◌++◌, length, Option, Some, find}
use Rattle.std.specs.List.{list_any}
use Rattle.std.specs.Option.{option_map_or}
use Rattle.iox_types.specs.declared.identifiers.system_id.UniqueSystemId.{UniqueSystemId}
use Rattle.iox_types.specs.Identifiers.{is_node_id}
use Rattle.iox_model.specs.declared.reply.Refusal.TheVariants.{UnknownNode, NodeIsDead, NodeIsAlive, WantOfMemory, MarkedForDestruction, InvalidNodeId, NodeIdInUse, ExceedsMaxNumberOfNodes}
use Rattle.iox_model.specs.declared.reply.Reply.TheVariants as replies
use Rattle.iox_model.specs.States.{Node, Members, State}
use Rattle.iox_model.specs.WholeCalls.{UnlessRefused}
use Rattle.iox_model.specs.Maps.{or_else, refused_if}
use Rattle.iox_model.specs.Commands.{Refusal, Reply}

-- the node of that number
abbrev pub node_at : State → ℕ → Option Node
node_at s n = find (λ m. m.number == n) s.members.nodes

-- why a node is not a living one: it is unknown, or it is dead
abbrev pub not_living : State → ℕ → Option Refusal
not_living s node =
    option_map_or (λ m. refused_if (not m.alive) NodeIsDead) (node_at s node) (Some UnknownNode)

-- why a node is not a dead one: it is unknown, or it lives
abbrev pub not_dead : State → ℕ → Option Refusal
not_dead s node =
    option_map_or (λ m. refused_if m.alive NodeIsAlive) (node_at s node) (Some UnknownNode)

-- the state with its nodes changed
abbrev pub with_members : State → Members → State
with_members s x = record s { members = x }

-- whether two ids agree in all four numbers
abbrev pub same_id : UniqueSystemId → UniqueSystemId → Bool
same_id a b =
    ((a.process == b.process) && (a.seconds == b.seconds))
    && ((a.nanoseconds == b.nanoseconds) && (a.counter == b.counter))

-- why a join is refused: the first test that fails; `asked` is the opener's first refusal by types
-- and attributes, if one applies
abbrev pub opening_refusal : State → UniqueSystemId → Option Refusal → Bool → Option Refusal
opening_refusal s id asked memory =
    or_else (refused_if s.members.closed MarkedForDestruction)
    (or_else (refused_if (not (is_node_id id)) InvalidNodeId)
    (or_else (refused_if (list_any (λ m. same_id m.id id) s.members.nodes) NodeIdInUse)
    (or_else asked
    (or_else
    (refused_if (nat_le s.fixed.limits.nodes (length s.members.nodes)) ExceedsMaxNumberOfNodes)
    (refused_if (not memory) WantOfMemory)))))

-- a new node, living, with this number and id
abbrev pub new_node : ℕ → UniqueSystemId → Node
new_node number id = record { number = number; id = id; alive = true }

-- the nodes with one more; its number is how many joined before it
abbrev pub joined : Members → UniqueSystemId → Members
joined x id = record x { nodes = x.nodes ++ new_node x.joins id ∷ []; joins = x.joins + 1 }

-- a join with this id may have this reply and lead to that state
abbrev pub IsOpening : State → UniqueSystemId → Option Refusal → Reply → State → Type 0
IsOpening s id asked reply s' =
    (memory : Bool) × UnlessRefused (opening_refusal s id asked memory) s reply s'
    ((reply ≡ replies.Node s.members.joins) × (s' ≡ with_members s (joined s.members id)))
