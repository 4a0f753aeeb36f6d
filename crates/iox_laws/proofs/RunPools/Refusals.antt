-- Refusals that are not that memory is out: of calls, of ports that are made, and of a service's nodes.
use Rattle.std.specs.Prelude.{◌≡◌, ℕ, Bool, not, ◌||◌, ◌==◌, ◌^◌, nat_le, length, Option, Some, None, refl}
use Rattle.std.specs.List.{list_any}
use Rattle.std.specs.Option.{option_map_or}
use Rattle.std.proofs.Common.{sym, subst}
use Rattle.iox_model.specs.UniqueSystemId.{UniqueSystemId}
use Rattle.iox_model.specs.Identifiers.{is_node_id}
use Rattle.iox_model.specs.declared.kind.Role.{Role}
use Rattle.iox_model.specs.declared.kind.Role.TheVariants.{Client, Server}
use Rattle.iox_model.specs.declared.reply.Refusal.TheVariants.{OutOfMemory, UnknownNode, NodeIsDead, NodeIsAlive, HasPorts, ForeignNumber, UnknownNumber}
use Rattle.iox_model.specs.declared.reply.Refusal.TheVariants.{WrongKind, WantOfMemory, MarkedForDestruction, InvalidNodeId, NodeIdInUse}
use Rattle.iox_model.specs.declared.reply.Refusal.TheVariants.{ExceedsMaxNumberOfNodes, UnableToCreatePortTag, UnableToCreateDataSegment}
use Rattle.iox_model.specs.declared.reply.Reply.TheVariants.{Refused}
use Rattle.iox_model.specs.Commands.{Refusal, Call, Options, number_of}
use Rattle.iox_model.specs.Handles.{Subject, kind_of, node_of, is_elsewhere}
use Rattle.iox_model.specs.Joins.{node_at, not_living, not_dead, same_id, opening_refusal}
use Rattle.iox_model.specs.Makings.{is_large, most_ports, making_refusal, too_many_ports}
use Rattle.iox_model.specs.Maps.{is_empty, refused_if, or_else}
use Rattle.iox_model.specs.Names.{suits, misnamed_by}
use Rattle.iox_model.specs.Peers.{ports_of_role}
use Rattle.iox_model.specs.Services.{numbers_of_node, leaving_refusal}
use Rattle.iox_model.specs.States.{Node, Fixed, State}
use Rattle.iox_model.specs.WholeCalls.{UnlessRefused}
use Rattle.iox_laws.proofs.WeaveLaws.MapLemmas.{either}
use Rattle.iox_laws.proofs.WeavePools.Spare.{RefusedIf, TellsIf}
use Rattle.iox_laws.proofs.WeavePools.SpareStarts.{Tolerates, if-tolerated, or-tolerated}

pub unless_out : (q : Option Refusal) (s t : State) (Q : Type 0) → Tolerates ⊥ q → (q ≡ None → Q → ⊥) → UnlessRefused q s (Refused OutOfMemory) t Q → ⊥
unless_out (Some r) s t Q other f u = subst (TellsIf ⊥) (sym u.0) other
unless_out None s t Q other f u = f refl u

pub misnamed_other : (f : Fixed) (n : ℕ) (call : Call) (x : Option Subject) → Tolerates ⊥ (misnamed_by f n call x)
misnamed_other f n call None = either (RefusedIf ⊥) (is_elsewhere f (number_of call)) ForeignNumber UnknownNumber (λ u. tt) (λ u. tt)
misnamed_other f n call (Some x) =
    or-tolerated ⊥ (refused_if (not (node_of x == n)) ForeignNumber) (refused_if (not (suits f.on_wire call (kind_of x))) WrongKind)
    (if-tolerated ⊥ (not (node_of x == n)) ForeignNumber tt) (if-tolerated ⊥ (not (suits f.on_wire call (kind_of x))) WrongKind tt)

pub making_other : (f : Fixed) (role : Role) (o : Options) (memory : Bool) → Tolerates ⊥ (making_refusal f role o memory)
making_other f role o memory =
    or-tolerated ⊥ (refused_if tags UnableToCreatePortTag) (or_else (refused_if large UnableToCreateDataSegment) (refused_if many (too_many_ports role)))
    (if-tolerated ⊥ tags UnableToCreatePortTag tt)
    (or-tolerated ⊥ (refused_if large UnableToCreateDataSegment) (refused_if many (too_many_ports role))
    (if-tolerated ⊥ large UnableToCreateDataSegment tt) (if-tolerated ⊥ many (too_many_ports role) (other role)))
  where
    tags : Bool
    tags = nat_le (2 ^ 32) f.ports_made

    large : Bool
    large = is_large f.limits role o || not memory

    many : Bool
    many = nat_le (most_ports f.limits role) (length (ports_of_role f role))

    other : (role : Role) → RefusedIf ⊥ (too_many_ports role)
    other Client = tt
    other Server = tt

pub living_other : (s : State) (n : ℕ) → Tolerates ⊥ (not_living s n)
living_other s n = by_node (node_at s n)
  where
    by_node : (o : Option Node) → Tolerates ⊥ (option_map_or (λ m. refused_if (not m.alive) NodeIsDead) o (Some UnknownNode))
    by_node None = tt
    by_node (Some m) = if-tolerated ⊥ (not m.alive) NodeIsDead tt

-- ---- nodes of a service

pub dead_other : (s : State) (n : ℕ) → Tolerates ⊥ (not_dead s n)
dead_other s n = by_node (node_at s n)
  where
    by_node : (o : Option Node) → Tolerates ⊥ (option_map_or (λ m. refused_if m.alive NodeIsAlive) o (Some UnknownNode))
    by_node None = tt
    by_node (Some m) = if-tolerated ⊥ m.alive NodeIsAlive tt

pub leaving_other : (s : State) (n : ℕ) → Tolerates ⊥ (leaving_refusal s n)
leaving_other s n =
    let ports : Bool = not (is_empty (numbers_of_node s.fixed n)) in
    or-tolerated ⊥ (not_living s n) (refused_if ports HasPorts) (living_other s n) (if-tolerated ⊥ ports HasPorts tt)

-- an opener's own refusal is another
asked_other : (asked : Option Refusal) → (asked ≡ Some OutOfMemory → ⊥) → Tolerates ⊥ asked
asked_other None other = tt
asked_other (Some OutOfMemory) other = other refl
asked_other (Some r) other = tt

pub opening_other : (s : State) (id : UniqueSystemId) (asked : Option Refusal) (memory : Bool) → (asked ≡ Some OutOfMemory → ⊥)
    → Tolerates ⊥ (opening_refusal s id asked memory)
opening_other s id asked memory other =
    first closed MarkedForDestruction (or_else (refused_if invalid InvalidNodeId) (or_else (refused_if used NodeIdInUse) (or_else asked rest))) tt
    (first invalid InvalidNodeId (or_else (refused_if used NodeIdInUse) (or_else asked rest)) tt
    (first used NodeIdInUse (or_else asked rest) tt
    (or-tolerated ⊥ asked rest (asked_other asked other)
    (first full ExceedsMaxNumberOfNodes (refused_if (not memory) WantOfMemory) tt (if-tolerated ⊥ (not memory) WantOfMemory tt)))))
  where
    closed : Bool
    closed = s.members.closed

    invalid : Bool
    invalid = not (is_node_id id)

    used : Bool
    used = list_any (λ m. same_id m.id id) s.members.nodes

    full : Bool
    full = nat_le s.fixed.limits.nodes (length s.members.nodes)

    rest : Option Refusal
    rest = or_else (refused_if full ExceedsMaxNumberOfNodes) (refused_if (not memory) WantOfMemory)

    first : (b : Bool) (r : Refusal) (q : Option Refusal) → RefusedIf ⊥ r → Tolerates ⊥ q → Tolerates ⊥ (or_else (refused_if b r) q)
    first b r q p = or-tolerated ⊥ (refused_if b r) q (if-tolerated ⊥ b r p)
