-- What a call does to the nodes: it is a command of the machine in each state that has these nodes,
-- and whatever the causes of attributes are.
use Rattle.std.specs.Prelude.{◌≡◌, ℕ, ⊤, Bool, not, Option, Some, None, Result, Ok, Err}
use Rattle.std.specs.Option.{option_map}
use Rattle.iox_types.specs.declared.identifiers.system_id.UniqueSystemId.{UniqueSystemId}
use Rattle.iox_model.specs.declared.command.Command.TheVariants.{Join, Leave, DeclareDead}
use Rattle.iox_model.specs.declared.reply.Refusal as the_refusal
use Rattle.iox_model.specs.declared.reply.Reply.TheVariants.{Done, Refused}
use Rattle.iox_model.specs.declared.reply.Reply.TheVariants as replies
use Rattle.iox_model.specs.Commands.{Cause, Command, Refusal, Reply}
use Rattle.iox_model.specs.Joins.{not_dead, not_living, with_members}
use Rattle.iox_model.specs.Maps.{is_empty}
use Rattle.iox_model.specs.Services.{IsCommand, numbers_of_node, without_node}
use Rattle.iox_model.specs.States.{Members, State}
use Rattle.iox_openers.specs.Causes.{with_cause}

-- ---- answers, as the machine has them

-- why it is refused, if it is
abbrev pub refusal_in :
    {C X : Type 0} → (C → Cause) → Result X (the_refusal.Refusal C) → Option Refusal
refusal_in cause (Ok x) = None
refusal_in cause (Err r) = Some (with_cause cause r)

-- the answer of what is refused, or done with that reply
abbrev pub answer_in :
    {C X : Type 0} → (C → Cause) → (X → Reply) → Result X (the_refusal.Refusal C) → Reply
answer_in cause reply (Ok x) = reply x
answer_in cause reply (Err r) = Refused (with_cause cause r)

-- ---- calls

-- The command may be answered so, and leaves these nodes and all else as it was.
abbrev pub IsOfNodes : State → Members → Command → Reply → Members → Type 0
IsOfNodes s old command reply new =
    IsCommand (with_members s old) command reply (with_members s new)

-- A join is answered so, where this is what is asked of types and attributes, and at most so many
-- nodes may there be.
abbrev pub IsJoined :
    {C : Type 0} → Members → UniqueSystemId → Option (the_refusal.Refusal C) → ℕ
    → Result ℕ (the_refusal.Refusal C) → Members → Type 0
IsJoined {C = C} old id asked most result new =
    (cause : C → Cause) (s : State) → s.fixed.limits.nodes ≡ most
    → IsOfNodes s old (Join id (option_map (with_cause cause) asked))
    (answer_in cause replies.Node result) new

-- A leave is answered so, where this says whether the node has a port or a handle.
abbrev pub IsLeaving :
    {C : Type 0} → Members → ℕ → Bool → Result ⊤ (the_refusal.Refusal C) → Members → Type 0
IsLeaving {C = C} old node has_values result new =
    (cause : C → Cause) (s : State) → is_empty (numbers_of_node s.fixed node) ≡ not has_values
    → IsOfNodes s old (Leave node) (answer_in cause (λ x. Done) result) new

-- The declaration of a death is answered so.
abbrev pub IsDeclaredDead :
    {C : Type 0} → Members → ℕ → Result ⊤ (the_refusal.Refusal C) → Members → Type 0
IsDeclaredDead {C = C} old node result new =
    (cause : C → Cause) (s : State)
    → IsOfNodes s old (DeclareDead node) (answer_in cause (λ x. Done) result) new

-- ---- parts of commands

-- It is refused exactly if the node is not a living one, as the machine refuses it.
abbrev pub IsRefusedUnlessLiving :
    {C X : Type 0} → Members → ℕ → Result X (the_refusal.Refusal C) → Type 0
IsRefusedUnlessLiving {C = C} x node result =
    (cause : C → Cause) (s : State)
    → not_living (with_members s x) node ≡ refusal_in cause result

-- It is refused exactly if the node is not a dead one, as the machine refuses it.
abbrev pub IsRefusedUnlessDead :
    {C X : Type 0} → Members → ℕ → Result X (the_refusal.Refusal C) → Type 0
IsRefusedUnlessDead {C = C} x node result =
    (cause : C → Cause) (s : State)
    → not_dead (with_members s x) node ≡ refusal_in cause result

-- The node is gone, and without nodes the service is closed.
abbrev pub IsAfterLeaving : Members → ℕ → Members → Type 0
IsAfterLeaving old node new =
    (s : State) → with_members s new ≡ without_node (with_members s old) node
