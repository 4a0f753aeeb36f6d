-- Memory for the commands of a service: that it was there, and which of them may find none.
use Rattle.std.specs.Prelude.{◌≡◌, ℕ, ⊤, Bool, true, false, if◌then◌else◌, List, [], ◌∷◌, Option, Some, None, Result, Err}
use Rattle.std.specs.Option.{IsSomeAnd}
use Rattle.std.specs.declared.vec.Vec.{Vec}
use Rattle.iox_model.specs.declared.command.Command as the_command
use Rattle.iox_model.specs.declared.command.Command.TheVariants.{Join, Port, ListNodes, ListClients, ListServers}
use Rattle.iox_model.specs.declared.command.PortCommand as the_port_command
use Rattle.iox_model.specs.declared.command.PortCommand.TheVariants.{Client, Server, Read, Loan, SendCopy}
use Rattle.iox_model.specs.declared.reply.Refusal as the_refusal
use Rattle.iox_model.specs.declared.reply.Refusal.TheVariants.{UnableToCreateDataSegment, WantOfMemory}
use Rattle.iox_model.specs.declared.reply.Reply as the_reply
use Rattle.iox_model.specs.declared.reply.Reply.TheVariants.{Refused}
use Rattle.iox_model.specs.Commands.{Cause, Command, Reply}
use Rattle.iox_model.specs.Services.{IsCommand}
use Rattle.iox_model.specs.States.{State}
use Rattle.iox_port_commands.specs.Asking.{is_making, takes_memory}
use Rattle.iox_port_commands.specs.Memory.{GrowsIfLent, HadMemory, MustGrow}
use Rattle.iox_port_commands.specs.declared.elements.Elements.{Elements}
use Rattle.iox_nodes.specs.Given.{command_given, reply_given}

-- ---- memory was there

-- From a state, the machine's command may have this reply and lead to that state, where memory is
-- there for it.
pub record IsDoneWithMemory (s : State) (command : Command) (reply : Reply) (s' : State) : Type 0
  where
    pub done : IsCommand s command reply s'
    pub memory : HadMemory s.fixed.limits command reply

-- The same of a command of a service, whatever the causes of attributes are, where these are the
-- words of elements and handlers.
abbrev pub IsAnsweredWithMemory :
    {Q P H C Z : Type 0} → (Q → List ℕ) → (P → List ℕ) → (H → List ℕ) → State
    → the_command.Command (Elements Q P) H (Option (the_refusal.Refusal C))
    → the_reply.Reply (Vec ℕ Z) C → State → Type 0
IsAnsweredWithMemory {C = C} q p words s command reply s' =
    (cause : C → Cause)
    → IsDoneWithMemory s (command_given q p words cause command) (reply_given cause reply) s'

-- ---- memory may be missing

-- whether it is refused for want of memory
abbrev pub is_wanting : {X C : Type 0} → Result X (the_refusal.Refusal C) → Bool
is_wanting (Err WantOfMemory) = true
is_wanting answer = false

-- Memory may be missing for the command: it is a listing, or a join, the making of a port, a read,
-- a loan or a copy that the machine may refuse for that. For loans and copies it is missing only
-- where the message must grow. No other command takes memory.
abbrev pub MayLackMemory : State → Command → Type 0
MayLackMemory s (Join id asked) = IsCommand s (Join id asked) (Refused WantOfMemory) s
MayLackMemory s (Port (Client node id o)) =
    IsCommand s (Port (Client node id o)) (Refused UnableToCreateDataSegment) s
MayLackMemory s (Port (Server node id o)) =
    IsCommand s (Port (Server node id o)) (Refused UnableToCreateDataSegment) s
MayLackMemory s (Port (Read node n)) = IsCommand s (Port (Read node n)) (Refused WantOfMemory) s
MayLackMemory s (Port (Loan node n k)) =
    IsCommand s (Port (Loan node n k)) (Refused WantOfMemory) s × MustGrow s node n k
MayLackMemory s (Port (SendCopy node n payload)) =
    IsCommand s (Port (SendCopy node n payload)) (Refused WantOfMemory) s
    × IsSomeAnd payload.elements (MustGrow s node n)
MayLackMemory s ListNodes = ⊤
MayLackMemory s ListClients = ⊤
MayLackMemory s ListServers = ⊤
MayLackMemory s command = ⊥

-- The same of a command of a service.
abbrev pub MayFindNoMemory :
    {Q P H C : Type 0} → (Q → List ℕ) → (P → List ℕ) → (H → List ℕ) → State
    → the_command.Command (Elements Q P) H (Option (the_refusal.Refusal C)) → Type 0
MayFindNoMemory {C = C} q p words s command =
    (cause : C → Cause) → MayLackMemory s (command_given q p words cause command)

-- ---- want of memory is told

-- What a node asks of its ports is told want of memory only where memory is taken: `WantOfMemory`
-- only where it reads, or where a message may grow: at a loan or a copy. `UnableToCreateDataSegment`
-- only where it makes a port.
pub record PortWantsRightly {E H L C : Type 0} (command : the_port_command.PortCommand E H)
    (reply : the_reply.Reply L C) : Type 0
  where
    pub memory : reply ≡ Refused WantOfMemory → takes_memory command ≡ true
    pub segment : reply ≡ Refused UnableToCreateDataSegment → is_making command ≡ true

-- The same of a command of a service. Of all others the machine lets only a join be told so.
abbrev pub WantsRightly :
    {E H V L C : Type 0} → the_command.Command E H V → the_reply.Reply L C → Type 0
WantsRightly (Port command) reply = PortWantsRightly command reply
WantsRightly command reply = ⊤

-- If the machine's reply tells want of memory, and the command lends a message, that must grow.
abbrev pub WantsToGrow : State → Command → Reply → Type 0
WantsToGrow s (Port command) reply = reply ≡ Refused WantOfMemory → GrowsIfLent s command
WantsToGrow s command reply = ⊤

-- It is so of a command of a service, whatever the causes of attributes are.
abbrev pub WantsToGrowFor :
    {Q P H C Z : Type 0} → (Q → List ℕ) → (P → List ℕ) → (H → List ℕ) → State
    → the_command.Command (Elements Q P) H (Option (the_refusal.Refusal C))
    → the_reply.Reply (Vec ℕ Z) C → Type 0
WantsToGrowFor {C = C} q p words s command reply =
    (cause : C → Cause)
    → WantsToGrow s (command_given q p words cause command) (reply_given cause reply)

-- These commands have these replies in a run of the machine, and it is so of each of them.
abbrev pub IsRunWithWants : State → List Command → List Reply → State → Type 0
IsRunWithWants s [] [] s' = s' ≡ s
IsRunWithWants s (c ∷ cs) (r ∷ rs) s' =
    (mid : State) × IsCommand s c r mid × WantsToGrow s c r × IsRunWithWants mid cs rs s'
IsRunWithWants s [] (r ∷ rs) s' = ⊥
IsRunWithWants s (c ∷ cs) [] s' = ⊥

-- ---- only for proofs of this crate

-- how a command of a node is refused where memory is missing for it: the making of a port, or another
abbrev pub want_of : {C : Type 0} → Bool → the_refusal.Refusal C
want_of making = if making then UnableToCreateDataSegment else WantOfMemory

-- the same of a command of a service; a listing is not refused
abbrev pub refusal_for_want :
    {E H V C : Type 0} → the_command.Command E H V → Option (the_refusal.Refusal C)
refusal_for_want (Port command) = Some (want_of (is_making command))
refusal_for_want ListNodes = None
refusal_for_want ListClients = None
refusal_for_want ListServers = None
refusal_for_want command = Some WantOfMemory
