-- Commands of a service that compares who opens it: each is one command of the machine, and a list
-- of them is a run.
use Rattle.std.specs.Prelude.{◌≡◌, ℕ, List, ◌++◌, length, map, take, Option}
use Rattle.std.specs.Borrow.{Bor}
use Rattle.std.specs.declared.vec.Vec.{Vec}
use Rattle.iox_attributes.specs.declared.verification_error.AttributeVerificationError.{AttributeVerificationError}
use Rattle.iox_model.specs.declared.command.Command as the_command
use Rattle.iox_model.specs.declared.command.Command.TheVariants as commands
use Rattle.iox_model.specs.declared.reply.Reply as the_reply
use Rattle.iox_model.specs.Commands.{Command, Refusal}
use Rattle.iox_model.specs.Runs.{IsRun}
use Rattle.iox_model.specs.Services.{IsCommand}
use Rattle.iox_model.specs.States.{State}
use Rattle.iox_openers.specs.Causes.{cause_of}
use Rattle.iox_openers.specs.Openers.{FailsFirst, Opener}
use Rattle.iox_openers.specs.declared.service_description.ServiceDescription.{ServiceDescription}
use Rattle.iox_service_laws.specs.Asking.{command_for}
use Rattle.iox_service_laws.specs.Elements.{Elements}
use Rattle.iox_service_laws.specs.Given.{reply_given}
use Rattle.iox_service_laws.specs.Memory.{IsDoneWithMemory, IsRunWithWants, MayLackMemory, WantsRightly, WantsToGrow}
use Rattle.iox_service_laws.specs.Served.{Correspond}

-- a command with which an opener is lent
abbrev pub OpenCommand : Type 0 → Type 0 → Type 0 → Type 0
OpenCommand Q P H = the_command.Command (Elements Q P) H (Bor Opener)

-- a reply of the code
abbrev pub OpenReply : Type 0 → Type 0
OpenReply Z = the_reply.Reply (Vec ℕ Z) AttributeVerificationError

-- The command is this one of the machine, where the service has that description, and these are the
-- words of an element of a request and of a response, and of a handler.
abbrev pub IsGivenAs :
    {Q P H : Type 0} → (Q → List ℕ) → (P → List ℕ) → (H → List ℕ) → ServiceDescription
    → OpenCommand Q P H → Command → Type 0
-- a join asks what the description asks of its opener
IsGivenAs q p words d (commands.Join id opener) c =
    (asked : Option Refusal) × FailsFirst d opener.now asked × (c ≡ commands.Join id asked)
-- all others are as they stand
IsGivenAs q p words d (commands.Port command) c = c ≡ commands.Port (command_for q p words command)
IsGivenAs q p words d (commands.Leave node) c = c ≡ commands.Leave node
IsGivenAs q p words d (commands.DeclareDead node) c = c ≡ commands.DeclareDead node
IsGivenAs q p words d (commands.Cleanup node) c = c ≡ commands.Cleanup node
IsGivenAs q p words d commands.ListNodes c = c ≡ commands.ListNodes
IsGivenAs q p words d commands.ListClients c = c ≡ commands.ListClients
IsGivenAs q p words d commands.ListServers c = c ≡ commands.ListServers

-- From a state, a service with that description may answer a command so, and come to that state.
abbrev pub IsAnswered :
    {Q P H Z : Type 0} → (Q → List ℕ) → (P → List ℕ) → (H → List ℕ) → ServiceDescription → State
    → OpenCommand Q P H → OpenReply Z → State → Type 0
IsAnswered q p words d s command reply s' =
    (c : Command) × IsGivenAs q p words d command c × IsCommand s c (reply_given cause_of reply) s'

-- The same, where memory is there for the command.
abbrev pub IsAnsweredWithMemory :
    {Q P H Z : Type 0} → (Q → List ℕ) → (P → List ℕ) → (H → List ℕ) → ServiceDescription → State
    → OpenCommand Q P H → OpenReply Z → State → Type 0
IsAnsweredWithMemory q p words d s command reply s' =
    (c : Command) × IsGivenAs q p words d command c
    × IsDoneWithMemory s c (reply_given cause_of reply) s'

-- Memory may be missing for the command.
abbrev pub MayFindNoMemory :
    {Q P H : Type 0} → (Q → List ℕ) → (P → List ℕ) → (H → List ℕ) → ServiceDescription → State
    → OpenCommand Q P H → Type 0
MayFindNoMemory q p words d s command =
    (c : Command) × IsGivenAs q p words d command c × MayLackMemory s c

-- If the reply tells want of memory, and the command lends a message, that must grow.
abbrev pub WantsToGrowFor :
    {Q P H Z : Type 0} → (Q → List ℕ) → (P → List ℕ) → (H → List ℕ) → ServiceDescription → State
    → OpenCommand Q P H → OpenReply Z → Type 0
WantsToGrowFor q p words d s command reply =
    (c : Command) → IsGivenAs q p words d command c → WantsToGrow s c (reply_given cause_of reply)

-- The first of these commands are answered by the replies that are new, one after another, from a
-- state to another: a run of the machine. The rest is not begun.
pub record IsRunOf {Q P H Z : Type 0} (q : Q → List ℕ) (p : P → List ℕ) (words : H → List ℕ)
    (d : ServiceDescription) (s : State) (commands : List (OpenCommand Q P H))
    (old new : List (OpenReply Z)) (s' : State) : Type 0
  where
    -- the new replies, behind the old ones
    pub more : List (OpenReply Z)
    pub told : new ≡ old ++ more
    -- what the machine was asked: as many commands, the first
    pub played : List Command
    pub given : Correspond (IsGivenAs q p words d) (take (length more) commands) played
    pub run : IsRun s played (map (reply_given cause_of) more) s'
    pub want : Correspond WantsRightly (take (length more) commands) more
    pub grows : IsRunWithWants s played (map (reply_given cause_of) more) s'
