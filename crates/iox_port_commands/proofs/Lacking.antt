-- What a command comes to where memory is missing, and that it was there.
use Rattle.std.specs.Prelude.{◌≡◌, ℕ, false, if◌then◌else◌, List, Result, Ok, Err, IfOk}
use Rattle.std.specs.declared.vec.Vec.{Vec}
use Rattle.std.proofs.Common.{sym, subst, true≢false}
use Rattle.iox_model.specs.declared.command.Command.TheVariants.{Port}
use Rattle.iox_model.specs.declared.command.PortCommand as the_command
use Rattle.iox_model.specs.declared.command.PortCommand.TheVariants as commands
use Rattle.iox_model.specs.declared.reply.PortReply as the_reply
use Rattle.iox_model.specs.declared.reply.PortReply.TheVariants.{Refused}
use Rattle.iox_model.specs.declared.reply.Refusal.TheVariants as refusals
use Rattle.iox_model.specs.Commands.{Command, Reply, asking}
use Rattle.iox_model.specs.Makings.{IsHubCommand}
use Rattle.iox_model.specs.Settings.{Limits}
use Rattle.iox_hub.specs.Hubs.{HubState, state_of_hub}
use Rattle.iox_port_commands.specs.declared.elements.Elements.{Elements}
use Rattle.iox_port_commands.specs.Applying.{HadMemoryFor, IsApplied, LacksMemoryFor}
use Rattle.iox_port_commands.specs.Asking.{command_for, is_making}
use Rattle.iox_port_commands.specs.Memory.{HadMemory}
use Rattle.iox_port_commands.specs.Telling.{IsToldAnd, tells_want}

-- memory was there, where a reply that the machine has does not tell that it was missing
pub had : {C Z : Type 0} (l : Limits) (c : Command) (reply : the_reply.PortReply (Vec ℕ Z) C) (P : Reply → Type 0)
    → tells_want reply ≡ false → IsToldAnd reply P → IsToldAnd reply (λ r. HadMemory l c r)
had l c (Refused refusals.WantOfMemory) P silent told = absurd (true≢false silent)
had l c (Refused refusals.UnableToCreateDataSegment) P silent told = absurd (true≢false silent)
had l c (Refused refusals.UnknownNumber) P silent told = tt
had l c (Refused refusals.ForeignNumber) P silent told = tt
had l c (Refused refusals.WrongKind) P silent told = tt
had l c (Refused refusals.CallsSpent) P silent told = tt
had l c (Refused refusals.WrongLength) P silent told = tt
had l c (Refused refusals.ExceedsMaxLoanSize) P silent told = tt
had l c (Refused refusals.ExceedsMaxLoans) P silent told = tt
had l c (Refused refusals.OutOfMemory) P silent told = tt
had l c (Refused refusals.ExceedsMaxActiveRequests) P silent told = tt
had l c (Refused refusals.UnableToDeliver) P silent told = tt
had l c (Refused refusals.ExceedsMaxBorrows) P silent told = tt
had l c (Refused refusals.UnableToCreatePortTag) P silent told = tt
had l c (Refused refusals.ExceedsMaxSupportedClients) P silent told = tt
had l c (Refused refusals.ExceedsMaxSupportedServers) P silent told = tt
had l c (Refused other) P silent told = absurd told
had l c reply P silent told = tt

-- a command for which there is no memory is refused so
pub refused_for_want : {Q P H C Z : Type 0} (q : Q → List ℕ) (p : P → List ℕ) (words : H → List ℕ) (old new : HubState)
    (command : the_command.PortCommand (Elements Q P) H) (reply : the_reply.PortReply (Vec ℕ Z) C)
    → reply ≡ Refused (if is_making command then refusals.UnableToCreateDataSegment else refusals.WantOfMemory)
    → LacksMemoryFor q p words old command new → IsApplied q p words old command reply new
refused_for_want q p words old new (commands.Client node id o) reply is lacks =
    subst (λ r. IsApplied q p words old (commands.Client node id o) r new) (sym is) lacks
refused_for_want q p words old new (commands.Server node id o) reply is lacks =
    subst (λ r. IsApplied q p words old (commands.Server node id o) r new) (sym is) lacks
refused_for_want q p words old new command reply is lacks =
    subst (λ r. IsApplied q p words old command r new) (sym is) lacks

-- memory was there for a command that is answered so
pub had_for : {Q P H C Z E : Type 0} (q : Q → List ℕ) (p : P → List ℕ) (words : H → List ℕ) (old new : HubState)
    (command : the_command.PortCommand (Elements Q P) H) (r : Result (the_reply.PortReply (Vec ℕ Z) C) E)
    → IfOk r (λ reply. IsApplied q p words old command reply new) → IfOk r (λ reply. tells_want reply ≡ false)
    → IfOk r (λ reply. HadMemoryFor q p words old command reply)
had_for q p words old new command (Ok reply) whole silent =
    λ x. let (node, asked) = asking (command_for q p words command) in
    had (state_of_hub x old).fixed.limits (Port (command_for q p words command)) reply
    (λ a. IsHubCommand (state_of_hub x old) node asked a (state_of_hub x new)) silent (whole x)
had_for q p words old new command (Err e) whole silent = tt
