-- The commands and replies of the code as those of the machine.
use Rattle.std.specs.Prelude.{ℕ, Bool, true, false, List, Option, Result, Ok, Err}
use Rattle.std.specs.Option.{option_map}
use Rattle.std.specs.declared.vec.Vec.{Vec}
use Rattle.iox_types.specs.declared.identifiers.system_id.UniqueSystemId.{UniqueSystemId}
use Rattle.iox_model.specs.declared.command.Command as the_command
use Rattle.iox_model.specs.declared.command.Command.TheVariants as commands
use Rattle.iox_model.specs.declared.command.PortCommand as the_port_command
use Rattle.iox_model.specs.declared.command.PortCommand.TheVariants as ports
use Rattle.iox_model.specs.declared.reply.Refusal as the_refusal
use Rattle.iox_model.specs.declared.reply.PortReply as the_port_reply
use Rattle.iox_model.specs.declared.reply.PortReply.TheVariants as port_replies
use Rattle.iox_model.specs.declared.reply.Reply as the_reply
use Rattle.iox_model.specs.declared.reply.Reply.TheVariants as replies
use Rattle.iox_model.specs.Commands.{Cause, Command, Reply}
use Rattle.iox_openers.specs.Causes.{with_cause}
use Rattle.iox_port_commands.specs.Asking.{command_for}
use Rattle.iox_port_commands.specs.declared.elements.Elements.{Elements}

-- a command as the machine has it, where these are the words of an element of a request and of a
-- response, and of a handler, and these the causes of attributes
abbrev pub command_given :
    {Q P H C : Type 0} → (Q → List ℕ) → (P → List ℕ) → (H → List ℕ) → (C → Cause)
    → the_command.Command (Elements Q P) H (Option (the_refusal.Refusal C)) → Command
command_given q p words cause (commands.Join id asked) =
    commands.Join id (option_map (with_cause cause) asked)
command_given q p words cause (commands.Port c) = commands.Port (command_for q p words c)
command_given q p words cause (commands.Leave node) = commands.Leave node
command_given q p words cause (commands.DeclareDead node) = commands.DeclareDead node
command_given q p words cause (commands.Cleanup node) = commands.Cleanup node
command_given q p words cause commands.ListNodes = commands.ListNodes
command_given q p words cause commands.ListClients = commands.ListClients
command_given q p words cause commands.ListServers = commands.ListServers

-- a reply as the machine has it
abbrev pub reply_given : {C Z : Type 0} → (C → Cause) → the_reply.Reply (Vec ℕ Z) C → Reply
reply_given cause (replies.Node n) = replies.Node n
reply_given cause (replies.Client n) = replies.Client n
reply_given cause (replies.Server n) = replies.Server n
reply_given cause (replies.Handle n) = replies.Handle n
reply_given cause (replies.Sent count) = replies.Sent count
reply_given cause replies.Done = replies.Done
reply_given cause replies.Nothing = replies.Nothing
reply_given cause (replies.Words words) = replies.Words words.items
reply_given cause (replies.Answer told) = replies.Answer told
reply_given cause (replies.Listed numbers) = replies.Listed numbers.items
reply_given cause (replies.Refused r) = replies.Refused (with_cause cause r)

-- whether the command asks for a list of numbers
abbrev pub is_listing : {E H V : Type 0} → the_command.Command E H V → Bool
is_listing commands.ListNodes = true
is_listing commands.ListClients = true
is_listing commands.ListServers = true
is_listing command = false

-- ---- only for proofs of this crate

-- what a hub answers, as its service answers it
abbrev pub reply_of : {L C : Type 0} → the_port_reply.PortReply L C → the_reply.Reply L C
reply_of (port_replies.Client n) = replies.Client n
reply_of (port_replies.Server n) = replies.Server n
reply_of (port_replies.Handle n) = replies.Handle n
reply_of (port_replies.Sent count) = replies.Sent count
reply_of port_replies.Done = replies.Done
reply_of port_replies.Nothing = replies.Nothing
reply_of (port_replies.Words words) = replies.Words words
reply_of (port_replies.Answer told) = replies.Answer told
reply_of (port_replies.Refused r) = replies.Refused r

-- the refusal, or the reply to what was done
abbrev pub reply_to :
    {L C X : Type 0} → (X → the_reply.Reply L C) → Result X (the_refusal.Refusal C)
    → the_reply.Reply L C
reply_to reply (Ok x) = reply x
reply_to reply (Err r) = replies.Refused r

-- the node that asks
abbrev pub asker : {E H : Type 0} → the_port_command.PortCommand E H → ℕ
asker (ports.Client node id o) = node
asker (ports.Server node id o) = node
asker (ports.Loan node n k) = node
asker (ports.Write node n e) = node
asker (ports.Send node n) = node
asker (ports.SendCopy node n e) = node
asker (ports.Receive node n) = node
asker (ports.Read node n) = node
asker (ports.Release node n) = node
asker (ports.IsConnected node n) = node
asker (ports.SetHint node n) = node
asker (ports.HasHint node n) = node
asker (ports.HasRequests node n) = node
asker (ports.HasResponse node n) = node

-- the command with the id of its node
abbrev pub with_id :
    {E H : Type 0} → UniqueSystemId → the_port_command.PortCommand E H
    → the_port_command.PortCommand E H
with_id own (ports.Client node id o) = ports.Client node own o
with_id own (ports.Server node id o) = ports.Server node own o
with_id own command = command
