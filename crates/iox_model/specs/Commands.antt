-- What the machine is asked and what it answers: the enums of the code, with lists of words.
use Rattle.iox_model.specs.declared.call.Call as the_call
use Rattle.iox_model.specs.declared.call.WireCall as the_wire_call
use Rattle.iox_model.specs.declared.command.PortOptions as the_options
use Rattle.iox_model.specs.declared.command.PortCommand as the_port_command
use Rattle.iox_model.specs.declared.command.PortCommand.TheVariants as port_commands
use Rattle.iox_model.specs.declared.command.Command as the_command
use Rattle.iox_model.specs.declared.reply.Refusal as the_refusal
use Rattle.iox_model.specs.declared.reply.PortReply as the_port_reply
use Rattle.iox_model.specs.declared.reply.PortReply.TheVariants as port_replies
use Rattle.iox_model.specs.declared.reply.Reply as the_reply
use Rattle.iox_model.specs.declared.reply.Reply.TheVariants as replies
use Rattle.std.specs.Prelude.{ℕ, List, Option}
use Rattle.iox_types.specs.declared.identifiers.system_id.UniqueSystemId.{UniqueSystemId}
use Rattle.iox_model.specs.declared.kind.Role.{Role}
use Rattle.iox_model.specs.declared.kind.Role.TheVariants.{Client, Server}
use Rattle.iox_model.specs.declared.call.Call.TheVariants.{Loan, LoanUninit, Write, Send, SendCopy, Receive, Read, Release, IsConnected, SetHint, HasHint, HasRequests, HasResponse}

-- The payload of a call: of which role's messages, how many elements (None for no whole number of
-- them), and the words. Elements may have no words, so their number is not known from the words.
pub record Payload : Type 0 where
  pub role : Role
  pub elements : Option ℕ
  pub words : List ℕ

-- Which attribute an opener misses: a pair that it requires, or a key.
pub data Cause : Type 0 where
  MissingPair : (key value : List ℕ) → Cause
  MissingKey : (key : List ℕ) → Cause

-- a refusal, with the attribute that an opener misses
abbrev pub Refusal : Type 0
Refusal = the_refusal.Refusal Cause

-- a reply of a service, whose lists are of numbers
abbrev pub Reply : Type 0
Reply = the_reply.Reply (List ℕ) Cause

-- a reply of a hub, whose lists are of words
abbrev pub PortReply : Type 0
PortReply = the_port_reply.PortReply (List ℕ) Cause

-- a call of a port or handle, with its payload
abbrev pub Call : Type 0
Call = the_call.Call Payload

-- a call of a node of a wire, with its payload
abbrev pub WireCall : Type 0
WireCall = the_wire_call.WireCall Payload

-- the options with which a port is made; a backpressure handler is given by its words
abbrev pub Options : Type 0
Options = the_options.PortOptions (List ℕ)

-- a command of a hub
abbrev pub PortCommand : Type 0
PortCommand = the_port_command.PortCommand Payload (List ℕ)

-- A command of a service. Its `Option Refusal` is the first of the opener's tests that fails, if
-- one does: types of requests, types of responses, attributes.
abbrev pub Command : Type 0
Command = the_command.Command Payload (List ℕ) (Option Refusal)

-- ---- commands of a hub, more shortly

-- A command of a hub: it makes a port, or calls a port or a handle.
pub data HubCommand : Type 0 where
  Create : (role : Role) (id : UniqueSystemId) (options : Options) → HubCommand
  Use : (call : Call) → HubCommand

-- the node that asks, and what it asks
abbrev pub asking : PortCommand → ℕ × HubCommand
asking (port_commands.Client node id o) = (node, Create Client id o)
asking (port_commands.Server node id o) = (node, Create Server id o)
asking (port_commands.Loan node n k) = (node, Use (Loan n k))
asking (port_commands.Write node n p) = (node, Use (Write n p))
asking (port_commands.Send node n) = (node, Use (Send n))
asking (port_commands.SendCopy node n p) = (node, Use (SendCopy n p))
asking (port_commands.Receive node n) = (node, Use (Receive n))
asking (port_commands.Read node n) = (node, Use (Read n))
asking (port_commands.Release node n) = (node, Use (Release n))
asking (port_commands.IsConnected node n) = (node, Use (IsConnected n))
asking (port_commands.SetHint node n) = (node, Use (SetHint n))
asking (port_commands.HasHint node n) = (node, Use (HasHint n))
asking (port_commands.HasRequests node n) = (node, Use (HasRequests n))
asking (port_commands.HasResponse node n) = (node, Use (HasResponse n))

-- what a hub answers is what its service answers
abbrev pub answer_of : PortReply → Reply
answer_of (port_replies.Client n) = replies.Client n
answer_of (port_replies.Server n) = replies.Server n
answer_of (port_replies.Handle n) = replies.Handle n
answer_of (port_replies.Sent count) = replies.Sent count
answer_of port_replies.Done = replies.Done
answer_of port_replies.Nothing = replies.Nothing
answer_of (port_replies.Words words) = replies.Words words
answer_of (port_replies.Answer told) = replies.Answer told
answer_of (port_replies.Refused r) = replies.Refused r

-- ---- calls

-- the number of the port or handle that a call names
abbrev pub number_of : Call → ℕ
number_of (Loan n k) = n
number_of (LoanUninit n k) = n
number_of (Write n p) = n
number_of (Send n) = n
number_of (SendCopy n p) = n
number_of (Receive n) = n
number_of (Read n) = n
number_of (Release n) = n
number_of (IsConnected n) = n
number_of (SetHint n) = n
number_of (HasHint n) = n
number_of (HasRequests n) = n
number_of (HasResponse n) = n
