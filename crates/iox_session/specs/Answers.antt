-- How a script's commands and replies stand for the machine's.
use Rattle.std.specs.Prelude.{ℕ, if◌then◌else◌, List, length, Option, Some, None}
use Rattle.std.specs.declared.convert.Infallible.{Infallible}
use Rattle.iox_model.specs.declared.command.Command.TheVariants.{Join, Port}
use Rattle.iox_model.specs.declared.command.PortCommand.TheVariants as ports
use Rattle.iox_model.specs.declared.kind.Kind.TheVariants.{ActiveRequest}
use Rattle.iox_model.specs.declared.kind.Role.TheVariants.{Client, Server}
use Rattle.iox_model.specs.declared.reply.Reply.TheVariants as replies
use Rattle.iox_model.specs.Commands as machine
use Rattle.iox_model.specs.Commands.{Cause, Command, Payload, Reply}
use Rattle.iox_model.specs.Handles.{has}
use Rattle.iox_model.specs.States.{State}
use Rattle.iox_nodes.specs.Lending.{payload_of}
use Rattle.iox_openers.specs.Causes.{with_cause}
use Rattle.iox_script.specs.Commands.{Options, ServiceCommand, ServiceReply}

-- ---- commands

-- the options of a port; a script sets no handler
abbrev pub options_given : Options → machine.Options
options_given o = record {
  max_slice_len = o.max_slice_len;
  pool = o.pool;
  strategy = o.strategy;
  allocation = o.allocation;
  loaned_responses = o.loaned_responses;
  handler = None;
}

-- the words that are sent through the node's port or handle of that number: through an active
-- request those of a response, else those of a request
abbrev pub payload_given : State → ℕ → ℕ → List ℕ → Payload
payload_given s node n words =
    payload_of (if has s.fixed node n ActiveRequest then Server else Client) (length words) words

-- what a line asks of the service, as a command of the machine; no line asks anything else
abbrev pub command_asked : State → ServiceCommand → Option Command
command_asked s (Join id asked) = Some (Join id None)
command_asked s (Port (ports.Client node id o)) =
    Some (Port (ports.Client node id (options_given o)))
command_asked s (Port (ports.Server node id o)) =
    Some (Port (ports.Server node id (options_given o)))
command_asked s (Port (ports.SendCopy node n words)) =
    Some (Port (ports.SendCopy node n (payload_given s node n words)))
command_asked s (Port (ports.Receive node n)) = Some (Port (ports.Receive node n))
command_asked s (Port (ports.Read node n)) = Some (Port (ports.Read node n))
command_asked s command = None

-- ---- replies

-- a script's service has no attributes that could be missed
abbrev pub no_cause : Infallible → Cause
no_cause cause = elim cause [ ]

-- the same reply
abbrev pub reply_given : ServiceReply → Reply
reply_given (replies.Node n) = replies.Node n
reply_given (replies.Client n) = replies.Client n
reply_given (replies.Server n) = replies.Server n
reply_given (replies.Handle n) = replies.Handle n
reply_given (replies.Sent count) = replies.Sent count
reply_given replies.Done = replies.Done
reply_given replies.Nothing = replies.Nothing
reply_given (replies.Words words) = replies.Words words
reply_given (replies.Answer told) = replies.Answer told
reply_given (replies.Listed numbers) = replies.Listed numbers
reply_given (replies.Refused r) = replies.Refused (with_cause no_cause r)
