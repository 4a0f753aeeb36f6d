-- What worked runs are made of: a service with two nodes, a client of the first, a server of the
-- second.
use Rattle.std.specs.Prelude.{ℕ, List, [], ◌∷◌, Some, None}
use Rattle.iox_model.specs.declared.kind.Role.TheVariants.{Client, Server}
use Rattle.iox_model.specs.UniqueSystemId.{UniqueSystemId}
use Rattle.iox_model.specs.declared.command.PortCommand.TheVariants as asks
use Rattle.iox_model.specs.declared.command.Command.TheVariants.{Port}
use Rattle.iox_model.specs.declared.command.Command.TheVariants as commands
use Rattle.iox_model.specs.declared.reply.Reply.TheVariants as replies
use Rattle.iox_model.specs.Runs.{created, IsRun}
use Rattle.iox_model.specs.Defaults.{follow}
use Rattle.iox_model.specs.Settings.{Limits}
use Rattle.iox_model.specs.States.{State}
use Rattle.iox_model.specs.Commands.{Reply, Options, Command, Payload}

-- the options of a port whose messages have at most one element; nothing else is chosen
abbrev pub of_length_one : Options
of_length_one = record {
  max_slice_len = 1;
  pool = None;
  strategy = None;
  allocation = None;
  loaned_responses = None;
  handler = None;
}

-- the id of a process
abbrev pub process : ℕ → UniqueSystemId
process n = record { process = n; seconds = 0; nanoseconds = 0; counter = 0 }

-- a service with no handlers
abbrev pub service : Limits → State
service l = created l follow (process 1)

-- the payload of a request that is this one word
abbrev pub request_saying : ℕ → Payload
request_saying w = record { role = Client; elements = Some 1; words = w ∷ [] }

-- the payload of a response that is this one word
abbrev pub a_response : ℕ → Payload
a_response w = record { role = Server; elements = Some 1; words = w ∷ [] }

-- the commands that make node 1, client 0 of node 0 and server 1 of node 1, and then these
abbrev pub set_up : List Command → List Command
set_up rest =
    commands.Join (process 2) None
    ∷ Port (asks.Client 0 (process 0) of_length_one)
    ∷ Port (asks.Server 1 (process 0) of_length_one) ∷ rest

-- the replies to the commands that make them, and then these
abbrev pub is_set_up : List Reply → List Reply
is_set_up rest = replies.Node 1 ∷ replies.Client 0 ∷ replies.Server 1 ∷ rest

-- commands of a service with these limits, and their replies
pub record Example : Type 0 where
  pub limits : Limits
  pub commands : List Command
  pub replies : List Reply

-- the commands may have these replies
abbrev pub IsWorked : Example → Type 0
IsWorked x = (s : State) × IsRun (service x.limits) (set_up x.commands) (is_set_up x.replies) s
