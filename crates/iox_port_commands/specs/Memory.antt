-- Whether memory was there for a command.
use Rattle.std.specs.Prelude.{◌≡◌, ℕ, ◌<◌, true, IsTrue, Option, Some, ⊤}
use Rattle.std.specs.Option.{IsSomeAnd}
use Rattle.iox_model.specs.declared.command.Command.TheVariants.{Port}
use Rattle.iox_model.specs.declared.command.PortCommand.TheVariants.{Loan, SendCopy}
use Rattle.iox_model.specs.declared.reply.Refusal.TheVariants.{UnableToCreateDataSegment, WantOfMemory}
use Rattle.iox_model.specs.declared.reply.Reply.TheVariants.{Refused}
use Rattle.iox_model.specs.Commands.{Command, Create, HubCommand, PortCommand, Reply, Use, asking}
use Rattle.iox_model.specs.Handles.{Subject, ThePort, TheHandle, subject}
use Rattle.iox_model.specs.Makings.{is_large}
use Rattle.iox_model.specs.Peers.{port_at}
use Rattle.iox_model.specs.Settings.{Limits}
use Rattle.iox_model.specs.States.{Fixed, State}
use Rattle.iox_model.specs.States as m

-- the command makes a port that is too large
abbrev pub IsTooLarge : Limits → HubCommand → Type 0
IsTooLarge l (Create role id o) = IsTrue (is_large l role o)
IsTooLarge l (Use call) = ⊥

-- Memory was there: no reply tells that it was missing, and no port is refused its data segment but
-- one that is too large.
abbrev pub HadMemory : Limits → Command → Reply → Type 0
HadMemory l command (Refused WantOfMemory) = ⊥
HadMemory l (Port command) (Refused UnableToCreateDataSegment) = IsTooLarge l (asking command).1
HadMemory l command reply = ⊤

-- the port that lends by what a number names: a client, or the server of an active request
abbrev pub lender_by : Fixed → Subject → Option m.Port
lender_by f (ThePort p) = Some p
lender_by f (TheHandle h) = port_at f h.port

-- By what the number names for the node, a port lends whose messages grow, and so many elements are
-- more than its messages have from the start.
pub record MustGrow (s : State) (node n k : ℕ) : Type 0 where
  pub who : Subject
  pub named : subject s.fixed node n ≡ Some who
  pub port : m.Port
  pub lends : lender_by s.fixed who ≡ Some port
  pub grows : port.grows ≡ true
  pub longer : port.longest < k

-- if the command lends a message, that must grow
abbrev pub GrowsIfLent : State → PortCommand → Type 0
GrowsIfLent s (Loan node n k) = MustGrow s node n k
GrowsIfLent s (SendCopy node n payload) = IsSomeAnd payload.elements (MustGrow s node n)
GrowsIfLent s command = ⊤

-- how the machine refuses a hub's command where memory is missing
abbrev pub want_of : HubCommand → Reply
want_of (Create role id o) = Refused UnableToCreateDataSegment
want_of (Use call) = Refused WantOfMemory
