-- What a service is asked in a script and what it answers: the enums of its code, with lists of numbers.
use Rattle.std.specs.Prelude.{ℕ, List}
use Rattle.iox_model.specs.declared.command.PortOptions as the_options
use Rattle.iox_model.specs.declared.command.PortCommand as the_port_command
use Rattle.iox_model.specs.declared.command.Command as the_command
use Rattle.iox_model.specs.declared.reply.Refusal as the_refusal
use Rattle.iox_model.specs.declared.reply.Reply as the_reply
use Rattle.std.specs.declared.convert.Infallible.{Infallible}

-- what a port is made with; there are no handlers
abbrev pub Options : Type 0
Options = the_options.PortOptions Infallible

-- a command of a port or a handle
abbrev pub PortCommand : Type 0
PortCommand = the_port_command.PortCommand (List ℕ) Infallible

-- a command; who opens the service asks nothing of types and attributes
abbrev pub ServiceCommand : Type 0
ServiceCommand = the_command.Command (List ℕ) Infallible (Unit {0})

-- why a command is refused
abbrev pub ServiceRefusal : Type 0
ServiceRefusal = the_refusal.Refusal Infallible

-- what a command is answered
abbrev pub ServiceReply : Type 0
ServiceReply = the_reply.Reply (List ℕ) Infallible
