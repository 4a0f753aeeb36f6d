-- The commands of the code as those of the machine.
use Rattle.std.specs.Prelude.{ℕ, Bool, true, false, List, flat_map, length}
use Rattle.std.specs.Option.{option_map}
use Rattle.iox_model.specs.declared.command.PortCommand as the_command
use Rattle.iox_model.specs.declared.command.PortCommand.TheVariants as commands
use Rattle.iox_model.specs.declared.command.PortOptions as the_options
use Rattle.iox_model.specs.declared.kind.Role.TheVariants as roles
use Rattle.iox_model.specs.Commands.{Options, Payload, PortCommand}
use Rattle.iox_hub.specs.Lending.{payload_of}
use Rattle.iox_port_commands.specs.declared.elements.Elements.{Elements}
use Rattle.iox_port_commands.specs.declared.elements.Elements.TheVariants.{Requests, Responses}

-- elements as a payload of the machine, where these are the words of an element of a request and of
-- a response
abbrev pub payload_for : {Q P : Type 0} → (Q → List ℕ) → (P → List ℕ) → Elements Q P → Payload
payload_for q p (Requests values) =
    payload_of roles.Client (length values.items) (flat_map q values.items)
payload_for q p (Responses values) =
    payload_of roles.Server (length values.items) (flat_map p values.items)

-- options as those of the machine, where these are the words of a handler
abbrev pub options_for : {H : Type 0} → (H → List ℕ) → the_options.PortOptions H → Options
options_for words o = record {
  max_slice_len = o.max_slice_len;
  pool = o.pool;
  strategy = o.strategy;
  allocation = o.allocation;
  loaned_responses = o.loaned_responses;
  handler = option_map words o.handler;
}

-- a command as the machine has it
abbrev pub command_for :
    {Q P H : Type 0} → (Q → List ℕ) → (P → List ℕ) → (H → List ℕ)
    → the_command.PortCommand (Elements Q P) H → PortCommand
command_for q p words (commands.Client node id o) = commands.Client node id (options_for words o)
command_for q p words (commands.Server node id o) = commands.Server node id (options_for words o)
command_for q p words (commands.Loan node n k) = commands.Loan node n k
command_for q p words (commands.Write node n e) = commands.Write node n (payload_for q p e)
command_for q p words (commands.Send node n) = commands.Send node n
command_for q p words (commands.SendCopy node n e) = commands.SendCopy node n (payload_for q p e)
command_for q p words (commands.Receive node n) = commands.Receive node n
command_for q p words (commands.Read node n) = commands.Read node n
command_for q p words (commands.Release node n) = commands.Release node n
command_for q p words (commands.IsConnected node n) = commands.IsConnected node n
command_for q p words (commands.SetHint node n) = commands.SetHint node n
command_for q p words (commands.HasHint node n) = commands.HasHint node n
command_for q p words (commands.HasRequests node n) = commands.HasRequests node n
command_for q p words (commands.HasResponse node n) = commands.HasResponse node n

-- whether the command reads a message
abbrev pub is_read : {E H : Type 0} → the_command.PortCommand E H → Bool
is_read (commands.Read node n) = true
is_read command = false

-- whether the command takes memory, but for that of a port: what is read, and a message that grows
abbrev pub takes_memory : {E H : Type 0} → the_command.PortCommand E H → Bool
takes_memory (commands.Read node n) = true
takes_memory (commands.Loan node n k) = true
takes_memory (commands.SendCopy node n e) = true
takes_memory command = false

-- whether the command makes a port
abbrev pub is_making : {E H : Type 0} → the_command.PortCommand E H → Bool
is_making (commands.Client node id o) = true
is_making (commands.Server node id o) = true
is_making command = false
