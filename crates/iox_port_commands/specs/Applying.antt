-- What a command of a hub comes to.
use Rattle.std.specs.Prelude.{ℕ, List, IsSome}
use Rattle.std.specs.declared.vec.Vec.{Vec}
use Rattle.iox_model.specs.declared.command.Command.TheVariants.{Port}
use Rattle.iox_model.specs.declared.command.PortCommand as the_command
use Rattle.iox_model.specs.declared.reply.PortReply as the_reply
use Rattle.iox_model.specs.Commands.{Call, HubCommand, Use, asking}
use Rattle.iox_model.specs.Makings.{IsHubCommand}
use Rattle.iox_tables.specs.HubStates.States.{Given}
use Rattle.iox_hub.specs.Hubs.{HubState, state_of_hub}
use Rattle.iox_port_commands.specs.declared.elements.Elements.{Elements}
use Rattle.iox_port_commands.specs.Asking.{command_for}
use Rattle.iox_port_commands.specs.Telling.{IsToldAnd}
use Rattle.iox_port_commands.specs.Memory.{GrowsIfLent, HadMemory, MustGrow, want_of}

-- What the node asks of the hub is answered so, and leaves that hub: it is one command of the
-- machine, whatever there is besides.
abbrev pub IsReplied :
    {C Z : Type 0} → HubState → ℕ → HubCommand → the_reply.PortReply (Vec ℕ Z) C → HubState
    → Type 0
IsReplied old node command reply new =
    (x : Given)
    → IsToldAnd reply (λ r. IsHubCommand (state_of_hub x old) node command r (state_of_hub x new))

-- the same of a call, which is one whole call then
abbrev pub IsCalled :
    {C Z : Type 0} → HubState → ℕ → Call → the_reply.PortReply (Vec ℕ Z) C → HubState → Type 0
IsCalled old node call reply new = IsReplied old node (Use call) reply new

-- the same of a command of the code, where these are the words of elements and handlers
abbrev pub IsApplied :
    {Q P H C Z : Type 0} → (Q → List ℕ) → (P → List ℕ) → (H → List ℕ) → HubState
    → the_command.PortCommand (Elements Q P) H → the_reply.PortReply (Vec ℕ Z) C → HubState → Type 0
IsApplied q p words old command reply new =
    let (node, asked) = asking (command_for q p words command) in IsReplied old node asked reply new

-- ---- memory

-- There is no memory for what the node asks: the machine refuses it so, whatever there is besides.
abbrev pub LacksMemory : HubState → ℕ → HubCommand → HubState → Type 0
LacksMemory old node command new =
    (x : Given)
    → IsHubCommand (state_of_hub x old) node command (want_of command) (state_of_hub x new)

-- the same of a command of the code
abbrev pub LacksMemoryFor :
    {Q P H : Type 0} → (Q → List ℕ) → (P → List ℕ) → (H → List ℕ) → HubState
    → the_command.PortCommand (Elements Q P) H → HubState → Type 0
LacksMemoryFor q p words old command new =
    let (node, asked) = asking (command_for q p words command) in LacksMemory old node asked new

-- A message of so many elements, lent by what the number names for the node, must grow, whatever
-- there is besides.
abbrev pub MustGrowIn : HubState → ℕ → ℕ → ℕ → Type 0
MustGrowIn h node n k = (x : Given) → MustGrow (state_of_hub x h) node n k

-- If a command of the code lends a message, that must grow, whatever there is besides.
abbrev pub GrowsIfLentFor :
    {Q P H : Type 0} → (Q → List ℕ) → (P → List ℕ) → (H → List ℕ) → HubState
    → the_command.PortCommand (Elements Q P) H → Type 0
GrowsIfLentFor q p words h command =
    (x : Given) → GrowsIfLent (state_of_hub x h) (command_for q p words command)

-- Memory was there for a command of the code that is answered so.
abbrev pub HadMemoryFor :
    {Q P H C Z : Type 0} → (Q → List ℕ) → (P → List ℕ) → (H → List ℕ) → HubState
    → the_command.PortCommand (Elements Q P) H → the_reply.PortReply (Vec ℕ Z) C → Type 0
HadMemoryFor q p words h command reply =
    (x : Given)
    → IsToldAnd reply
    (λ r. HadMemory (state_of_hub x h).fixed.limits (Port (command_for q p words command)) r)

-- ---- what messages are made of

-- An element of a request has a default, and so has one of a response.
pub record HaveDefaults (h : HubState) : Type 0 where
  pub request : IsSome h.request.default
  pub response : IsSome h.response.default
