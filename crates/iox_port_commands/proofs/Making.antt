-- Makings that lack memory, and options of the code.
use Rattle.std.specs.Prelude.{◌≡◌, ℕ}
use Rattle.std.proofs.Common.{subst}
use Rattle.iox_types.specs.declared.identifiers.system_id.UniqueSystemId.{UniqueSystemId}
use Rattle.iox_model.specs.declared.kind.Role.{Role}
use Rattle.iox_model.specs.declared.reply.Reply.TheVariants.{Refused}
use Rattle.iox_model.specs.Commands.{Create, Options}
use Rattle.iox_model.specs.Makings.{IsHubCommand}
use Rattle.iox_tables.specs.HubStates.States.{Given}
use Rattle.iox_hub.specs.NotMade.{NotMade}
use Rattle.iox_hub.specs.NotMade.TheVariants.{DataSegment}
use Rattle.iox_hub.specs.MadePorts.{refusal_of}
use Rattle.iox_hub.specs.Hubs.{HubState, state_of_hub}
use Rattle.iox_port_commands.specs.Applying.{LacksMemory}

-- a port that gets no data segment lacks memory
pub wanting : (old new : HubState) (node : ℕ) (role : Role) (id : UniqueSystemId) (o : Options) (reason : NotMade) → reason ≡ DataSegment
    → ((x : Given) → IsHubCommand (state_of_hub x old) node (Create role id o) (Refused (refusal_of role reason)) (state_of_hub x new))
    → LacksMemory old node (Create role id o) new
wanting old new node role id o reason is whole x =
    subst (λ (r : NotMade). IsHubCommand (state_of_hub x old) node (Create role id o) (Refused (refusal_of role r)) (state_of_hub x new)) is (whole x)
