-- A whole call with the same reply, said otherwise.
use Rattle.std.specs.Prelude.{◌≡◌, ℕ}
use Rattle.std.proofs.Common.{subst}
use Rattle.iox_model.specs.Commands.{Call, HubCommand, Reply}
use Rattle.iox_model.specs.Makings.{IsHubCommand}
use Rattle.iox_model.specs.WholeCalls.{IsWholeCall}
use Rattle.iox_tables.specs.HubStates.States.{Given}
use Rattle.iox_hub_laws.specs.Hubs.{HubState, state_of_hub}

pub called_as : (old new : HubState) (node : ℕ) (call : Call) (a b : Reply) → a ≡ b
    → ((x : Given) → IsWholeCall (state_of_hub x old) node call a (state_of_hub x new))
    → (x : Given) → IsWholeCall (state_of_hub x old) node call b (state_of_hub x new)
called_as old new node call a b same whole =
    subst (λ (r : Reply). (x : Given) → IsWholeCall (state_of_hub x old) node call r (state_of_hub x new)) same whole

pub made_as : (old new : HubState) (node : ℕ) (command : HubCommand) (a b : Reply) → a ≡ b
    → ((x : Given) → IsHubCommand (state_of_hub x old) node command a (state_of_hub x new))
    → (x : Given) → IsHubCommand (state_of_hub x old) node command b (state_of_hub x new)
made_as old new node command a b same whole =
    subst (λ (r : Reply). (x : Given) → IsHubCommand (state_of_hub x old) node command r (state_of_hub x new)) same whole
