-- A command leaves the limits of a service, and with them the shapes of messages, as they are.
use Rattle.std.specs.Prelude.{◌≡◌, ℕ, List, refl}
use Rattle.std.proofs.Common.{ap}
use Rattle.iox_model.specs.Commands.{HubCommand, Reply}
use Rattle.iox_model.specs.Makings.{IsHubCommand}
use Rattle.iox_model.specs.Settings.{Limits}
use Rattle.iox_model.specs.States.{Port, State}
use Rattle.iox_laws.proofs.WeaveWorlds.Inductions.{port_command_keeps}
use Rattle.iox_laws.proofs.WeaveWorlds.PortsKept.{IsSteady, is_kept}
use Rattle.iox_tables.specs.HubStates.States.{Given}
use Rattle.iox_hub.specs.Hubs.{HubState, state_of_hub}
use Rattle.iox_hub.specs.Keeping.{HaveSameShapes}

-- ---- limits, of which the shapes are two

module _ (limits : Limits) where
  abbrev HasThem : Limits → List Port → ℕ → Type 0
  HasThem l ps n = l ≡ limits

  has_them_steady : IsSteady HasThem
  has_them_steady = record {
    numbers = λ l ps n p. p;
    filters = λ l ps n keep p. p;
    drops = λ l ps n port p. p;
  }

  kept : (s : State) (node : ℕ) (command : HubCommand) (reply : Reply) (t : State) → s.fixed.limits ≡ limits
      → IsHubCommand s node command reply t → t.fixed.limits ≡ limits
  kept s node command reply t is whole =
      port_command_keeps (λ x. x.fixed.limits ≡ limits)
      (is_kept HasThem has_them_steady (λ f a role id o memory allowed p. p)) s node command reply t is whole

pub limits_stay : (s : State) (node : ℕ) (command : HubCommand) (reply : Reply) (t : State)
    → IsHubCommand s node command reply t → t.fixed.limits ≡ s.fixed.limits
limits_stay s node command reply t whole = kept s.fixed.limits s node command reply t refl whole

-- ---- of a hub

pub shapes_of_limits : (x : Given) (old new : HubState)
    → (state_of_hub x new).fixed.limits ≡ (state_of_hub x old).fixed.limits → HaveSameShapes old new
shapes_of_limits x old new same = record {
  request = ap (λ (l : Limits). l.request) same;
  response = ap (λ (l : Limits). l.response) same;
}

-- after the machine's command, whatever there is besides
pub command_shapes : (x : Given) (old new : HubState) (node : ℕ) (command : HubCommand) (reply : Reply)
    → IsHubCommand (state_of_hub x old) node command reply (state_of_hub x new) → HaveSameShapes old new
command_shapes x old new node command reply whole =
    shapes_of_limits x old new (limits_stay (state_of_hub x old) node command reply (state_of_hub x new) whole)
