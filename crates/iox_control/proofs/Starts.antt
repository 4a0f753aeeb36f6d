-- A hub as it starts.
use Rattle.std.specs.Prelude.{◌≡◌}
use Rattle.std.proofs.Common.{arith}
use Rattle.std.proofs.lemmas.Option.{none-some}
use Rattle.iox_model.specs.Runs.{at_rest, raised, untouched}
use Rattle.iox_model.specs.Settings.{Limits}
use Rattle.iox_hub_ports.specs.HubStates.Tables.{HubSettings}
use Rattle.iox_hub_ports.specs.HubStates.States.{Given, limits_of, state_shown}
use Rattle.iox_hub_ports.specs.HubMaking.Starts.{no_ports}
use Rattle.iox_hub_ports.proofs.HubMaking.Starting.{each_start_is_shown}
use Rattle.iox_hub_ports.proofs.HubKeeping.Starting.{starts_are_in_order}
use Rattle.iox_control.specs.Controls.{HaveBuffers, IsControl, new_control}

pub new_is_control : (settings : HubSettings) → HaveBuffers settings → IsControl (new_control settings)
new_is_control settings buffers = record {
  buffers = buffers;
  order = starts_are_in_order settings;
  ports = record { few = λ role. omega arith; most = λ n p there. absurd (none-some p there) };
  counted = record { calls = omega arith; ports = omega arith; numbers = omega arith; loans = tt; deliveries = tt };
  room = omega arith;
  holders = omega arith;
}

pub new_is_shown : (x : Given) (settings : HubSettings) (l : Limits) → limits_of x (no_ports settings) ≡ raised l
    → state_shown x (no_ports settings) ≡ at_rest x.members (untouched l x.acts)
new_is_shown x settings l same = (each_start_is_shown x settings).state l same
