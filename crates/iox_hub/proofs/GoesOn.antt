-- A whole call of the tables is one of the hub, and leads to a hub.
use Rattle.std.specs.Prelude.{ℕ}
use Rattle.iox_model.specs.Commands.{Call, Reply, Use}
use Rattle.iox_model.specs.Runs.{OfHub}
use Rattle.iox_model.specs.WholeCalls.{IsWholeCall}
use Rattle.iox_laws.proofs.WeaveWorlds.Inductions.{step_is_reached}
use Rattle.iox_tables.specs.HubStates.States.{Given, state_shown}
use Rattle.iox_control.specs.Controls.{ControlState, IsControl}
use Rattle.iox_hub.specs.Fits.{WordsFit}
use Rattle.iox_hub.specs.Hubs.{HubState, IsHub, given_by, many_in, state_of_hub, with_control}

module _ (h : HubState) (c : ControlState) (node : ℕ) (call : Call) (reply : Reply) where
  abbrev pub IsWhole : Type 0
  IsWhole = (x : Given) → IsWholeCall (state_shown x h.control.tables) node call reply (state_shown x c.tables)

  pub hub_goes_on : IsHub h → IsControl c → WordsFit (many_in h) h.words c.tables → IsWhole → IsHub (with_control h c)
  hub_goes_on hub order fit whole =
      let (x, reached) = hub.reached in record {
        control = order;
        words = fit;
        reached = (x, step_is_reached (state_of_hub x h) (state_of_hub x (with_control h c)) (OfHub node (Use call) reply) reached (whole (given_by x h)));
      }

-- it is one of the hub
pub whole_of_hub : {h : HubState} → IsHub h → (c : ControlState) (node : ℕ) (call : Call) (reply : Reply) → IsWhole h c node call reply
    → (x : Given) → IsWholeCall (state_of_hub x h) node call reply (state_of_hub x (with_control h c))
whole_of_hub {h} hub c node call reply whole x = whole (given_by x h)
