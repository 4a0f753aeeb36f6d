-- How the values of a node are released one after another, only for proofs of this crate.
use Rattle.std.specs.Prelude.{ℕ}
use Rattle.iox_model.specs.Services.{Releases, numbers_of_node}
use Rattle.iox_model.specs.States.{State}
use Rattle.iox_tables.specs.HubStates.States.{Given}
use Rattle.iox_hub.specs.Hubs.{HubState, state_of_hub}

-- What releases of all that is left lead to, those of all that was there lead to.
abbrev pub LeadsOn : HubState → HubState → ℕ → Type 0
LeadsOn first now node =
    (x : Given) (t : State)
    → Releases (state_of_hub x now) node (numbers_of_node (state_of_hub x now).fixed node) t
    → Releases (state_of_hub x first) node (numbers_of_node (state_of_hub x first).fixed node) t
