-- How many messages a port needs is told by the settings of its hub.
use Rattle.std.specs.Prelude.{◌≡◌, ℕ, Option}
use Rattle.std.proofs.Common.{ap, ◌∙◌}
use Rattle.iox_types.specs.Layouts.{as_usize}
use Rattle.iox_model.specs.declared.kind.Role.{Role}
use Rattle.iox_model.specs.Commands.{Options}
use Rattle.iox_model.specs.Makings.{worst_pool}
use Rattle.iox_tables.specs.HubStates.Tables.{HubSettings}
use Rattle.iox_tables.specs.HubStates.States.{Given, limits_of}
use Rattle.iox_tables.specs.HubMaking.Starts.{no_ports}
use Rattle.iox_hub.specs.Hubs.{HubState, given_by}

pub pool_here : (h now : HubState) → h ≡ now → (x : Given) (role : Role) (o : Options) (s : HubSettings) (r : Option ℕ)
    → s ≡ h.control.tables.settings
    → ((y : Given) → r ≡ as_usize (worst_pool (limits_of y (no_ports s)) role o))
    → r ≡ as_usize (worst_pool (limits_of (given_by x now) now.control.tables) role o)
pool_here h now view x role o s r same told =
    told (given_by x now)
    ∙ ap (λ u. as_usize (worst_pool (limits_of (given_by x now) (no_ports u)) role o)) (same ∙ ap (λ (k : HubState). k.control.tables.settings) view)
