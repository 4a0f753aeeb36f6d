-- The tables of a hub in which no port was made yet.
use Rattle.std.specs.Prelude.{◌≡◌, ℕ, []}
use Rattle.iox_model.specs.Runs.{at_rest, raised, untouched}
use Rattle.iox_model.specs.Settings.{Limits}
use Rattle.iox_tables.specs.HubStates.Tables.{HubSettings, HubTables}
use Rattle.iox_tables.specs.HubStates.States.{Given, limits_of, state_shown}
use Rattle.iox_tables.specs.HubMaking.FreePools.{NobodyHas}
use Rattle.iox_tables.specs.HubMaking.OneByOne.{HaveRoom}
use Rattle.iox_tables.specs.HubMaking.Wires.{AreConnected}

-- no port was made, and nothing was called
abbrev pub no_ports : HubSettings → HubTables
no_ports settings = record {
  settings = settings;
  calls = 0;
  next_number = 0;
  ports_made = 0;
  ports = [];
  handles = [];
  pools = [];
}

-- It shows the state of the machine in which nobody made anything yet, and all that is so between
-- calls is so.
pub record StartIsShown (x : Given) (settings : HubSettings) : Type 0 where
  pub state :
      (l : Limits) → limits_of x (no_ports settings) ≡ raised l
      → state_shown x (no_ports settings) ≡ at_rest x.members (untouched l x.acts)
  pub connected : AreConnected (no_ports settings)
  pub room : HaveRoom (no_ports settings)
  pub free : (place : ℕ) → NobodyHas (no_ports settings) place

-- The tables with no port show the machine's first state, whatever the settings are.
abbrev pub EachStartIsShown : Type 0
EachStartIsShown = (x : Given) (settings : HubSettings) → StartIsShown x settings
