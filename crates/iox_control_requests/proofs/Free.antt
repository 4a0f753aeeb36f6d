-- The ways that get a message are those that pass a test.
use Rattle.std.specs.Prelude.{◌≡◌, Bool, true, false, not, ◌||◌, List, [], ◌∷◌, filter, refl}
use Rattle.std.proofs.Common.{sym, ap}
use Rattle.iox_model.specs.declared.way.Way.{Way}
use Rattle.iox_tables.specs.HubStates.Tables.{PortState}
use Rattle.iox_tables.specs.HubStates.Ways.{lane_on}
use Rattle.iox_control_requests.specs.Deliveries.{ways_that_get}
use Rattle.iox_control_requests.specs.Servers.{is_full_on}
use Rattle.iox_hub_phases.proofs.Free.{free_is}

-- whether a way gets the message
abbrev pub gets : Bool → List PortState → Way → Bool
gets overflow ports w = overflow || not (is_full_on ports w)

all_pass : (ws : List Way) → filter (λ w. true) ws ≡ ws
all_pass [] = refl
all_pass (w ∷ ws) = ap (λ vs. w ∷ vs) (all_pass ws)

pub gets_are : (overflow : Bool) (ports : List PortState) (ws : List Way) → filter (gets overflow ports) ws ≡ ways_that_get overflow ports ws
gets_are true ports ws = all_pass ws
gets_are false ports ws = sym (free_is (lane_on ports) ws)
