-- Whether request states name a request.
use Rattle.std.specs.Prelude.{ℕ, Bool, false, if◌then◌else◌}
use Rattle.iox_lanes.specs.declared.wanted.Label.{Label}
use Rattle.iox_model.specs.Messages.{response_way}
use Rattle.iox_model.specs.Settings.{is_client}
use Rattle.iox_hub_ports.specs.declared.info.PortInfo.{PortInfo}
use Rattle.iox_tables.specs.HubStates.Tables.{HubTables}
use Rattle.iox_tables.specs.HubLoans.Questions.{names_request, state_of}

-- the port is a server, and its request state on the client's lane names the request, with a hint
-- if that is asked
abbrev pub is_named_with : HubTables → ℕ → Label → Bool → PortInfo → Bool
is_named_with t client label hinted port =
    if is_client port.role then false
    else names_request hinted label.request
    (state_of t (response_way client label.lane port.number))
