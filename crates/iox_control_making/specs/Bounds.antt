-- How many lanes there are between ports, and how many handles may come, by roles and sizes only.
use Rattle.std.specs.Prelude.{◌≡◌, ℕ, ◌+◌, ◌*◌, ◌≤◌, if◌then◌else◌, List, length}
use Rattle.iox_model.specs.declared.kind.Role.{Role}
use Rattle.iox_model.specs.declared.kind.Role.TheVariants.{Client, Server}
use Rattle.iox_model.specs.Settings.{same_role}
use Rattle.iox_tables.specs.HubStates.Tables.{HubSettings, HubTables, PortState}
use Rattle.iox_tables.specs.HubStates.Wirings.{numbers_of_role}
use Rattle.iox_tables.specs.HubBooks.Counts.{on_lanes, total}
use Rattle.iox_tables.specs.HubBooks.Hubs.{AreInOrder}
use Rattle.iox_tables.specs.HubBooks.Rooms.{may_come}
use Rattle.iox_tables.specs.HubMaking.NewPorts.{width_of}

-- how many ports there are of that role
abbrev pub count_of : Role → List PortState → ℕ
count_of role ports = length (numbers_of_role role ports)

-- how many messages the ports of that role have
abbrev pub sizes_of : Role → List PortState → ℕ
sizes_of role ports = total (λ p. if same_role p.role role then p.size else 0) ports

-- how many lanes pipes from ports that are gone have, which lead to ports of that role
abbrev pub kept_of : Role → List PortState → ℕ
kept_of role ports =
    total (λ p. if same_role p.role role then length p.expired.pipes * width_of p else 0) ports

-- how many lanes there are between the ports: from each server one to each message of a client, and
-- one back
abbrev pub lanes_between : List PortState → ℕ
lanes_between ports = count_of Server ports * (sizes_of Client ports + count_of Client ports)

-- how many lanes lead to the ports: those between them, and those from ports that are gone
abbrev pub lanes_to : List PortState → ℕ
lanes_to ports = lanes_between ports + (kept_of Client ports + kept_of Server ports)

-- the most handles that these ports may have: of each message that may be received on a lane, and
-- of each of their own
abbrev pub most_handles : HubSettings → List PortState → ℕ
most_handles settings ports =
    count_of Server ports
    * (sizes_of Client ports * settings.borrowed_responses
    + count_of Client ports * settings.active_requests)
    + (kept_of Client ports * settings.borrowed_responses
    + kept_of Server ports * settings.active_requests)
    + (sizes_of Client ports + sizes_of Server ports)

-- There are as many lanes as that.
abbrev pub LanesAreCounted : Type 0
LanesAreCounted =
    (t : HubTables) → AreInOrder t → on_lanes (λ l. 1) t.ports ≡ lanes_to t.ports

-- No more handles may come than that.
abbrev pub NoMoreMayCome : Type 0
NoMoreMayCome =
    (t : HubTables) → AreInOrder t → may_come t ≤ most_handles t.settings t.ports
