-- How many calls of a hub are counted.
use Rattle.std.specs.Prelude.{◌<◌, ◌^◌}
use Rattle.iox_hub_laws.specs.Hubs.{HubState}

-- One more call is counted: of the loans, sends and receives that were not refused, it counts fewer
-- than 2^56.
abbrev pub HasCallsLeft : HubState → Type 0
HasCallsLeft h = h.control.tables.calls < 2 ^ 56
