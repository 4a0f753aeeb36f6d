-- Worked tables: two ports are made, and a server goes while a request waits for it.
use Rattle.std.specs.Prelude.{ℕ}
use Rattle.iox_tables.specs.HubStates.Tables.{HubTables}
use Rattle.iox_tables.specs.HubStates.Releases.{with_value_released}
use Rattle.iox_tables.specs.HubBooks.Hubs.{AreInOrder}
use Rattle.iox_tables.specs.HubBooks.Worked.{with_holders}
use Rattle.iox_tables.specs.HubMaking.Disconnections.{with_disconnected}
use Rattle.iox_tables.specs.HubMaking.Worked.{one_port, two_ports}

-- A client and then a server are made: the tables are in order each time.
abbrev pub TwoPortsAreInOrder : Type 0
TwoPortsAreInOrder = AreInOrder one_port × AreInOrder two_ports

-- Server 1 is released and goes, while the client's request waits for it. So many then have the
-- request.
abbrev pub without_server : ℕ → HubTables
without_server n =
    record (with_disconnected (with_value_released (with_holders 2) 1) 1) {
      pools = (with_holders n).pools;
    }

-- Only the pending response has it then. With the two holders of before nothing would agree.
abbrev pub OneHasTheRequest : Type 0
OneHasTheRequest = AreInOrder (without_server 1) × (AreInOrder (without_server 2) → ⊥)
