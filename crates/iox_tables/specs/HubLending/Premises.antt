-- What the laws of loans ask is so where the tables of a hub are in order.
use Rattle.std.specs.Prelude.{◌≡◌, ℕ, ◌<◌, Some}
use Rattle.iox_tables.specs.HubStates.Tables.{HubTables, PortState, port_in, slot_at}
use Rattle.iox_tables.specs.HubBooks.Hubs.{AreInOrder}
use Rattle.iox_tables.specs.HubLoans.Counts.{AreOnNodes}
use Rattle.iox_tables.specs.HubLoans.Loans.{HasItsPool}
use Rattle.iox_tables.specs.HubLoans.Pools.{KeepsItsOwn}
use Rattle.iox_tables.specs.HubLoans.Slots.{HasSlot, IsUnused}

-- Each handle is of its port's node.
abbrev pub HandlesAreOnNodes : Type 0
HandlesAreOnNodes = (t : HubTables) → AreInOrder t → AreOnNodes t

-- What the laws ask of a connected port: it keeps only messages of its own pool, the pool tells
-- whose it is, and it has a slot of each number below its size.
pub record IsReadyToLend (t : HubTables) (p : PortState) : Type 0 where
  pub keeps : KeepsItsOwn t p
  pub pool : HasItsPool t p
  pub slots : (k : ℕ) → k < p.size → HasSlot t.pools p.pool k

-- It is so of each connected port.
abbrev pub PortsAreReadyToLend : Type 0
PortsAreReadyToLend =
    (t : HubTables) (n : ℕ) (p : PortState) → AreInOrder t → port_in t.ports n ≡ Some p
    → IsReadyToLend t p

-- Nobody has a slot without holders.
abbrev pub FreeSlotsAreUnused : Type 0
FreeSlotsAreUnused =
    (t : HubTables) (pool k : ℕ) → AreInOrder t → (slot_at t.pools pool k).holders ≡ 0
    → IsUnused t pool k
