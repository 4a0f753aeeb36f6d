-- A loan that is made keeps the tables of a hub in order.
use Rattle.std.specs.Prelude.{◌≡◌, ℕ, ◌<◌, Bool, Some}
use Rattle.iox_model.specs.declared.kind.Role.TheVariants.{Client}
use Rattle.iox_tables.specs.HubStates.Tables.{HubTables, port_in, slot_at}
use Rattle.iox_tables.specs.HubBooks.Hubs.{AreInOrder}
use Rattle.iox_tables.specs.HubLoans.Lenders.{Lender}
use Rattle.iox_tables.specs.HubLoans.Loans.{with_loaned}
use Rattle.iox_tables.specs.HubLending.Keeping.{HaveMessages}

-- The lender's port is connected, the slot is one of its pool that nobody has, and a request is on
-- one of its client's lanes.
pub record MayLend (t : HubTables) (y : Lender) (slot : ℕ) : Type 0 where
  pub there : port_in t.ports y.port.number ≡ Some y.port
  pub within : slot < y.port.size
  pub free : (slot_at t.pools y.port.pool slot).holders ≡ 0
  pub lane : y.port.role ≡ Client → y.lane < y.port.size

-- Its loan keeps the tables in order, and its handle has a message.
abbrev pub LoansKeepOrder : Type 0
LoansKeepOrder =
    (t : HubTables) (y : Lender) (uninit : Bool) (k slot : ℕ) → AreInOrder t → HaveMessages t
    → MayLend t y slot
    → AreInOrder (with_loaned t y uninit k slot) × HaveMessages (with_loaned t y uninit k slot)
