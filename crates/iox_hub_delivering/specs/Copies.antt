-- A copy has a slot and no handle as it is sent: what it leaves is in order.
use Rattle.std.specs.Prelude.{◌≡◌, ℕ, Bool, false, List, Option}
use Rattle.iox_model.specs.declared.kind.Role.TheVariants.{Client, Server}
use Rattle.iox_model.specs.declared.way.Way.{Way}
use Rattle.iox_tables.specs.HubStates.Tables.{HandleState, HubTables, PoolState}
use Rattle.iox_tables.specs.HubStates.Ways.{lane_on}
use Rattle.iox_tables.specs.HubStates.Changes.{with_lanes}
use Rattle.iox_tables.specs.HubStates.Ends.{with_loan}
use Rattle.iox_tables.specs.HubBooks.Hubs.{AreInOrder}
use Rattle.iox_tables.specs.HubBooks.Keeps.{AreTargetsOf, HasOneHolderLess, delivers}
use Rattle.iox_tables.specs.HubLoans.CopySends.{with_copied, with_loan_call}
use Rattle.iox_tables.specs.HubLoans.Lenders.{Lender}
use Rattle.iox_tables.specs.HubLoans.Loans.{loaned_handle, with_loaned_slot}
use Rattle.iox_tables.specs.HubLending.Lending.{MayLend}
use Rattle.iox_hub_delivering.specs.Deliveries.{HasDelivered, HasHandedOver}

-- The ways of a copy's message, by the handle of its loan. The tables have the message in its slot,
-- but not the handle.
pub record IsCopy (t : HubTables) (y : Lender) (k slot : ℕ) (ws : List Way) : Type 0 where
  pub order : AreInOrder t
  pub lends : MayLend t y slot
  pub targets : AreTargetsOf (with_loaned_slot t y k slot) (loaned_handle t y false slot) ws

-- A copy that is sent as a request leaves a pending response, and the tables in order.
abbrev pub RequestCopiesKeepOrder : Type 0
RequestCopiesKeepOrder =
    (t : HubTables) (y : Lender) (k slot : ℕ) (overflow : Bool) (ws : List Way) (count : ℕ)
    (pools : List (Option PoolState)) → IsCopy t y k slot ws → y.port.role ≡ Client
    → (let u : HubTables = with_loaned_slot t y k slot in
    let h : HandleState = loaned_handle t y false slot in
    HasDelivered overflow slot (lane_on t.ports) ws u.pools pools
    → AreInOrder
    (record (with_loan_call (with_copied Client (with_lanes (delivers overflow slot) u ws) h count) h) {
      pools = pools;
    }))

-- One that is sent as a response leaves no handle.
abbrev pub ResponseCopiesKeepOrder : Type 0
ResponseCopiesKeepOrder =
    (t : HubTables) (y : Lender) (k slot : ℕ) (overflow : Bool) (ws : List Way) (count : ℕ)
    (pools : List (Option PoolState)) → IsCopy t y k slot ws → y.port.role ≡ Server
    → (let u : HubTables = with_loaned_slot t y k slot in
    let h : HandleState = loaned_handle t y false slot in
    HasHandedOver overflow (lane_on t.ports) ws h u.pools pools
    → AreInOrder
    (record (with_loan_call (with_copied Server (with_lanes (delivers overflow slot) u ws) h count) h) {
      pools = pools;
    }))

-- One that is refused, that fails, or that nobody awaits leaves nothing but its count.
abbrev pub FailedCopiesKeepOrder : Type 0
FailedCopiesKeepOrder =
    (t : HubTables) (y : Lender) (k slot : ℕ) (pools : List (Option PoolState)) → AreInOrder t
    → MayLend t y slot
    → (let u : HubTables = with_loaned_slot t y k slot in
    let h : HandleState = loaned_handle t y false slot in
    HasOneHolderLess u.pools pools h → AreInOrder (record (with_loan_call u h) { pools = pools }))

-- A loan that is counted, and takes no slot, keeps the tables in order: so does a copy that is
-- refused before it takes one.
abbrev pub CountedLoansKeepOrder : Type 0
CountedLoansKeepOrder =
    (t : HubTables) (n : ℕ) → AreInOrder t → AreInOrder (with_loan t n)
