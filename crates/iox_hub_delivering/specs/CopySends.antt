-- What the send of a copy leaves of the tables of a hub is in order, with what comes before its
-- deliveries.
use Rattle.std.specs.Prelude.{◌≡◌, ℕ, false, true, List, Option}
use Rattle.std.specs.List.{list_any}
use Rattle.iox_model.specs.declared.kind.Role.{Role}
use Rattle.iox_model.specs.declared.kind.Role.TheVariants.{Client, Server}
use Rattle.iox_model.specs.Doings.{Sending}
use Rattle.iox_model.specs.Requests.{targets}
use Rattle.iox_tables.specs.HubStates.Tables.{HandleState, HubTables, PoolState}
use Rattle.iox_tables.specs.HubStates.Ways.{lane_on}
use Rattle.iox_tables.specs.HubStates.States.{Given}
use Rattle.iox_tables.specs.HubStates.Ends.{with_call}
use Rattle.iox_tables.specs.HubStates.Sends.{free_targets, full_targets, with_emptied, with_pushed, with_sent}
use Rattle.iox_tables.specs.HubBooks.Hubs.{AreInOrder}
use Rattle.iox_tables.specs.HubBooks.Keeps.{HasOneHolderLess}
use Rattle.iox_tables.specs.HubLoans.CopySends.{copy_sending, with_copied, with_loan_call}
use Rattle.iox_tables.specs.HubLoans.Lenders.{Lender}
use Rattle.iox_tables.specs.HubLoans.Loans.{loaned_handle, with_loaned_slot}
use Rattle.iox_tables.specs.HubLending.Lending.{MayLend}
use Rattle.iox_hub_delivering.specs.Deliveries.{HasDelivered, HasHandedOver}
use Rattle.iox_hub_delivering.specs.Keeps.{AreGotBackFor, IsInOrderWith}

-- A port of that role may lend the slot, for a copy.
pub record MayCopy (role : Role) (t : HubTables) (y : Lender) (slot : ℕ) : Type 0 where
  pub order : AreInOrder t
  pub lends : MayLend t y slot
  pub by_role : y.port.role ≡ role

-- Without overflow, what a copy leaves that is sent as a request is in order.
abbrev pub RequestCopiesSendInOrder : Type 0
RequestCopiesSendInOrder =
    (x : Given) (t : HubTables) (y : Lender) (k slot count : ℕ)
    (between pools : List (Option PoolState)) → MayCopy Client t y slot
    → (let u : HubTables = with_loaned_slot t y k slot in
    let h : HandleState = loaned_handle t y false slot in
    let z : Sending = copy_sending Client x u h in
    list_any z.fails (full_targets u z) ≡ false → AreGotBackFor u z between
    → HasDelivered false slot (lane_on (with_emptied u z).ports) (free_targets u z) between pools
    → IsInOrderWith x
    (with_call (with_loan_call (with_copied Client (with_sent u z slot) h count) h)) pools)

-- So it is with overflow.
abbrev pub RequestCopiesPushInOrder : Type 0
RequestCopiesPushInOrder =
    (x : Given) (t : HubTables) (y : Lender) (k slot count : ℕ)
    (between pools : List (Option PoolState)) → MayCopy Client t y slot
    → (let u : HubTables = with_loaned_slot t y k slot in
    let h : HandleState = loaned_handle t y false slot in
    let z : Sending = copy_sending Client x u h in
    AreGotBackFor u z between
    → HasDelivered true slot (lane_on (with_emptied u z).ports) (targets z) between pools
    → IsInOrderWith x
    (with_call (with_loan_call (with_copied Client (with_pushed u z slot) h count) h)) pools)

-- So is what a copy leaves that is sent as a response, without overflow.
abbrev pub ResponseCopiesSendInOrder : Type 0
ResponseCopiesSendInOrder =
    (x : Given) (t : HubTables) (y : Lender) (k slot count : ℕ)
    (between pools : List (Option PoolState)) → MayCopy Server t y slot
    → (let u : HubTables = with_loaned_slot t y k slot in
    let h : HandleState = loaned_handle t y false slot in
    let z : Sending = copy_sending Server x u h in
    list_any z.fails (full_targets u z) ≡ false → AreGotBackFor u z between
    → HasHandedOver false (lane_on (with_emptied u z).ports) (free_targets u z) h between pools
    → IsInOrderWith x
    (with_call (with_loan_call (with_copied Server (with_sent u z slot) h count) h)) pools)

-- So it is with overflow.
abbrev pub ResponseCopiesPushInOrder : Type 0
ResponseCopiesPushInOrder =
    (x : Given) (t : HubTables) (y : Lender) (k slot count : ℕ)
    (between pools : List (Option PoolState)) → MayCopy Server t y slot
    → (let u : HubTables = with_loaned_slot t y k slot in
    let h : HandleState = loaned_handle t y false slot in
    let z : Sending = copy_sending Server x u h in
    AreGotBackFor u z between
    → HasHandedOver true (lane_on (with_emptied u z).ports) (targets z) h between pools
    → IsInOrderWith x
    (with_call (with_loan_call (with_copied Server (with_pushed u z slot) h count) h)) pools)

-- One whose send fails leaves its count alone, once all is got back.
abbrev pub FailedCopySendsInOrder : Type 0
FailedCopySendsInOrder =
    (role : Role) (x : Given) (t : HubTables) (y : Lender) (k slot : ℕ)
    (between pools : List (Option PoolState)) → MayCopy role t y slot
    → (let u : HubTables = with_loaned_slot t y k slot in
    let h : HandleState = loaned_handle t y false slot in
    let z : Sending = copy_sending role x u h in
    list_any z.fails (full_targets u z) ≡ true → AreGotBackFor u z between
    → HasOneHolderLess between pools h
    → IsInOrderWith x (with_loan_call (with_sent u z slot) h) pools)
