-- Which slot and which lane a loan may take.
use Rattle.std.specs.Prelude.{◌≡◌, ℕ, ◌<◌, Bool, true, false, List, Option, Some}
use Rattle.std.specs.List.{list_all, range_with_len}
use Rattle.iox_tables.specs.HubStates.Tables.{HubTables, PoolState, PortState, port_in, slot_at}
use Rattle.iox_tables.specs.HubStates.States.{Given, state_shown}
use Rattle.iox_tables.specs.HubBooks.Hubs.{AreInOrder}
use Rattle.iox_tables.specs.HubBooks.Keeps.{bare_pools}
use Rattle.iox_tables.specs.HubLoans.Counts.{is_lane_free, is_lane_taken}
use Rattle.iox_tables.specs.HubLoans.Lenders.{Lender, with_got_back}
use Rattle.iox_tables.specs.HubLoans.Loans.{MayTakeLoan, with_loaned}
use Rattle.iox_tables.specs.HubLending.Emptying.{AreGotBack, with_back}

-- A slot of a connected port's pool, and nobody has it.
pub record IsFreeSlot (t : HubTables) (n : ℕ) (p : PortState) (pools : List (Option PoolState))
    (slot : ℕ) : Type 0
  where
    pub there : port_in t.ports n ≡ Some p
    pub within : slot < p.size
    pub free : (slot_at pools p.pool slot).holders ≡ 0

-- A slot that nobody has, once the port got back all that was given back, may take its loan.
abbrev pub FreeSlotsMayTakeLoans : Type 0
FreeSlotsMayTakeLoans =
    (x : Given) (t : HubTables) (n slot : ℕ) (p : PortState) (pools : List (Option PoolState))
    → AreInOrder t → AreGotBack t p pools → IsFreeSlot t n p pools slot → MayTakeLoan x t p slot

-- Where nobody has some slot of a port's pool, not all lanes below the pool's size are taken.
abbrev pub FreeSlotsHaveLanes : Type 0
FreeSlotsHaveLanes =
    (t : HubTables) (n slot : ℕ) (p : PortState) → AreInOrder t → IsFreeSlot t n p t.pools slot
    → list_all (is_lane_taken t p.number) (range_with_len 0 p.size) ≡ false

-- So a lane that is free then is below that size.
abbrev pub FreeLanesAreOwn : Type 0
FreeLanesAreOwn =
    (t : HubTables) (n slot lane : ℕ) (p : PortState) → AreInOrder t
    → IsFreeSlot t n p t.pools slot → is_lane_free t p lane ≡ true → lane < p.size

-- Tables show the same whether or not slots lost their holders as messages were got back; so do they
-- once a loan is made.
abbrev pub HoldersMayComeBackFirst : Type 0
HoldersMayComeBackFirst =
    (x : Given) (t : HubTables) (p : PortState) (pools : List (Option PoolState)) (y : Lender)
    (uninit : Bool) (k slot : ℕ) → bare_pools t.pools ≡ bare_pools pools
    → (state_shown x (with_got_back t p) ≡ state_shown x (with_back t p pools))
    × (state_shown x (with_loaned (with_got_back t p) y uninit k slot)
    ≡ state_shown x (with_loaned (with_back t p pools) y uninit k slot))
