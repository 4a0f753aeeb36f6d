-- Loans as whole calls, over tables that are in order: the state that they leave is shown by tables
-- that are in order.
use Rattle.std.specs.Prelude.{◌≡◌, ℕ, ◌<◌, Bool, true, List, [], Option, None}
use Rattle.std.specs.List.{list_all}
use Rattle.iox_model.specs.declared.kind.Role.TheVariants.{Client}
use Rattle.iox_model.specs.declared.reply.Refusal.TheVariants.{OutOfMemory}
use Rattle.iox_model.specs.declared.reply.Reply.TheVariants.{Handle, Refused}
use Rattle.iox_model.specs.Loans.{Choice}
use Rattle.iox_laws.specs.CallFunctions.Calls.{call_by}
use Rattle.iox_tables.specs.HubStates.Tables.{HubTables, PoolState, slot_at, slots_of}
use Rattle.iox_tables.specs.HubStates.States.{Given, state_shown}
use Rattle.iox_tables.specs.HubBooks.Hubs.{AreInOrder}
use Rattle.iox_tables.specs.HubLoans.Lenders.{IsLender, Lender, loan_refusal}
use Rattle.iox_tables.specs.HubLoans.Loans.{loan_call, loaned_contents, with_loaned}
use Rattle.iox_tables.specs.HubLoans.Slots.{with_contents}
use Rattle.iox_tables.specs.HubLending.Emptying.{AreGotBack, with_back}
use Rattle.iox_tables.specs.HubLending.Keeping.{HaveMessages, has_holder}

-- The number names a lender whose loan of so many elements no test refuses, and there is memory. The
-- pools are as they are once its port got back all that was given back.
pub record IsLending (x : Given) (t : HubTables) (node n k : ℕ) (c : Choice) (y : Lender)
    (pools : List (Option PoolState)) : Type 0
  where
    pub order : AreInOrder t
    pub messages : HaveMessages t
    pub lender : IsLender t node n c.lane y
    pub passes : loan_refusal x t y k ≡ None
    pub memory : c.memory ≡ true
    pub back : AreGotBack t y.port pools

-- the tables are in order, and each handle has a message
abbrev pub InOrder : HubTables → Type 0
InOrder t = AreInOrder t × HaveMessages t

-- Where somebody has each slot of the lender's pool, the loan is refused.
abbrev pub FullPoolsRefuse : Type 0
FullPoolsRefuse =
    (x : Given) (t : HubTables) (node n k : ℕ) (uninit : Bool) (c : Choice) (payload : List ℕ)
    (y : Lender) (pools : List (Option PoolState)) → IsLending x t node n k c y pools
    → list_all has_holder (slots_of pools y.port.pool) ≡ true
    → (call_by (state_shown x t) node (loan_call uninit n k) c payload
    ≡ (Refused OutOfMemory, state_shown x (with_back t y.port pools)))
    × InOrder (with_back t y.port pools)

-- Any slot that nobody has may be lent.
abbrev pub FreeSlotsAreLent : Type 0
FreeSlotsAreLent =
    (x : Given) (t : HubTables) (node n k slot : ℕ) (uninit : Bool) (c : Choice)
    (payload : List ℕ) (y : Lender) (pools : List (Option PoolState))
    → IsLending x t node n k c y pools → slot < y.port.size
    → (slot_at pools y.port.pool slot).holders ≡ 0
    → (y.port.role ≡ Client → y.lane < y.port.size) → (uninit ≡ true → payload ≡ [])
    → (call_by (state_shown x t) node (loan_call uninit n k) c payload
    ≡ (
      Handle t.next_number,
      state_shown (with_contents x y.port.pool slot (loaned_contents x t y payload))
          (with_loaned (with_back t y.port pools) y uninit k slot),
    ))
    × InOrder (with_loaned (with_back t y.port pools) y uninit k slot)
