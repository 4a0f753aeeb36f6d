-- A call leads from tables that can be reached to tables that can be reached.
use Rattle.std.specs.Prelude.{◌≡◌, ℕ, List}
use Rattle.iox_model.specs.Begins.{MayChoose}
use Rattle.iox_model.specs.Commands.{Call, Reply}
use Rattle.iox_model.specs.Loans.{Choice}
use Rattle.iox_model.specs.Runs.{IsReachableState}
use Rattle.iox_model.specs.WholeCalls.{IsWholeCall}
use Rattle.iox_laws.specs.CallFunctions.Calls.{call_by, LoanMayHold}
use Rattle.iox_tables.specs.HubStates.Tables.{HubTables}
use Rattle.iox_tables.specs.HubStates.States.{Given, fixed_of, state_shown}

-- A call of a hub: the tables before it can be reached, the tables after it show what the call's
-- function leaves, and what is open in the call may be so.
pub record IsCallOf (x : Given) (t : HubTables) (node : ℕ) (call : Call) (reply : Reply)
    (x' : Given) (t' : HubTables) : Type 0
  where
    pub reached : IsReachableState (state_shown x t)
    pub choice : Choice
    pub payload : List ℕ
    pub may_choose : MayChoose (fixed_of x t) node choice call
    pub may_hold : LoanMayHold (state_shown x t) node call choice payload
    pub called : call_by (state_shown x t) node call choice payload ≡ (reply, state_shown x' t')

-- It is a whole call, and the tables after it can be reached.
pub record IsCallReached (x : Given) (t : HubTables) (node : ℕ) (call : Call) (reply : Reply)
    (x' : Given) (t' : HubTables) : Type 0
  where
    pub whole : IsWholeCall (state_shown x t) node call reply (state_shown x' t')
    pub reached : IsReachableState (state_shown x' t')

-- It is so of each call.
abbrev pub EachCallIsReached : Type 0
EachCallIsReached =
    (x : Given) (t : HubTables) (node : ℕ) (call : Call) (reply : Reply) (x' : Given)
    (t' : HubTables) → IsCallOf x t node call reply x' t' → IsCallReached x t node call reply x' t'
