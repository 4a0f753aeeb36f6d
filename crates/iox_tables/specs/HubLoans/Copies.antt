-- Loan, write and send in one: why a copy is not made.
use Rattle.std.specs.Prelude.{◌≡◌, ℕ, true, false, List, Option, Some, None}
use Rattle.iox_model.specs.declared.call.Call.TheVariants.{SendCopy}
use Rattle.iox_model.specs.declared.reply.Refusal.TheVariants.{OutOfMemory, WantOfMemory, WrongLength}
use Rattle.iox_model.specs.declared.reply.Reply.TheVariants.{Refused}
use Rattle.iox_model.specs.Commands.{Payload, Refusal}
use Rattle.iox_model.specs.Loans.{Choice}
use Rattle.iox_model.specs.Maps.{or_else}
use Rattle.iox_laws.specs.CallFunctions.Calls.{call_by}
use Rattle.iox_tables.specs.HubStates.Tables.{HubTables}
use Rattle.iox_tables.specs.HubStates.Ways.{lane_on}
use Rattle.iox_tables.specs.HubStates.States.{Given, message_of, state_shown}
use Rattle.iox_tables.specs.HubStates.Changes.{HasEachOnce, OfEachLane}
use Rattle.iox_tables.specs.HubLoans.Counts.{AreOnNodes}
use Rattle.iox_tables.specs.HubLoans.Lenders.{IsLender, Lender, calls_refusal, is_pool_dry, is_pool_to_be_dry, loan_refusal, with_got_back}

-- ---- why not

-- why no copy is made, but for the pool and for memory: its elements are not whole, or no such loan
-- is made
abbrev pub copy_refusal : Given → HubTables → Lender → Option ℕ → Option Refusal
copy_refusal x t y None = or_else (calls_refusal t) (Some WrongLength)
copy_refusal x t y (Some k) = loan_refusal x t y k

-- A copy that a test refuses changes nothing.
abbrev pub CopiesAreRefused : Type 0
CopiesAreRefused =
    (x : Given) (t : HubTables) (node n : ℕ) (p : Payload) (c : Choice) (payload : List ℕ)
    (y : Lender) (r : Refusal) → IsLender t node n c.lane y → AreOnNodes t
    → p.role ≡ y.port.role → copy_refusal x t y p.elements ≡ Some r
    → call_by (state_shown x t) node (SendCopy n p) c payload ≡ (Refused r, state_shown x t)

-- So does one for which there is no memory, where the pool is not to be dry.
abbrev pub CopiesWantMemory : Type 0
CopiesWantMemory =
    (x : Given) (t : HubTables) (node n k : ℕ) (p : Payload) (c : Choice) (payload : List ℕ)
    (y : Lender) → IsLender t node n c.lane y → AreOnNodes t → p.role ≡ y.port.role
    → p.elements ≡ Some k → loan_refusal x t y k ≡ None → c.memory ≡ false
    → is_pool_to_be_dry x t y.port ≡ false
    → call_by (state_shown x t) node (SendCopy n p) c payload
    ≡ (Refused WantOfMemory, state_shown x t)

-- A copy that finds the pool dry is refused once all is got back.
abbrev pub CopiesFindDryPools : Type 0
CopiesFindDryPools =
    (x : Given) (t : HubTables) (node n k : ℕ) (p : Payload) (c : Choice) (payload : List ℕ)
    (y : Lender) → IsLender t node n c.lane y → AreOnNodes t → p.role ≡ y.port.role
    → p.elements ≡ Some k → loan_refusal x t y k ≡ None → c.memory ≡ true
    → OfEachLane (HasEachOnce (message_of x t.pools)) (lane_on t.ports)
    → is_pool_dry x t y.port ≡ true
    → call_by (state_shown x t) node (SendCopy n p) c payload
    ≡ (Refused OutOfMemory, state_shown x (with_got_back t y.port))
