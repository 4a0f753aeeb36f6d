-- Loans as whole calls.
use Rattle.std.specs.Prelude.{◌≡◌, ℕ, Bool, true, false, List, [], Some, None}
use Rattle.iox_model.specs.declared.call.Call.TheVariants.{Loan, LoanUninit}
use Rattle.iox_model.specs.declared.reply.Refusal.TheVariants.{OutOfMemory, WantOfMemory}
use Rattle.iox_model.specs.declared.reply.Reply.TheVariants.{Handle, Refused}
use Rattle.iox_model.specs.Begins.{MayChoose}
use Rattle.iox_model.specs.Commands.{Call, Refusal, number_of}
use Rattle.iox_model.specs.Loans.{Choice, kind_of_loan}
use Rattle.iox_model.specs.WholeCalls.{default_payload}
use Rattle.iox_laws.specs.CallFunctions.Calls.{call_by, LoanMayHold}
use Rattle.iox_tables.specs.HubStates.Tables.{HandleState, HubTables, PortState, SlotState, owner_of}
use Rattle.iox_tables.specs.HubStates.Ways.{lane_on}
use Rattle.iox_tables.specs.HubStates.States.{Given, fixed_of, message_of, node_id_of, port_id_of, state_shown}
use Rattle.iox_tables.specs.HubStates.Changes.{HasEachOnce, OfEachLane}
use Rattle.iox_tables.specs.HubStates.Ends.{with_added, with_call, with_loan}
use Rattle.iox_tables.specs.HubLoans.Counts.{AreOnNodes, is_lane_free}
use Rattle.iox_tables.specs.HubLoans.Lenders.{IsActive, IsClient, IsLender, Lender, is_pool_dry, is_pool_to_be_dry, loan_refusal, shape_in, with_got_back}
use Rattle.iox_tables.specs.HubLoans.Slots.{SlotContents, HasSlot, IsUnused, with_contents, put_slot}

-- the call of a loan, unfilled or filled
abbrev pub loan_call : Bool → ℕ → ℕ → Call
loan_call true n k = LoanUninit n k
loan_call false n k = Loan n k

-- ---- what is made

-- the slot of a loan of so many elements
abbrev pub loaned_slot : Lender → ℕ → SlotState
loaned_slot y k = record {
  serial = y.port.loans;
  lane = y.lane;
  request = y.request;
  elements = k;
  holders = 1;
}

-- what the loan holds at first
abbrev pub loaned_contents : Given → HubTables → Lender → List ℕ → SlotContents
loaned_contents x t y payload =
    record { user = (shape_in x t y.port).user; payload = payload; filled = 0 }

-- its handle
abbrev pub loaned_handle : HubTables → Lender → Bool → ℕ → HandleState
loaned_handle t y uninit slot = record {
  node = y.port.node;
  number = t.next_number;
  kind = kind_of_loan y.port.role uninit;
  port = y.port.number;
  pool = y.port.pool;
  slot = slot;
  client = y.client;
  connections = 0;
}

-- the tables with the loan's message in its slot
abbrev pub with_loaned_slot : HubTables → Lender → ℕ → ℕ → HubTables
with_loaned_slot t y k slot =
    record t { pools = put_slot t.pools y.port.pool slot (loaned_slot y k) }

-- the tables once a loan is handed out: it has a handle, and it is counted
abbrev pub with_handed_out : HubTables → HandleState → HubTables
with_handed_out t h = with_call (with_loan (with_added t h) h.port)

-- the tables once the loan has its slot and is handed out
abbrev pub with_loaned : HubTables → Lender → Bool → ℕ → ℕ → HubTables
with_loaned t y uninit k slot =
    with_handed_out (with_loaned_slot t y k slot) (loaned_handle t y uninit slot)

-- ---- what is so of the tables

-- The port's pool tells whose it is.
pub record HasItsPool (t : HubTables) (p : PortState) : Type 0 where
  pub owner : owner_of t.pools p.pool ≡ p.number
  pub node_id : node_id_of t.pools p.pool ≡ p.node_id
  pub port_id : port_id_of t.pools p.pool ≡ p.id

-- The slot may take the loan: once all is got back the pool is not dry, and nobody has the slot. On
-- no lane a message is twice.
pub record MayTakeLoan (x : Given) (t : HubTables) (p : PortState) (slot : ℕ) : Type 0 where
  pub once : OfEachLane (HasEachOnce (message_of x t.pools)) (lane_on t.ports)
  pub dry : is_pool_dry x t p ≡ false
  pub pool : HasItsPool t p
  pub there : HasSlot t.pools p.pool slot
  pub unused : IsUnused (with_got_back t p) p.pool slot

-- ---- laws

-- A loan that a test refuses changes nothing.
abbrev pub LoansAreRefused : Type 0
LoansAreRefused =
    (x : Given) (t : HubTables) (node n k : ℕ) (uninit : Bool) (c : Choice) (payload : List ℕ)
    (y : Lender) (r : Refusal) → IsLender t node n c.lane y → AreOnNodes t
    → loan_refusal x t y k ≡ Some r
    → call_by (state_shown x t) node (loan_call uninit n k) c payload
    ≡ (Refused r, state_shown x t)

-- So does one for which there is no memory, where the pool is not to be dry.
abbrev pub LoansWantMemory : Type 0
LoansWantMemory =
    (x : Given) (t : HubTables) (node n k : ℕ) (uninit : Bool) (c : Choice) (payload : List ℕ)
    (y : Lender) → IsLender t node n c.lane y → AreOnNodes t → loan_refusal x t y k ≡ None
    → c.memory ≡ false → is_pool_to_be_dry x t y.port ≡ false
    → call_by (state_shown x t) node (loan_call uninit n k) c payload
    ≡ (Refused WantOfMemory, state_shown x t)

-- A loan that finds the pool dry is refused once all is got back.
abbrev pub LoansFindDryPools : Type 0
LoansFindDryPools =
    (x : Given) (t : HubTables) (node n k : ℕ) (uninit : Bool) (c : Choice) (payload : List ℕ)
    (y : Lender) → IsLender t node n c.lane y → AreOnNodes t → loan_refusal x t y k ≡ None
    → c.memory ≡ true → OfEachLane (HasEachOnce (message_of x t.pools)) (lane_on t.ports)
    → is_pool_dry x t y.port ≡ true
    → call_by (state_shown x t) node (loan_call uninit n k) c payload
    ≡ (Refused OutOfMemory, state_shown x (with_got_back t y.port))

-- Any other is made in a slot that nobody has. Handed out unfilled it holds nothing.
abbrev pub LoansAreMade : Type 0
LoansAreMade =
    (x : Given) (t : HubTables) (node n k : ℕ) (uninit : Bool) (c : Choice) (payload : List ℕ)
    (y : Lender) (slot : ℕ) → IsLender t node n c.lane y → AreOnNodes t
    → loan_refusal x t y k ≡ None → c.memory ≡ true → MayTakeLoan x t y.port slot
    → (uninit ≡ true → payload ≡ [])
    → call_by (state_shown x t) node (loan_call uninit n k) c payload
    ≡ (
      Handle t.next_number,
      state_shown (with_contents x y.port.pool slot (loaned_contents x t y payload))
          (with_loaned (with_got_back t y.port) y uninit k slot),
    )

-- ---- what is left open

-- What a loan of a client may choose is a free lane; a call of a handle may choose any.
pub record ChoicesMayBe (x : Given) (t : HubTables) (node n : ℕ) (c : Choice) : Type 0 where
  pub requests :
      (client : IsClient t node n) → is_lane_free t client.port c.lane ≡ true
      → (call : Call) → number_of call ≡ n → MayChoose (fixed_of x t) node c call
  pub responses :
      IsActive t node n → (call : Call) → number_of call ≡ n
      → MayChoose (fixed_of x t) node c call

-- It is so of each number.
abbrev pub EachChoiceMayBe : Type 0
EachChoiceMayBe =
    (x : Given) (t : HubTables) (node n : ℕ) (c : Choice) → AreOnNodes t
    → ChoicesMayBe x t node n c

-- A loan that is handed out filled may hold the default of each element.
abbrev pub LoansMayHoldDefaults : Type 0
LoansMayHoldDefaults =
    (x : Given) (t : HubTables) (node n k : ℕ) (c : Choice) (y : Lender)
    → IsLender t node n c.lane y → AreOnNodes t
    → LoanMayHold (state_shown x t) node (Loan n k) c (default_payload (shape_in x t y.port) k)

-- Whatever the call, some payload may be held.
abbrev pub SomePayloadMayBeHeld : Type 0
SomePayloadMayBeHeld =
    (x : Given) (t : HubTables) (node : ℕ) (call : Call) (c : Choice)
    → (payload : List ℕ) × LoanMayHold (state_shown x t) node call c payload
