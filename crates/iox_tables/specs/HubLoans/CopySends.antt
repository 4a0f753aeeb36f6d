-- Loan, write and send in one: what is sent, and what follows.
use Rattle.std.specs.Prelude.{◌≡◌, ℕ, Bool, true, false, not, ◌&&◌, List, [], ◌∷◌, length, Option, Some, None}
use Rattle.iox_model.specs.declared.call.Call.TheVariants.{SendCopy}
use Rattle.iox_model.specs.declared.kind.Role.{Role}
use Rattle.iox_model.specs.declared.kind.Role.TheVariants.{Client, Server}
use Rattle.iox_model.specs.declared.reply.Refusal.TheVariants.{ExceedsMaxActiveRequests, UnableToDeliver}
use Rattle.iox_model.specs.declared.reply.Reply.TheVariants.{Done, Handle, Refused}
use Rattle.iox_model.specs.Commands.{Payload, Reply}
use Rattle.iox_model.specs.Doings.{Sending}
use Rattle.iox_model.specs.Loans.{Choice}
use Rattle.iox_model.specs.Maps.{has_number}
use Rattle.iox_model.specs.Messages.{response_way}
use Rattle.iox_model.specs.Requests.{sending_of, targets}
use Rattle.iox_model.specs.States.{State}
use Rattle.iox_laws.specs.CallFunctions.Calls.{call_by}
use Rattle.iox_tables.specs.HubStates.Tables.{HandleState, HubSettings, HubTables}
use Rattle.iox_tables.specs.HubStates.States.{Given, fixed_of, state_shown}
use Rattle.iox_tables.specs.HubStates.Ends.{with_added, with_call, with_loan}
use Rattle.iox_tables.specs.HubStates.Releases.{handle_shown}
use Rattle.iox_tables.specs.HubStates.Sendings.{pending_of}
use Rattle.iox_tables.specs.HubStates.Sends.{MaySendFrom, sent_count, with_pushed, with_sent}
use Rattle.iox_tables.specs.HubStates.Wirings.{numbers_of_role}
use Rattle.iox_tables.specs.HubLoans.Counts.{AreOnNodes, has_all_active}
use Rattle.iox_tables.specs.HubLoans.Lenders.{IsLender, Lender, loan_refusal, with_got_back}
use Rattle.iox_tables.specs.HubLoans.Loans.{MayTakeLoan, loaned_contents, loaned_handle, with_loaned_slot}
use Rattle.iox_tables.specs.HubLoans.Questions.{names_request, state_of}
use Rattle.iox_tables.specs.HubLoans.Slots.{with_contents}

-- ---- what is sent

-- the tables with the copy's message in its slot, once all is got back
abbrev pub with_copy : HubTables → Lender → ℕ → ℕ → HubTables
with_copy t y k slot = with_loaned_slot (with_got_back t y.port) y k slot

-- its words
abbrev pub with_words : Given → HubTables → Lender → ℕ → List ℕ → Given
with_words x t y slot words =
    with_contents x y.port.pool slot (loaned_contents x t y words)

-- to whom a port of that role sends: a client to all servers, a server to one client
abbrev pub receivers_by : Role → HubTables → ℕ → List ℕ
receivers_by Client t client = numbers_of_role Server t.ports
receivers_by Server t client = client ∷ []

-- the send of a handle that is in no table yet, by a port of that role
abbrev pub copy_sending : Role → Given → HubTables → HandleState → Sending
copy_sending role x t h =
    sending_of (fixed_of x t) (handle_shown x t h) true (receivers_by role t h.client)

-- full lanes of what the role sends give up their oldest
abbrev pub overflows_by : Role → HubSettings → Bool
overflows_by Client settings = settings.request_overflow
overflows_by Server settings = settings.response_overflow

-- the client of the lender's request still names it
abbrev pub is_lender_awaited : HubTables → Lender → Bool
is_lender_awaited t y =
    has_number y.client (numbers_of_role Client t.ports)
    && names_request false y.request
    (state_of t (response_way y.client y.lane y.port.number))

-- the copy is sent to somebody: a client may have one more pending response, or the client of an
-- active request awaits one more response
abbrev pub goes_out : Role → HubTables → Lender → Bool
goes_out Client t y = not (has_all_active t y.port.number)
goes_out Server t y = is_lender_awaited t y

-- ---- what follows

-- the tables once a port of that role sent a copy: a request has a pending response
abbrev pub with_copied : Role → HubTables → HandleState → ℕ → HubTables
with_copied Client t h count = with_added t (pending_of h count)
with_copied Server t h count = t

-- what is replied then
abbrev pub copied_reply : Role → HubTables → Reply
copied_reply Client t = Handle t.next_number
copied_reply Server t = Done

-- the loan and the call are counted
abbrev pub with_loan_call : HubTables → HandleState → HubTables
with_loan_call t h = with_call (with_loan t h.port)

-- the reply and the state once the copy is delivered to so many, or the send fails
abbrev pub copied : Role → Given → HubTables → HandleState → Option ℕ → Reply × State
copied role x t h (Some count) =
    (copied_reply role t, state_shown x (with_call (with_loan_call (with_copied role t h count) h)))
copied role x t h None = (Refused UnableToDeliver, state_shown x (with_loan_call t h))

-- The number names a lender, which may make the copy in that slot.
pub record IsCopyToMake (x : Given) (t : HubTables) (node n k : ℕ) (p : Payload) (c : Choice)
    (y : Lender) (slot : ℕ) : Type 0 where
  pub lender : IsLender t node n c.lane y
  pub nodes : AreOnNodes t
  pub role : p.role ≡ y.port.role
  pub elements : p.elements ≡ Some k
  pub passes : loan_refusal x t y k ≡ None
  pub memory : c.memory ≡ true
  pub takes : MayTakeLoan x t y.port slot

-- ---- laws of sends

-- A client with as many pending responses as it may have is refused; its loan is counted.
abbrev pub SpentCopiesAreRefused : Type 0
SpentCopiesAreRefused =
    (x : Given) (t : HubTables) (node n k : ℕ) (p : Payload) (c : Choice) (payload : List ℕ)
    (y : Lender) (slot : ℕ) → IsCopyToMake x t node n k p c y slot → y.port.role ≡ Client
    → goes_out Client t y ≡ false
    → call_by (state_shown x t) node (SendCopy n p) c payload
    ≡ (
      Refused ExceedsMaxActiveRequests,
      state_shown x
          (with_loan_call (with_got_back t y.port) (loaned_handle t y false slot)),
    )

-- A response that nobody awaits goes to nobody.
abbrev pub UnawaitedCopiesGoToNobody : Type 0
UnawaitedCopiesGoToNobody =
    (x : Given) (t : HubTables) (node n k : ℕ) (p : Payload) (c : Choice) (payload : List ℕ)
    (y : Lender) (slot : ℕ) → IsCopyToMake x t node n k p c y slot → y.port.role ≡ Server
    → goes_out Server t y ≡ false
    → call_by (state_shown x t) node (SendCopy n p) c payload
    ≡ copied Server x (with_got_back t y.port) (loaned_handle t y false slot) (Some 0)

-- A copy is sent without overflow.
abbrev pub CopiesAreSent : Type 0
CopiesAreSent =
    (x : Given) (t : HubTables) (node n k : ℕ) (p : Payload) (c : Choice) (payload : List ℕ)
    (y : Lender) (slot : ℕ) → IsCopyToMake x t node n k p c y slot
    → goes_out y.port.role t y ≡ true → overflows_by y.port.role t.settings ≡ false
    → (let x' : Given = with_words x t y slot p.words in
    let u : HubTables = with_copy t y k slot in
    let h : HandleState = loaned_handle t y false slot in
    let z : Sending = copy_sending y.port.role x' u h in
    MaySendFrom x' u z h.pool h.slot
    → call_by (state_shown x t) node (SendCopy n p) c payload
    ≡ copied y.port.role x' (with_sent u z slot) h (sent_count u z))

-- A copy is sent with overflow.
abbrev pub CopiesAreSentOver : Type 0
CopiesAreSentOver =
    (x : Given) (t : HubTables) (node n k : ℕ) (p : Payload) (c : Choice) (payload : List ℕ)
    (y : Lender) (slot : ℕ) → IsCopyToMake x t node n k p c y slot
    → goes_out y.port.role t y ≡ true → overflows_by y.port.role t.settings ≡ true
    → (let x' : Given = with_words x t y slot p.words in
    let u : HubTables = with_copy t y k slot in
    let h : HandleState = loaned_handle t y false slot in
    let z : Sending = copy_sending y.port.role x' u h in
    MaySendFrom x' u z h.pool h.slot
    → call_by (state_shown x t) node (SendCopy n p) c payload
    ≡ copied y.port.role x' (with_pushed u z slot) h (Some (length (targets z))))
