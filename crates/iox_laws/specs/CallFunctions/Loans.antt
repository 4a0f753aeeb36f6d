-- Loans as functions of lists.
use Rattle.std.specs.Prelude.{ℕ, Bool, true, false, if◌then◌else◌, List, [], Option, Some, None}
use Rattle.std.specs.Option.{option_map_or}
use Rattle.iox_model.specs.declared.call.Call.TheVariants.{Loan, LoanUninit}
use Rattle.iox_model.specs.declared.reply.Refusal.TheVariants.{UnknownNumber, WrongLength, OutOfMemory}
use Rattle.iox_model.specs.Begins.{MayChoose}
use Rattle.iox_model.specs.Commands.{Refusal, Reply}
use Rattle.iox_model.specs.Doings.{Outcome, Loans}
use Rattle.iox_model.specs.Handles.{subject, Subject, ThePort, TheHandle}
use Rattle.iox_model.specs.Loans.{Choice, Order, loan_of, next_request, request_loan_refusal, response_loan_refusal, memory_refusal, lending_ways}
use Rattle.iox_model.specs.Outstandings.{kept, is_dry}
use Rattle.iox_model.specs.Peers.{port_at}
use Rattle.iox_model.specs.Responses.{ordered, shape_for}
use Rattle.iox_model.specs.Settings.{is_count}
use Rattle.iox_model.specs.States.{Port, Handle, Fixed, State}
use Rattle.iox_model.specs.WholeCalls.{MayHold, IsWholeCall}
use Rattle.iox_laws.specs.CallFunctions.Answers.{NoneInHand, answered, answered_with, unless_misnamed, refusing}
use Rattle.iox_laws.specs.CallFunctions.Sends.{emptied}

-- refused, with nothing lent, or else what follows
abbrev pub lent_unless : Option Refusal → State → Outcome × State → Outcome × State
lent_unless (Some r) s v = refusing r s
lent_unless None s v = v

-- what follows once a loan is made
abbrev pub Following : Type 0
Following = State → Handle → Outcome × State

-- it is handed out
abbrev pub handed_out : Following
handed_out s h = (Loans h, s)

-- all is got back, and then the pool decides
abbrev pub lent : Following → State → Handle → Outcome × State
lent after s h =
    let t : State = emptied s (lending_ways s.fixed h) in
    if is_dry t.fixed h.port (kept t h.port []) then refusing OutOfMemory t else after t h

-- the loan of a client, on the lane that was chosen
abbrev pub request_loan : Fixed → Choice → Port → Order → Handle
request_loan f c p o = loan_of f p o p.number c.lane (next_request f p.number)

-- the loan of a server, for a request that it received
abbrev pub response_loan : Fixed → Handle → Port → Order → Handle
response_loan f h p o = loan_of f p o h.client h.lane h.request

-- a client lends: its size, its count of loans, memory, and then the pool
abbrev pub request_lent : Following → State → Choice → Port → Order → Outcome × State
request_lent after s c p o =
    lent_unless (request_loan_refusal s.fixed p o.elements) s
    (lent_unless (memory_refusal s c p.number) s (lent after s (request_loan s.fixed c p o)))

-- a server lends: its size, the loans of the request and of the server, memory, and then the pool
abbrev pub response_lent : Following → State → Choice → Handle → Port → Order → Outcome × State
response_lent after s c h p o =
    lent_unless (response_loan_refusal s.fixed h p o.elements) s
    (lent_unless (memory_refusal s c p.number) s (lent after s (response_loan s.fixed h p o)))

-- what a client, or the server of an active request, lends
abbrev pub lent_by : Following → State → Choice → Subject → Order → Outcome × State
lent_by after s c (ThePort p) o = request_lent after s c p o
lent_by after s c (TheHandle h) o =
    option_map_or (λ p. response_lent after s c h p o) (port_at s.fixed h.port)
    (refusing UnknownNumber s)

-- a length that no message of that role has is refused before all else
abbrev pub lent_of_length : Following → State → Choice → Subject → Order → Outcome × State
lent_of_length after s c x o =
    if is_count (shape_for s.fixed x) o.elements then lent_by after s c x o
    else refusing WrongLength s

-- what is lent where the number names that
abbrev pub lent_from : Following → State → Choice → Option Subject → Order → Outcome × State
lent_from after s c x o =
    option_map_or (λ y. lent_of_length after s c y o) x (refusing UnknownNumber s)

-- what a loan of so many elements comes to, filled or not
abbrev pub loaned_from : State → ℕ → ℕ → ℕ → Choice → Bool → Outcome × State
loaned_from s node n k c uninit =
    lent_from handed_out s c (subject s.fixed node n) (ordered k uninit)

-- the whole call; the loan holds that payload
abbrev pub loaned_by : State → ℕ → ℕ → ℕ → Choice → List ℕ → Reply × State
loaned_by s node n k c payload =
    unless_misnamed s node (Loan n k)
    (answered_with s node payload (loaned_from s node n k c false))

-- the whole call of a loan that is handed out unfilled
abbrev pub loaned_uninit_by : State → ℕ → ℕ → ℕ → Choice → Reply × State
loaned_uninit_by s node n k c =
    unless_misnamed s node (LoanUninit n k) (answered s node (loaned_from s node n k c true))

-- What `loaned_by` says is a whole call, where lane and memory may be so, nothing is in hand, as it
-- is between whole calls, and the loan, if one is made, may hold that payload.
abbrev pub EachLoanIsWhole : Type 0
EachLoanIsWhole =
    (s : State) (node n k : ℕ) (c : Choice) (payload : List ℕ)
    → MayChoose s.fixed node c (Loan n k) → NoneInHand s
    → MayHold s.fixed (loaned_from s node n k c false).0 payload
    → IsWholeCall s node (Loan n k) (loaned_by s node n k c payload).0
    (loaned_by s node n k c payload).1

-- So is what `loaned_uninit_by` says: a loan that is handed out unfilled holds nothing.
abbrev pub EachUninitLoanIsWhole : Type 0
EachUninitLoanIsWhole =
    (s : State) (node n k : ℕ) (c : Choice) → MayChoose s.fixed node c (LoanUninit n k)
    → NoneInHand s
    → IsWholeCall s node (LoanUninit n k) (loaned_uninit_by s node n k c).0
    (loaned_uninit_by s node n k c).1
