-- What the copy of a request answers, and what it leaves of the tables of a hub.
use Rattle.std.specs.Prelude.{◌≡◌, ◌≤◌, ℕ, Bool, true, false, Option, Some, None, length, ⊤}
use Rattle.iox_model.specs.declared.kind.Kind.TheVariants.{RequestMut}
use Rattle.iox_model.specs.declared.reply.Refusal.TheVariants as refusals
use Rattle.iox_model.specs.declared.reply.Reply.TheVariants as replies
use Rattle.iox_model.specs.declared.way.Way.{Way}
use Rattle.iox_model.specs.Commands.{Payload, Reply}
use Rattle.iox_model.specs.Requests.{fails_at}
use Rattle.iox_tables.specs.HubStates.Changes.{OnEach}
use Rattle.iox_tables.specs.HubStates.Ends.{with_call, with_loan}
use Rattle.iox_tables.specs.HubStates.States.{Given, fixed_of}
use Rattle.iox_tables.specs.HubStates.Tables.{HandleState, HubTables, PortState}
use Rattle.iox_tables.specs.HubStates.Ways.{lane_on}
use Rattle.iox_hub_delivering.specs.Deliveries.{HasDelivered}
use Rattle.iox_tables.specs.HubLending.Choosing.{IsFreeSlot}
use Rattle.iox_tables.specs.HubLoans.Counts.{has_all_active}
use Rattle.iox_tables.specs.HubLoans.Lenders.{lender_of_request}
use Rattle.iox_tables.specs.HubLoans.Slots.{with_contents}
use Rattle.iox_control.specs.Controls.{ControlState, with_tables}
use Rattle.iox_control_copies.specs.Asked.{Asked}
use Rattle.iox_control_copies.specs.Loaned.{Loaned}
use Rattle.iox_control_copies.specs.Place.{Place}
use Rattle.iox_control_copies.specs.Lends.{FindsDry, IsGotBack, IsLoaned, IsRefused, IsLoanRefusal, refusal_of}
use Rattle.iox_control_requests.specs.Requests.{is_failing, ways_of, with_request_sent}
use Rattle.iox_control_requests.specs.Servers.{request_ways}
use Rattle.iox_control_request_copies.specs.declared.copied.Copied.{Copied}
use Rattle.iox_control_request_copies.specs.declared.copied.Copied.TheVariants.{To, Refused, OutOfMemory, ExceedsMaxActiveRequests, UnableToDeliver}

-- ---- what is asked, and what is replied

-- the loan of a copy is filled
abbrev pub to_fill : Asked → Asked
to_fill a = record a { uninit = false }

-- A full server makes the send fail where this says so, by the client's handler or its strategy.
abbrev pub AreFailuresOf : Given → HubTables → ℕ → (Way → Bool) → Type 0
AreFailuresOf x t client fails =
    (w : Way) → w.sender ≡ client → fails_at (fixed_of x t) w ≡ fails w

-- what the copy of a request answers
abbrev pub reply_of_copy : Copied → Reply
reply_of_copy (To number servers place) = replies.Handle number
reply_of_copy (Refused r) = replies.Refused (refusal_of r)
reply_of_copy OutOfMemory = replies.Refused refusals.OutOfMemory
reply_of_copy ExceedsMaxActiveRequests = replies.Refused refusals.ExceedsMaxActiveRequests
reply_of_copy UnableToDeliver = replies.Refused refusals.UnableToDeliver

-- the words of a copy, where it is sent
abbrev pub given_after_copy : Given → Payload → Copied → Given
given_after_copy x q (To number servers place) =
    with_contents x place.pool place.slot
    (record { user = x.request.user; payload = q.words; filled = 0 })
given_after_copy x q (Refused r) = x
given_after_copy x q OutOfMemory = x
given_after_copy x q ExceedsMaxActiveRequests = x
given_after_copy x q UnableToDeliver = x

-- ---- what is left

-- the loan that is sent, as its words and its number tell
abbrev pub loan_of : ℕ → Place → Loaned
loan_of number place = record { number = number; pool = place.pool; slot = place.slot }

-- its handle
abbrev pub handle_of_loan : PortState → Loaned → HandleState
handle_of_loan p l = record {
  node = p.node;
  number = l.number;
  kind = RequestMut;
  port = p.number;
  pool = l.pool;
  slot = l.slot;
  client = p.number;
  connections = 0;
}

-- The client lends a request, and sends it at once to so many servers. What is left is what a loan
-- and its send leave, one after the other: two calls are counted, and the pending response has the
-- number of the loan.
pub record IsLentAndSent (c : ControlState) (p : PortState) (a : Asked) (overflow : Bool) (l : Loaned)
    (servers : ℕ) (new : ControlState) : Type 0 where
  pub loaned : ControlState
  pub lent : IsLoaned c (lender_of_request p 0) a l loaned
  pub count : servers ≡ length (ways_of loaned.tables (handle_of_loan p l) overflow)
  pub left :
      new
      ≡ with_tables loaned
      (record (with_request_sent loaned.tables (handle_of_loan p l) overflow) {
        pools = new.tables.pools;
      })
  pub delivered :
      HasDelivered overflow l.slot (lane_on loaned.tables.ports)
      (ways_of loaned.tables (handle_of_loan p l) overflow) loaned.tables.pools new.tables.pools

-- The request is lost: no test refuses its loan, all is got back, and a slot is free then. Its loan
-- and the call are counted, and nothing else is left of it.
pub record IsLost (c : ControlState) (p : PortState) (a : Asked) (new : ControlState) : Type 0 where
  pub passes : IsLoanRefusal c.tables (lender_of_request p 0) a None
  pub between : ControlState
  pub back : IsGotBack c p between
  pub slot : ℕ
  pub free : IsFreeSlot c.tables p.number p between.tables.pools slot
  pub left : new ≡ with_tables between (with_call (with_loan between.tables p.number))

-- a server is full at which the client's send fails
abbrev pub fails_for : (Way → Bool) → HubTables → ℕ → Bool
fails_for fails t client = is_failing fails t.settings.request_overflow t.ports client

-- what the copy of a client's request comes to, and leaves
abbrev pub Copies :
    ControlState → PortState → Asked → (Way → Bool) → Copied → ControlState → Type 0
Copies c p a fails (To number servers place) new =
    (has_all_active c.tables p.number ≡ false) × (fails_for fails c.tables p.number ≡ false)
    × IsLentAndSent c p a c.tables.settings.request_overflow (loan_of number place) servers new
Copies c p a fails ExceedsMaxActiveRequests new =
    (has_all_active c.tables p.number ≡ true) × IsLost c p a new
Copies c p a fails UnableToDeliver new =
    (has_all_active c.tables p.number ≡ false) × (fails_for fails c.tables p.number ≡ true)
    × IsLost c p a new
Copies c p a fails (Refused r) new = IsRefused c (lender_of_request p 0) a (refusal_of r) new
Copies c p a fails OutOfMemory new = FindsDry c (lender_of_request p 0) a new

-- ---- only for proofs of this crate

-- what it comes to where it cannot be sent: why no loan is made for it, or else it is lost
abbrev pub Loses : ControlState → PortState → Asked → Option Copied → ControlState → Type 0
Loses c p a None new = IsLost c p a new
Loses c p a (Some (Refused r)) new = IsRefused c (lender_of_request p 0) a (refusal_of r) new
Loses c p a (Some OutOfMemory) new = FindsDry c (lender_of_request p 0) a new
Loses c p a (Some (To number servers place)) new = ⊥
Loses c p a (Some ExceedsMaxActiveRequests) new = ⊥
Loses c p a (Some UnableToDeliver) new = ⊥

-- what it comes to where it can be sent, unless no loan is made for it
abbrev pub Sends : ControlState → PortState → Asked → Bool → Copied → ControlState → Type 0
Sends c p a overflow (To number servers place) new =
    IsLentAndSent c p a overflow (loan_of number place) servers new
Sends c p a overflow (Refused r) new = IsRefused c (lender_of_request p 0) a (refusal_of r) new
Sends c p a overflow OutOfMemory new = FindsDry c (lender_of_request p 0) a new
Sends c p a overflow ExceedsMaxActiveRequests new = ⊥
Sends c p a overflow UnableToDeliver new = ⊥

-- where it is sent, no lane to a server has more messages in line than may be
abbrev pub WaitsThen : HubTables → ℕ → Copied → Type 0
WaitsThen t client (To number servers place) =
    OnEach (λ w l. length l.waiting ≤ l.buffer) (lane_on t.ports) (request_ways client t.ports)
WaitsThen t client (Refused r) = ⊤
WaitsThen t client OutOfMemory = ⊤
WaitsThen t client ExceedsMaxActiveRequests = ⊤
WaitsThen t client UnableToDeliver = ⊤
