-- What is asked of a loan, and what a loan leaves.
use Rattle.std.specs.Prelude.{◌≡◌, ℕ, ◌-◌, ◌<◌, ◌%◌, ◌^◌, Bool, true, false, if◌then◌else◌, List, [], Option, Some, None}
use Rattle.std.specs.List.{list_all}
use Rattle.iox_model.specs.declared.kind.Role.{Role}
use Rattle.iox_model.specs.declared.kind.Role.TheVariants.{Client, Server}
use Rattle.iox_model.specs.declared.reply.Refusal.TheVariants as refusals
use Rattle.iox_model.specs.declared.reply.Reply.TheVariants as replies
use Rattle.iox_model.specs.Commands.{Refusal, Reply}
use Rattle.iox_model.specs.Settings.{Shape, has_layout, is_count}
use Rattle.iox_model.specs.WholeCalls.{default_payload}
use Rattle.iox_tables.specs.HubStates.Tables.{HubTables, PoolState, PortState, port_in, slot_at, slots_of}
use Rattle.iox_tables.specs.HubStates.States.{Given}
use Rattle.iox_hub_ports.specs.Ports.{info_of}
use Rattle.iox_slots.specs.Pools.{Takes}
use Rattle.iox_slots.specs.Slots.{taken}
use Rattle.iox_tables.specs.HubLoans.Counts.{is_lane_taken}
use Rattle.iox_tables.specs.HubLoans.Lenders.{Lender, loan_refusal, shape_in}
use Rattle.iox_tables.specs.HubLoans.Loans.{loaned_handle, loaned_slot, with_handed_out, with_loaned}
use Rattle.iox_tables.specs.HubLoans.Slots.{SlotContents, with_contents}
use Rattle.iox_tables.specs.HubLending.Choosing.{IsFreeSlot}
use Rattle.iox_tables.specs.HubLending.Emptying.{AreGotBack, with_back}
use Rattle.iox_tables.specs.HubLending.Keeping.{has_holder}
use Rattle.iox_control.specs.Controls.{ControlState, with_tables}
use Rattle.iox_control_lending.specs.declared.asked.Asked.{Asked}
use Rattle.iox_control_lending.specs.declared.asked.Lending.{Lending}
use Rattle.iox_control_lending.specs.declared.asked.Loaned.{Loaned}
use Rattle.iox_control_lending.specs.declared.asked.LoanRefusal.{LoanRefusal}
use Rattle.iox_control_lending.specs.declared.asked.LoanRefusal.TheVariants.{CallsSpent, WrongLength, ExceedsMaxLoanSize, ExceedsMaxLoans, WantOfMemory}
use Rattle.iox_control_lending.specs.declared.asked.Lent.{Lent}
use Rattle.iox_control_lending.specs.declared.asked.Lent.TheVariants.{Handle, Refused, OutOfMemory}

-- ---- what is asked, and what is replied

-- Messages of the shape may have so many elements, and can be addressed, where it was said so.
pub record IsAskedOf (shape : Shape) (a : Asked) : Type 0 where
  pub count : is_count shape a.elements ≡ a.is_count
  pub layout : has_layout shape a.elements ≡ a.has_layout

-- why no loan is made, but for the pool, as the machine says it
abbrev pub refusal_of : LoanRefusal → Refusal
refusal_of CallsSpent = refusals.CallsSpent
refusal_of WrongLength = refusals.WrongLength
refusal_of ExceedsMaxLoanSize = refusals.ExceedsMaxLoanSize
refusal_of ExceedsMaxLoans = refusals.ExceedsMaxLoans
refusal_of WantOfMemory = refusals.WantOfMemory

-- what a loan answers
abbrev pub reply_of_loan : Lent → Reply
reply_of_loan (Handle l) = replies.Handle l.number
reply_of_loan (Refused r) = replies.Refused (refusal_of r)
reply_of_loan OutOfMemory = replies.Refused refusals.OutOfMemory

-- the payload of a new loan: none where it is unfilled, else the default of each element
abbrev pub first_payload : Shape → Asked → List ℕ
first_payload shape a = if a.uninit then [] else default_payload shape a.elements

-- the words of a new loan
abbrev pub first_contents : Shape → Asked → SlotContents
first_contents shape a =
    record { user = shape.user; payload = first_payload shape a; filled = 0 }

-- the words once the loan is made: its slot has new ones
abbrev pub given_after : Given → Shape → Asked → Lent → Given
given_after x shape a (Handle l) = with_contents x l.pool l.slot (first_contents shape a)
given_after x shape a (Refused r) = x
given_after x shape a OutOfMemory = x

-- ---- who lends

-- the port lends, for that request
abbrev pub lender_of : PortState → Lending → Lender
lender_of p l = record { port = p; client = l.client; lane = l.lane; request = l.request }

-- the same lender, on another lane
abbrev pub on_lane : Lender → ℕ → Lender
on_lane y lane = record y { lane = lane }

-- whatever the words are, that is why no such loan is made, but for the pool
abbrev pub IsLoanRefusal : HubTables → Lender → Asked → Option Refusal → Type 0
IsLoanRefusal t y a r =
    (x : Given) → IsAskedOf (shape_in x t y.port) a → loan_refusal x t y a.elements ≡ r

-- a loan may be on that lane: a client's on one of its own that is not taken; a server's on that of
-- its request
abbrev pub MayBeOn : Role → HubTables → Lender → ℕ → Type 0
MayBeOn Client t y lane = (lane < y.port.size) × (is_lane_taken t y.port.number lane ≡ false)
MayBeOn Server t y lane = y.lane ≡ lane

-- what is known of the port of a lender
pub record IsPortOf (t : HubTables) (l : Lending) : Type 0 where
  pub port : PortState
  pub there : port_in t.ports l.port.number ≡ Some port
  pub info : l.port ≡ info_of port

-- the loan of a client is for its next request, whose id is how many loans it made, modulo 2^62
abbrev pub HasNextId : Lending → Type 0
HasNextId l = l.port.role ≡ Client → l.request ≡ l.port.loans % 2 ^ 62

-- ---- what a loan leaves

-- the loan in that slot is handed out
abbrev pub with_handed : ControlState → Lender → Bool → ℕ → ControlState
with_handed c y uninit slot =
    record c {
      tables = with_handed_out c.tables (loaned_handle c.tables y uninit slot);
      room = c.room - 1;
    }

-- A slot that nobody had has a request, on a lane of the client that is not taken.
pub record IsOnFree
    (t : HubTables) (client size pool slot serial request elements : ℕ)
    (pools : List (Option PoolState)) : Type 0 where
  pub lane : ℕ
  pub within : lane < size
  pub free : is_lane_taken t client lane ≡ false
  pub takes : Takes t.pools pool slot (taken serial lane request elements) pools

-- A slot that nobody had has the message of the loan.
pub record IsTaken
    (t : HubTables) (y : Lender) (elements slot : ℕ) (pools : List (Option PoolState)) : Type 0
  where
    pub lane : ℕ
    pub chosen : MayBeOn y.port.role t y lane
    pub takes : Takes t.pools y.port.pool slot (loaned_slot (on_lane y lane) elements) pools

-- The loan is made in a slot that nobody had.
pub record LoanIsMade (c : ControlState) (y : Lender) (a : Asked) (l : Loaned) (new : ControlState)
    : Type 0 where
  pub number : l.number ≡ c.tables.next_number
  pub pool : l.pool ≡ y.port.pool
  pub within : l.slot < y.port.size
  pub free : (slot_at c.tables.pools y.port.pool l.slot).holders ≡ 0
  pub lane : ℕ
  pub chosen : MayBeOn y.port.role c.tables y lane
  pub left :
      new
      ≡ record c {
        tables = with_loaned c.tables (on_lane y lane) a.uninit a.elements l.slot;
        room = c.room - 1;
      }

-- All that was given back to the port is got back first.
pub record IsGotBack (c : ControlState) (p : PortState) (new : ControlState) : Type 0 where
  pub left : new ≡ with_tables c (with_back c.tables p new.tables.pools)
  pub back : AreGotBack c.tables p new.tables.pools

-- Once the port got back all that was given back, nobody has some slot of its pool.
pub record HasFreeThen (t : HubTables) (p : PortState) : Type 0 where
  pub pools : List (Option PoolState)
  pub back : AreGotBack t p pools
  pub slot : ℕ
  pub free : IsFreeSlot t p.number p pools slot

-- No test refuses the loan, and there will be a slot for it.
pub record MayBeMade (c : ControlState) (y : Lender) (a : Asked) : Type 0 where
  pub passes : IsLoanRefusal c.tables y a None
  pub free : HasFreeThen c.tables y.port

-- No test refuses the loan. All is got back, and it is made.
pub record IsLoaned (c : ControlState) (y : Lender) (a : Asked) (l : Loaned) (new : ControlState)
    : Type 0 where
  pub passes : IsLoanRefusal c.tables y a None
  pub between : ControlState
  pub back : IsGotBack c y.port between
  pub made : LoanIsMade between y a l new

-- No test refuses the loan. All is got back, and then somebody has each slot.
pub record FindsDry (c : ControlState) (y : Lender) (a : Asked) (new : ControlState) : Type 0
  where
    pub passes : IsLoanRefusal c.tables y a None
    pub back : IsGotBack c y.port new
    pub full : list_all has_holder (slots_of new.tables.pools y.port.pool) ≡ true

-- A test refuses the loan, and nothing changes.
pub record IsRefused (c : ControlState) (y : Lender) (a : Asked) (r : Refusal) (new : ControlState)
    : Type 0 where
  pub told : IsLoanRefusal c.tables y a (Some r)
  pub left : new ≡ c

-- what the lender's loan comes to, and leaves
abbrev pub Lends : ControlState → Lender → Asked → Lent → ControlState → Type 0
Lends c y a (Handle l) new = IsLoaned c y a l new
Lends c y a (Refused r) new = IsRefused c y a (refusal_of r) new
Lends c y a OutOfMemory new = FindsDry c y a new
