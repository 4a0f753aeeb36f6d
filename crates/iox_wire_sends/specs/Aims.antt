-- What the send of a response is told about the wire, what its accesses find, and what a step of it
-- does.
use Rattle.std.specs.Prelude.{◌≡◌, ℕ, Bool, true, not, Option, option_map}
use Rattle.iox_model.specs.declared.kind.Role.TheVariants.{Client}
use Rattle.iox_model.specs.Handles.{is_response_loan}
use Rattle.iox_model.specs.Maps.{has_number}
use Rattle.iox_model.specs.Peers.{others, overflows_on}
use Rattle.iox_model.specs.Requests.{fails_at}
use Rattle.iox_steps.specs.Sides.{popping_event, pushing_event}
use Rattle.iox_steps.specs.declared.side.QueueEvent.TheVariants.{HandOut, Learn, Publish}
use Rattle.iox_word_map.specs.WordMaps.{MessageQueue, ReturningQueue}
use Rattle.iox_wire_words.specs.Programs.{site_of, state_place}
use Rattle.iox_wire_locals.specs.declared.table.Entry.{Entry}
use Rattle.iox_wire_locals.specs.declared.local.Delivery.{Delivery}
use Rattle.iox_wire_locals.specs.declared.local.Ending.TheVariants as endings
use Rattle.iox_wire_locals.specs.declared.local.Local.{Local}
use Rattle.iox_wire_locals.specs.declared.local.Local.TheVariants.{Ends, Idle, SendAsks, SendEmpties, SendLooks, SendPushes, SendEvicts, SendGetsBack}
use Rattle.iox_wire_locals.specs.declared.seat.Seat.{Seat}
use Rattle.iox_wire_locals.specs.Tables.{Setting, state_in}
use Rattle.iox_wire_locals.specs.Desks.{at_desk, gets_back}
use Rattle.iox_wire_locals.specs.Known.{known}
use Rattle.iox_wire_locals.specs.Courses.{placed}
use Rattle.iox_wire_locals.specs.Steps.{next, tells}
use Rattle.iox_wire_seats.specs.Desks.{IsUsed, MayCount, MayDeliver}
use Rattle.iox_wire_seats.specs.Seats.{Placed}
use Rattle.iox_wire_sends.specs.declared.at.RespondReply.{RespondReply}
use Rattle.iox_wire_sends.specs.declared.terms.ResponseTerms.{ResponseTerms}
use Rattle.iox_wire_sends.specs.Dispatches.{Dispatch, reply_in}

-- ---- the wire

-- What it was told about the loan's way, and of its client, is so on the wire.
pub record IsToldOf (p : Setting) (loan : Entry) (t : ResponseTerms) : Type 0 where
  pub messages : t.messages ≡ site_of p.layout (MessageQueue (state_in loan))
  pub returning : t.returning ≡ site_of p.layout (ReturningQueue (state_in loan))
  pub state : t.state ≡ state_place p.layout (state_in loan)
  pub overflow : (x : Seat) → overflows_on (known p x) (state_in loan) ≡ t.overflow
  pub fails : (x : Seat) → fails_at (known p x) (state_in loan) ≡ t.fails
  -- the client is there unless its node is forgotten
  pub node : (x : Seat)
      → has_number loan.client (others (known p x) x.node Client) ≡ not (has_number t.node x.forgot)

-- so it is of a send
abbrev pub IsAimed : Setting → Dispatch → Type 0
IsAimed p r = IsToldOf p r.loan r.terms

-- ---- what an access finds

-- What the access gets back is in use, and what it delivers may be delivered. With what was pushed
-- out got back, the loan is in use still.
abbrev pub FindsAt : Seat → ResponseTerms → Local → ℕ → Type 0
FindsAt x t (SendEmpties d w place left) seen =
    (slot : ℕ) → popping_event t.returning place seen ≡ HandOut slot
    → IsUsed d.loan.port slot x.desks
FindsAt x t (SendPushes d last w place left count) seen =
    (slot : ℕ) → pushing_event t.messages place seen ≡ Publish slot
    → MayDeliver d.loan.port w slot x.desks
FindsAt x t (SendGetsBack d w place left count) seen =
    (slot : ℕ) → pushing_event t.messages place seen ≡ Learn slot
    → IsUsed d.loan.port slot x.desks
    × IsUsed d.loan.port d.loan.slot (at_desk x d.loan.port (gets_back w slot)).desks
FindsAt x t local seen = Unit {0}

-- so it is of a send, with the seat beside it
abbrev pub FindsUsed : Placed → Dispatch → ℕ → Type 0
FindsUsed x r seen = FindsAt x.seat r.terms r.local seen

-- ---- what the seat beside it keeps

-- a loan of the same call may be counted
abbrev pub MayCountMade : Placed → Dispatch → Type 0
MayCountMade x r = r.copied ≡ true → MayCount r.loan.port x.seat.desks

-- ---- what it sends

-- what is delivered is that loan
abbrev pub IsDeliveryOf : Entry → Bool → Delivery → Type 0
IsDeliveryOf loan copied d = (d.loan ≡ loan) × (d.copied ≡ copied)

-- the place is one of the send of that loan, on its way
abbrev pub IsSendOf : Entry → Bool → Local → Type 0
IsSendOf loan copied Idle = Unit {0}
IsSendOf loan copied (Ends (endings.Sends e own count)) = (e ≡ loan) × (own ≡ copied)
IsSendOf loan copied (SendAsks d) = IsDeliveryOf loan copied d
IsSendOf loan copied (SendEmpties d w place left) =
    IsDeliveryOf loan copied d × (w ≡ state_in loan)
IsSendOf loan copied (SendLooks d w place left full) =
    IsDeliveryOf loan copied d × (w ≡ state_in loan)
IsSendOf loan copied (SendPushes d last w place left count) =
    IsDeliveryOf loan copied d × (w ≡ state_in loan)
IsSendOf loan copied (SendEvicts d w place left count) =
    IsDeliveryOf loan copied d × (w ≡ state_in loan)
IsSendOf loan copied (SendGetsBack d w place left count) =
    IsDeliveryOf loan copied d × (w ≡ state_in loan)
IsSendOf loan copied local = ⊥

-- Its loan is a response, and its place one of the send of that.
pub record SendsItsResponse (r : Dispatch) : Type 0 where
  pub kind : is_response_loan r.loan.kind ≡ true
  pub place : IsSendOf r.loan r.copied r.local

-- ---- a step

-- After an access that found this the node is the next,
abbrev pub GoesOn : Placed → Dispatch → ℕ → Placed → Dispatch → Type 0
GoesOn x r seen y s =
    (p : Setting) → IsAimed p r → placed y.seat s.local ≡ next p (placed x.seat r.local) seen

-- it answers this if the send is over,
abbrev pub Answers : Placed → Dispatch → ℕ → Option RespondReply → Type 0
Answers x r seen reply =
    (p : Setting) → IsAimed p r
    → tells p (placed x.seat r.local) seen ≡ option_map reply_in reply

-- and it is the send of the same loan, told about the same way.
pub record IsSameSend (r s : Dispatch) : Type 0 where
  pub loan : s.loan ≡ r.loan
  pub copied : s.copied ≡ r.copied
  pub terms : s.terms ≡ r.terms

-- ---- where it is

-- it asks for the request state
abbrev pub IsAsking : Local → Type 0
IsAsking (SendAsks d) = Unit {0}
IsAsking local = ⊥

-- it gets back what returned
abbrev pub IsEmptying : Local → Type 0
IsEmptying (SendEmpties d w place left) = Unit {0}
IsEmptying local = ⊥

-- it looks whether the client is full
abbrev pub IsLooking : Local → Type 0
IsLooking (SendLooks d w place left full) = Unit {0}
IsLooking local = ⊥

-- it delivers
abbrev pub IsPushing : Local → Type 0
IsPushing (SendPushes d last w place left count) = Unit {0}
IsPushing local = ⊥

-- it may push the oldest out
abbrev pub IsEvicting : Local → Type 0
IsEvicting (SendEvicts d w place left count) = Unit {0}
IsEvicting local = ⊥

-- it learns what it pushed out
abbrev pub IsGettingBack : Local → Type 0
IsGettingBack (SendGetsBack d w place left count) = Unit {0}
IsGettingBack local = ⊥
