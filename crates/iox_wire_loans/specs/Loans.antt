-- A loan of a node: why it is refused, and what it stands for.
use Rattle.std.specs.Prelude.{ℕ, Bool, not, ◌||◌, ◌==◌, nat_le, List, Option}
use Rattle.iox_model.specs.declared.reply.Reply.TheVariants as replies
use Rattle.iox_model.specs.declared.way.Way.{Way}
use Rattle.iox_model.specs.Commands.{Reply}
use Rattle.iox_model.specs.Maps.{or_else, refused_if}
use Rattle.iox_model.specs.Settings.{is_count}
use Rattle.iox_model.specs.States.{Port}
use Rattle.iox_steps.specs.declared.side.Popping.{Popping}
use Rattle.iox_steps.specs.declared.site.Site.{Site}
use Rattle.iox_wire_locals.specs.declared.local.CallRefusal.{CallRefusal}
use Rattle.iox_wire_locals.specs.declared.local.CallRefusal.TheVariants.{WrongLength, ExceedsMaxLoanSize}
use Rattle.iox_wire_locals.specs.declared.local.Ending.TheVariants as endings
use Rattle.iox_wire_locals.specs.declared.local.Local.{Local}
use Rattle.iox_wire_locals.specs.declared.local.Local.TheVariants.{Idle, Ends, LendEmpties, LendStores}
use Rattle.iox_wire_locals.specs.declared.seat.Seat.{Seat}
use Rattle.iox_wire_locals.specs.declared.table.Entry.{Entry}
use Rattle.iox_wire_locals.specs.Doings.{refusal_of}
use Rattle.iox_wire_locals.specs.Lendings.{request_refusal, response_refusal}
use Rattle.iox_wire_locals.specs.Tables.{Setting}
use Rattle.iox_wire_seats.specs.declared.stops.Stop.{Stop}
use Rattle.iox_wire_seats.specs.Seats.{ways_of}
use Rattle.iox_wire_loans.specs.declared.at.LendAt.{LendAt}
use Rattle.iox_wire_loans.specs.declared.at.LendAt.TheVariants as at
use Rattle.iox_wire_loans.specs.declared.at.LendReply.{LendReply}
use Rattle.iox_wire_loans.specs.declared.at.LendReply.TheVariants as lend_replies
use Rattle.iox_wire_loans.specs.declared.order.Order.{Order}
use Rattle.iox_wire_loans.specs.declared.slot_places.SlotPlaces.{SlotPlaces}
use Rattle.iox_wire_loans.specs.Orders.{loan_of}

-- ---- refusals

-- why a length is refused, where a message has one element or any number, and at most so many
abbrev pub length_refused : (many : Bool) → (longest k : ℕ) → Option CallRefusal
length_refused many longest k =
    or_else (refused_if (not (many || (k == 1))) WrongLength)
    (refused_if (not (nat_le k longest)) ExceedsMaxLoanSize)

-- why a client lends nothing: a length that no request has, and then the rest
abbrev pub request_refused : Setting → Seat → Port → ℕ → Option CallRefusal
request_refused p x q k =
    or_else (refused_if (not (is_count p.limits.request k)) WrongLength) (request_refusal p x q k)

-- why a server lends nothing to that request
abbrev pub response_refused : Setting → Seat → Entry → ℕ → Option CallRefusal
response_refused p x e k =
    or_else (refused_if (not (is_count p.limits.response k)) WrongLength)
    (response_refusal p x e (p.port e.port) k)

-- ---- a loan

-- A loan: where it is, what it will be, the ways that follow and how many messages may return on
-- each, and where what it accesses stands: a queue, and the words of its message. Last for how many
-- ways, and for how many words, it has room.
pub record Loaned : Type 0 where
  pub local : Local
  pub order : Order
  pub left : List Stop
  pub room : ℕ
  pub site : Site
  pub words : List ℕ
  pub places : SlotPlaces
  pub first : ℕ
  pub user : ℕ
  pub ways_room : ℕ
  pub words_room : ℕ

-- what stands beside the name of a place
pub record Beside : Type 0 where
  pub order : Order
  pub way : Way
  pub left : List Stop
  pub popping : Popping
  pub slot : ℕ
  pub next : ℕ
  pub refusal : CallRefusal

-- the place of a call that a name and what stands beside it stand for
abbrev pub local_of : LendAt → Beside → Local
local_of at.Rest b = Idle
local_of at.Refuses b = Ends (endings.Refuses b.refusal)
local_of at.Empties b = LendEmpties (loan_of b.order) b.way b.popping (ways_of b.left)
local_of at.Stores b = LendStores (loan_of b.order) b.slot b.next

-- the machine's name of a reply
abbrev pub reply_in : LendReply → Reply
reply_in (lend_replies.Handle number) = replies.Handle number
reply_in (lend_replies.Refused r) = replies.Refused (refusal_of r)
