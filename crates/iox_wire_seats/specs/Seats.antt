-- A node's own part of a wire in memory: what it stands for.
use Rattle.std.specs.Prelude.{◌≡◌, ℕ, Bool, List, [], ◌∷◌, map, slice_index}
use Rattle.iox_model.specs.declared.reply.Reply.TheVariants as replies
use Rattle.iox_model.specs.declared.way.Way.{Way}
use Rattle.iox_model.specs.Commands.{Reply}
use Rattle.iox_steps.specs.declared.site.Site.{Site}
use Rattle.iox_steps.specs.declared.side.Pushing.{Pushing}
use Rattle.iox_steps.specs.declared.side.Popping.{Popping}
use Rattle.iox_word_places.specs.declared.plan.WirePlan.{WirePlan}
use Rattle.iox_word_places.specs.declared.plan.PlanPort.{PlanPort}
use Rattle.iox_word_places.specs.Plans.{layout_of}
use Rattle.iox_wire_locals.specs.declared.table.Entry.{Entry}
use Rattle.iox_wire_locals.specs.declared.table.Desk.{Desk}
use Rattle.iox_wire_locals.specs.declared.table.Borrowed.{Borrowed}
use Rattle.iox_wire_locals.specs.declared.local.CallRefusal.{CallRefusal}
use Rattle.iox_wire_locals.specs.declared.local.Ending.TheVariants as endings
use Rattle.iox_wire_locals.specs.declared.local.Local.{Local}
use Rattle.iox_wire_locals.specs.declared.local.Local.TheVariants.{Idle, Ends, ReleaseReturns, ReleaseLooks, ReleaseExchanges, ReleaseCloses, Reads, Writes, Checks, Hints, HintExchanges, Seeks}
use Rattle.iox_wire_locals.specs.declared.seat.Seat.{Seat}
use Rattle.iox_wire_locals.specs.Tables.{Setting}
use Rattle.iox_wire_locals.specs.Doings.{refusal_of}
use Rattle.iox_wire_seats.specs.declared.at.At.{At}
use Rattle.iox_wire_seats.specs.declared.at.At.TheVariants as at
use Rattle.iox_wire_seats.specs.declared.at.SeatReply.{SeatReply}
use Rattle.iox_wire_seats.specs.declared.at.SeatReply.TheVariants as seat_replies
use Rattle.iox_wire_seats.specs.declared.message_places.MessagePlaces.{MessagePlaces}
use Rattle.iox_wire_seats.specs.declared.stops.Stop.{Stop}

-- The ways that a call still visits, and for how many there is room.
pub record Visits : Type 0 where
  pub left : List Stop
  pub room : ℕ

-- A seat, for how many more handles it has room, and where the words stand that its call accesses:
-- a queue, a request state, so many words of a message, and those of the ways that it visits next.
-- And the words of the message, as far as it knows them. Last for how many ways, and for how many words
-- of a message, it has room.
pub record Placed : Type 0 where
  pub seat : Seat
  pub room : ℕ
  pub site : Site
  pub state : ℕ
  pub message : MessagePlaces
  pub count : ℕ
  pub words : List ℕ
  pub left : List Stop
  pub ways_room : ℕ
  pub words_room : ℕ

-- What stands beside the name of a place.
pub record Beside : Type 0 where
  pub entry : Entry
  pub pushing : Pushing
  pub popping : Popping
  pub seen : ℕ
  pub words : List ℕ
  pub next : ℕ
  pub refusal : CallRefusal
  pub flag : Bool
  pub way : Way
  pub left : List Stop

-- the ways of stops
abbrev pub ways_of : List Stop → List Way
ways_of stops = map (λ s. s.way) stops

-- the place of a call that a name and what stands beside it stand for
abbrev pub local_of : At → Beside → Local
local_of at.Idle b = Idle
local_of at.Drops b = Ends (endings.Drops b.entry)
local_of at.DropsOwn b = Ends (endings.Drops b.entry)
local_of at.Fills b = Ends (endings.Fills b.entry b.words)
local_of at.Refuses b = Ends (endings.Refuses b.refusal)
local_of at.TellsDone b = Ends endings.Done
local_of at.TellsAnswer b = Ends (endings.Answers b.flag)
local_of at.TellsWords b = Ends (endings.Words b.words)
local_of at.ReleaseReturns b = ReleaseReturns b.entry b.pushing
local_of at.ReleaseLooks b = ReleaseLooks b.entry
local_of at.ReleaseExchanges b = ReleaseExchanges b.entry b.seen
local_of at.ReleaseCloses b = ReleaseCloses b.entry b.way (ways_of b.left)
local_of at.Reads b = Reads b.entry b.words
local_of at.Writes b = Writes b.entry b.words b.next
local_of at.Checks b = Checks b.entry b.flag b.way (ways_of b.left)
local_of at.Hints b = Hints b.entry b.way (ways_of b.left)
local_of at.HintExchanges b = HintExchanges b.entry b.way (ways_of b.left)
local_of at.Seeks b = Seeks b.way b.popping (ways_of b.left)

-- a node that did nothing yet
abbrev pub new_seat : ℕ → List Desk → List Borrowed → Seat
new_seat node desks borrowed = record {
  node = node;
  accesses = 0;
  handles_made = 0;
  table = [];
  desks = desks;
  borrowed = borrowed;
  forgot = [];
  local = Idle;
}

-- what a call answers that is over, with these words loaded last
abbrev pub reply_with : List ℕ → SeatReply → Reply
reply_with words seat_replies.Done = replies.Done
reply_with words (seat_replies.Answer told) = replies.Answer told
reply_with words seat_replies.Words = replies.Words words
reply_with words (seat_replies.Refused r) = replies.Refused (refusal_of r)

-- ---- the plan

-- the node of the port at an index
abbrev pub node_at : WirePlan → ℕ → ℕ
node_at plan i = slice_index (map (λ q. q.node) plan.ports.items) i

-- the ports of the setting are those of the plan
abbrev pub ArePorts : Setting → List PlanPort → Type 0
ArePorts p [] = Unit {0}
ArePorts p (q ∷ qs) =
    ((p.port q.number).number ≡ q.number) × ((p.port q.number).node ≡ q.node) × ArePorts p qs

-- The setting is that of the plan.
pub record Agrees (p : Setting) (plan : WirePlan) : Type 0 where
  pub layout : p.layout ≡ layout_of plan
  pub ports : ArePorts p plan.ports.items
