-- Which places a loan knows of, and what a step of it does.
use Rattle.std.specs.Prelude.{◌≡◌, ◌+◌, ◌<◌, ◌^◌, ℕ, Bool, true, false, List, length, Option, Some, None, option_map}
use Rattle.iox_model.specs.Commands.{Reply}
use Rattle.iox_steps.specs.declared.pop.Pop.TheVariants as pop
use Rattle.iox_steps.specs.declared.side.Popping.TheVariants as popping
use Rattle.iox_steps.specs.declared.site.QueueKind.TheVariants.{Index}
use Rattle.iox_word_map.specs.WordMaps.{ReturningQueue}
use Rattle.iox_wire_words.specs.Programs.{site_of, word_place}
use Rattle.iox_wire_locals.specs.declared.local.Local.{Local}
use Rattle.iox_wire_locals.specs.declared.local.Local.TheVariants.{Idle, Ends, LendEmpties, LendStores}
use Rattle.iox_wire_locals.specs.declared.local.Ending.TheVariants as endings
use Rattle.iox_wire_locals.specs.declared.table.Entry.{Entry}
use Rattle.iox_wire_locals.specs.declared.seat.Seat.{Seat}
use Rattle.iox_wire_locals.specs.Begins.{is_busy}
use Rattle.iox_wire_locals.specs.Courses.{placed}
use Rattle.iox_wire_locals.specs.Lendings.{next_handle}
use Rattle.iox_wire_locals.specs.NewLoans.{entry_in, loan_words}
use Rattle.iox_wire_locals.specs.Settlements.{reply_of}
use Rattle.iox_wire_locals.specs.Steps.{closed, ending_at, next, tells}
use Rattle.iox_wire_locals.specs.Tables.{Setting, region_word}
use Rattle.iox_wire_seats.specs.Aims.{KeepsRoom, QueuesInMemory}
use Rattle.iox_wire_seats.specs.Desks.{IsUsed}
use Rattle.iox_wire_seats.specs.Lends.{MayLend}
use Rattle.iox_wire_seats.specs.Seats.{Placed}
use Rattle.iox_wire_seats.specs.declared.stops.Stop.{Stop}
use Rattle.iox_wire_loans.specs.declared.at.LendAt.{LendAt}
use Rattle.iox_wire_loans.specs.declared.at.LendAt.TheVariants as at
use Rattle.iox_wire_loans.specs.declared.at.LendReply.{LendReply}
use Rattle.iox_wire_loans.specs.declared.at.LendReply.TheVariants as lend_replies
use Rattle.iox_wire_loans.specs.declared.order.Order.{Order}
use Rattle.iox_wire_loans.specs.declared.slot_places.SlotPlaces.{SlotPlaces}
use Rattle.iox_wire_loans.specs.Lenders.{AreReturning, AreSlots, IsWithin, word_at}
use Rattle.iox_wire_loans.specs.Loans.{Loaned, reply_in}
use Rattle.iox_wire_loans.specs.Orders.{loan_of}

-- ---- what a loan keeps to

-- the words are those of both headers, for which each slot has room
abbrev pub FitsSlots : List ℕ → SlotPlaces → Type 0
FitsSlots words places = (length words ≡ places.header + places.user) × IsWithin places

-- the queues that it visits are in memory
abbrev pub AreVisited : LendAt → (room : ℕ) → List Stop → Type 0
AreVisited at.Empties room left = QueuesInMemory Index room left
AreVisited name room left = Unit {0}

-- it has its words
abbrev pub HasWords : LendAt → List ℕ → SlotPlaces → Type 0
HasWords at.Empties words places = FitsSlots words places
HasWords at.Stores words places = FitsSlots words places
HasWords name words places = Unit {0}

-- some are still to be stored, and there is memory
abbrev pub HasWordsLeft : LendAt → List ℕ → SlotPlaces → (next first user : ℕ) → Type 0
HasWordsLeft at.Stores words places next first user =
    (next < length words)
    × (first + places.header < 2 ^ 64)
    × (user + places.user < 2 ^ 64)
HasWordsLeft name words places next first user = Unit {0}

-- ---- the places that it knows of

-- What it was told about the node and of the wire is so.
pub record Knows (p : Setting) (x : Seat) (r : Loaned) : Type 0 where
  pub number : r.order.number ≡ next_handle p x
  pub words : r.words ≡ loan_words p (loan_of r.order)
  pub slots : AreSlots p r.order.port r.places

-- the words of a message stand there on the wire
abbrev pub AreWords : Setting → (port slot : ℕ) → Loaned → Type 0
AreWords p port slot r =
    (k : ℕ) → k < length r.words
    → word_at r.places.header r.first r.user k
    ≡ word_place p.layout port (region_word p port slot k)

-- the places that it knows of are those of the words that it still accesses
abbrev pub AreAimed : Setting → Seat → Local → Loaned → Type 0
AreAimed p x (LendEmpties o w place left) r =
    Knows p x r
    × (r.site ≡ site_of p.layout (ReturningQueue w))
    × AreReturning p r.room r.left
AreAimed p x (LendStores o slot next) r = Knows p x r × AreWords p o.port slot r
AreAimed p x local r = Unit {0}

-- the places that it knows of are those of its place
abbrev pub IsAimed : Setting → Seat → Loaned → Type 0
IsAimed p x r = AreAimed p x r.local r

-- the slot that it took is one of its port's pool
abbrev pub TellsOfSlot : Setting → Local → Type 0
TellsOfSlot p (LendStores o slot next) = slot < (p.port o.port).pool
TellsOfSlot p local = Unit {0}

-- ---- what the seat beside it keeps

-- the slot that it gets back next is in use
abbrev pub GetsBackUsed : Seat → Local → Type 0
GetsBackUsed x (LendEmpties o w (popping.Pops (pop.Takes read slot)) left) =
    IsUsed o.port slot x.desks
GetsBackUsed x local = Unit {0}

-- What a seat leaves to a loan stays so: it is between calls, and may lend.
pub record LeavesSeat (x y : Placed) : Type 0 where
  pub accesses : y.seat.accesses ≡ x.seat.accesses
  pub room : KeepsRoom x y
  pub rests : is_busy y.seat.local ≡ false
  pub may : (number port : ℕ) → MayLend x number port → MayLend y number port

-- ---- a step

-- After an access that found this the node is the next, the other numbers being as they may,
abbrev pub GoesOn : Placed → Loaned → ℕ → Placed → Loaned → Type 0
GoesOn x r seen y s =
    (p : Setting) → IsAimed p x.seat r → placed y.seat s.local ≡ next p (placed x.seat r.local) seen

-- it answers this if the loan is over,
abbrev pub Answers : Placed → Loaned → ℕ → Option LendReply → Type 0
Answers x r seen reply =
    (p : Setting) → IsAimed p x.seat r
    → tells p (placed x.seat r.local) seen ≡ option_map reply_in reply

-- if it is over it is refused
abbrev pub IsNoHandle : Option LendReply → Type 0
IsNoHandle (Some (lend_replies.Handle number)) = ⊥
IsNoHandle reply = Unit {0}

-- and it knows the places of what it accesses next.
abbrev pub StaysAimed : Placed → Loaned → Placed → Loaned → Type 0
StaysAimed x r y s =
    (p : Setting) → IsAimed p x.seat r → TellsOfSlot p s.local → IsAimed p y.seat s

-- a call that is there now, and is over if it has no access left
abbrev pub after : Setting → Seat → Seat
after p y = closed p y (ending_at y.local)

-- what it answers then
abbrev pub answered : Setting → Seat → Option Reply
answered p y = option_map (reply_of p y) (ending_at y.local)

-- ---- where it is

-- it gets back
abbrev pub IsEmptying : Local → Type 0
IsEmptying (LendEmpties o w place left) = Unit {0}
IsEmptying local = ⊥

-- it stores the words of its message
abbrev pub IsStoring : Local → Type 0
IsStoring (LendStores o slot next) = Unit {0}
IsStoring local = ⊥

-- whether it does
abbrev pub is_storing : Local → Bool
is_storing (LendStores o slot next) = true
is_storing local = false

-- one of its words is stored next
abbrev pub HasNextWord : Local → ℕ → Type 0
HasNextWord (LendStores o slot next) count = next < count
HasNextWord local count = Unit {0}

-- it is a place of a loan of that order
abbrev pub IsLoanAt : Order → Local → Type 0
IsLoanAt order Idle = Unit {0}
IsLoanAt order (Ends (endings.Refuses r)) = Unit {0}
IsLoanAt order (LendEmpties o w place left) = o ≡ loan_of order
IsLoanAt order (LendStores o slot next) = o ≡ loan_of order
IsLoanAt order local = ⊥

-- a word of so many is stored: the next one follows, or it is over with this loan
abbrev pub StoresAhead : Local → (count : ℕ) → Option Entry → Local → Type 0
StoresAhead (LendStores o slot next) count None after =
    (after ≡ LendStores o slot (next + 1)) × (next + 1 < count)
StoresAhead (LendStores o slot next) count (Some loan) after =
    (after ≡ Idle) × (next + 1 ≡ count) × (loan ≡ entry_in o slot)
StoresAhead local count loan after = ⊥

-- there is as much room for ways, and for words
pub record HasSameRooms (r s : Loaned) : Type 0 where
  pub ways : s.ways_room ≡ r.ways_room
  pub words : s.words_room ≡ r.words_room

-- it is the same loan
pub record IsSameLoan (r s : Loaned) : Type 0 where
  pub order : s.order ≡ r.order
  pub words : s.words ≡ r.words
  pub places : s.places ≡ r.places
  pub rooms : HasSameRooms r s

-- a handle of that number is to be lent by that port
abbrev pub IsOrdered : Loaned → (number port : ℕ) → Type 0
IsOrdered r number port = (r.order.number ≡ number) × (r.order.port ≡ port)
