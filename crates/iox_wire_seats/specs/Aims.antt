-- Which places a seat knows of, and what a step of it does.
use Rattle.std.specs.Prelude.{◌≡◌, ◌+◌, ◌-◌, ◌<◌, ◌≤◌, ◌^◌, ℕ, Bool, true, false, if◌then◌else◌, nat_lt, List, [], ◌∷◌, length, Option, option_map}
use Rattle.iox_model.specs.declared.kind.Kind.TheVariants.{ActiveRequest}
use Rattle.iox_model.specs.Handles.{is_received, same_kind}
use Rattle.iox_model.specs.Messages.{names, names_with_hint}
use Rattle.iox_model.specs.declared.way.RequestState.{RequestState}
use Rattle.iox_steps.specs.declared.side.Pushing.{Pushing}
use Rattle.iox_steps.specs.declared.side.Pushing.TheVariants as pushing
use Rattle.iox_steps.specs.declared.side.QueueEvent.{QueueEvent}
use Rattle.iox_steps.specs.declared.side.QueueEvent.TheVariants.{Publish}
use Rattle.iox_steps.specs.declared.site.QueueKind.{QueueKind}
use Rattle.iox_steps.specs.declared.site.Site.{Site}
use Rattle.iox_steps.specs.Sites.{size}
use Rattle.iox_word_map.specs.WordMaps.{MessageQueue, ReturningQueue}
use Rattle.iox_word_places.specs.Programs.{site_of, state_place, word_place}
use Rattle.iox_wire_locals.specs.declared.table.Entry.{Entry}
use Rattle.iox_wire_locals.specs.declared.table.Desk.{Desk}
use Rattle.iox_wire_locals.specs.declared.local.Local.{Local}
use Rattle.iox_wire_locals.specs.declared.local.Ending.TheVariants as endings
use Rattle.iox_wire_locals.specs.declared.local.Local.TheVariants.{Ends, ReleaseReturns, ReleaseLooks, ReleaseExchanges, ReleaseCloses, Reads, Writes, Checks, Hints, HintExchanges, Seeks}
use Rattle.iox_wire_locals.specs.Stored.{header_length}
use Rattle.iox_wire_locals.specs.Tables.{Setting, region_word, way_in, state_in, words_to_read, words_before_payload}
use Rattle.iox_wire_locals.specs.Steps.{next, tells}
use Rattle.iox_wire_seats.specs.declared.at.At.{At}
use Rattle.iox_wire_seats.specs.declared.at.At.TheVariants as at
use Rattle.iox_wire_seats.specs.declared.at.SeatReply.{SeatReply}
use Rattle.iox_wire_seats.specs.declared.message_places.MessagePlaces.{MessagePlaces}
use Rattle.iox_wire_seats.specs.declared.stops.Stop.{Stop}
use Rattle.iox_wire_seats.specs.Desks.{MayGiveUp}
use Rattle.iox_wire_seats.specs.Seats.{Placed, reply_with}

-- ---- memory

-- the queue that stands there is in memory
abbrev pub IsInMemory : Site → Type 0
IsInMemory site = site.base + size site < 2 ^ 64

-- the queue of that kind and capacity that stands at a stop
abbrev pub queue_at : QueueKind → ℕ → Stop → Site
queue_at kind capacity s = record { kind = kind; base = s.place; capacity = capacity }

-- where word k behind the header of a message stands
abbrev pub word_at : MessagePlaces → ℕ → ℕ
word_at m k = if nat_lt k m.user_count then m.user + k else m.payload + (k - m.user_count)

-- the user header, and so many words of the payload, are in memory
abbrev pub AreInMemory : MessagePlaces → ℕ → Type 0
AreInMemory m count = (m.user + m.user_count < 2 ^ 64) × (m.payload + count < 2 ^ 64)

-- ---- what a seat keeps to

-- what is given back was received; what is not received is a port's own
abbrev pub IsOfKind : At → Entry → Type 0
IsOfKind at.Drops e = is_received e.kind ≡ true
IsOfKind at.DropsOwn e = is_received e.kind ≡ false
IsOfKind at.ReleaseReturns e = is_received e.kind ≡ true
IsOfKind at.ReleaseLooks e = is_received e.kind ≡ true
IsOfKind at.ReleaseExchanges e = is_received e.kind ≡ true
IsOfKind at.ReleaseCloses e = is_received e.kind ≡ false
IsOfKind name e = Unit {0}

-- what is the port's own has a use at its desk
abbrev pub HasUse : At → Entry → List Desk → Type 0
HasUse at.DropsOwn e desks = MayGiveUp e desks
HasUse at.ReleaseCloses e desks = MayGiveUp e desks
HasUse name e desks = Unit {0}

-- a read has words left, and room for them; a write has words left
abbrev pub HasWordsLeft : At → List ℕ → (next count capacity : ℕ) → Type 0
HasWordsLeft at.Reads words next count capacity = (length words < count) × (count ≤ capacity)
HasWordsLeft at.Writes words next count capacity = (next < count) × (count ≡ length words)
HasWordsLeft name words next count capacity = Unit {0}

-- with a hint the word of the request's state is still one
abbrev pub HasRoomForHint : Entry → Type 0
HasRoomForHint e = e.request + 1 < 2 ^ 63

-- such a request has a hint given
abbrev pub MayBeHinted : At → Entry → Type 0
MayBeHinted at.Hints e = HasRoomForHint e
MayBeHinted at.HintExchanges e = HasRoomForHint e
MayBeHinted name e = Unit {0}

-- queues of that kind and capacity, which stand there, are in memory
abbrev pub QueuesInMemory : QueueKind → ℕ → List Stop → Type 0
QueuesInMemory kind capacity [] = Unit {0}
QueuesInMemory kind capacity (s ∷ stops) =
    IsInMemory (queue_at kind capacity s) × QueuesInMemory kind capacity stops

-- where a call looks at queues, all that it visits are in memory
abbrev pub AreVisited : At → Site → List Stop → Type 0
AreVisited at.Seeks site stops = QueuesInMemory site.kind site.capacity stops
AreVisited name site stops = Unit {0}

-- ---- the places that it knows of

-- the place that it knows of is that of the request state of the entry, if it is a request
abbrev pub KnowsState : Setting → Entry → ℕ → Type 0
KnowsState p e place =
    same_kind e.kind ActiveRequest ≡ true → place ≡ state_place p.layout (state_in e)

-- The words that a read of the entry's message gives are so many, and stand there.
pub record StandAt (p : Setting) (e : Entry) (m : MessagePlaces) (count : ℕ) : Type 0 where
  pub all : count ≡ words_to_read p e
  pub places : (k : ℕ) → k < count
      → word_at m k
      ≡ word_place p.layout e.sender
      (region_word p e.sender e.slot (header_length (p.port e.sender).role + k))

-- So many words of the payload of the entry's message stand from there.
abbrev pub IsPayloadAt : Setting → Entry → (place count : ℕ) → Type 0
IsPayloadAt p e place count =
    (k : ℕ) → k < count
    → place + k
    ≡ word_place p.layout e.port (region_word p e.port e.slot (words_before_payload p e.port + k))

-- the request states of these ways stand there
abbrev pub AreStates : Setting → List Stop → Type 0
AreStates p [] = Unit {0}
AreStates p (s ∷ stops) = (s.place ≡ state_place p.layout s.way) × AreStates p stops

-- the messages of these ways wait there, in queues of that kind and capacity
abbrev pub AreQueues : Setting → QueueKind → ℕ → List Stop → Type 0
AreQueues p kind capacity [] = Unit {0}
AreQueues p kind capacity (s ∷ stops) =
    (queue_at kind capacity s ≡ site_of p.layout (MessageQueue s.way))
    × AreQueues p kind capacity stops

-- the places that it knows of are those of the words that its call still accesses
abbrev pub AreAimed : Setting → Local → Placed → Type 0
AreAimed p (ReleaseReturns e place) x =
    (x.site ≡ site_of p.layout (ReturningQueue (way_in e))) × KnowsState p e x.state
AreAimed p (ReleaseLooks e) x = x.state ≡ state_place p.layout (state_in e)
AreAimed p (ReleaseExchanges e old) x = x.state ≡ state_place p.layout (state_in e)
AreAimed p (ReleaseCloses e w left) x =
    (x.state ≡ state_place p.layout w) × AreStates p x.left
AreAimed p (Reads e words) x = StandAt p e x.message x.count
AreAimed p (Writes e words next) x = IsPayloadAt p e x.message.payload (length words)
AreAimed p (Checks e hinted w left) x = (x.state ≡ state_place p.layout w) × AreStates p x.left
AreAimed p (Hints e w left) x = (x.state ≡ state_place p.layout w) × AreStates p x.left
AreAimed p (HintExchanges e w left) x = (x.state ≡ state_place p.layout w) × AreStates p x.left
AreAimed p (Seeks w place left) x =
    (x.site ≡ site_of p.layout (MessageQueue w))
    × AreQueues p x.site.kind x.site.capacity x.left
AreAimed p local x = Unit {0}

-- the same of the place at which the node's own call stands
abbrev pub IsAimed : Setting → Placed → Type 0
IsAimed p x = AreAimed p x.seat.local x

-- ---- a step

-- After an access that found this it is the next, the other numbers being as they may,
abbrev pub GoesOn : Placed → ℕ → Placed → Type 0
GoesOn old seen new = (p : Setting) → IsAimed p old → new.seat ≡ next p old.seat seen

-- it answers this if its call is over,
abbrev pub Answers : Placed → ℕ → Option SeatReply → Placed → Type 0
Answers old seen reply new =
    (p : Setting) → IsAimed p old → tells p old.seat seen ≡ option_map (reply_with new.words) reply

-- and it knows the places of what it accesses next.
abbrev pub StaysAimed : Placed → Placed → Type 0
StaysAimed old new = (p : Setting) → IsAimed p old → IsAimed p new

-- There is as much room for ways, and for the words of a message.
pub record HasSameRooms (old new : Placed) : Type 0 where
  pub ways : new.ways_room ≡ old.ways_room
  pub words : new.words_room ≡ old.words_room

-- Room is neither made nor lost, for handles, for ways, and for words.
pub record KeepsRoom (old new : Placed) : Type 0 where
  pub handles : new.room + length new.seat.table ≡ old.room + length old.seat.table
  pub rooms : HasSameRooms old new

-- ---- where it is

-- the node releases what it received
abbrev pub IsReleasing : Local → Type 0
IsReleasing (Ends (endings.Drops e)) = is_received e.kind ≡ true
IsReleasing (ReleaseReturns e place) = Unit {0}
IsReleasing (ReleaseLooks e) = Unit {0}
IsReleasing (ReleaseExchanges e old) = Unit {0}
IsReleasing local = ⊥

-- the node releases what is its port's own
abbrev pub IsClosing : Local → Type 0
IsClosing (Ends (endings.Drops e)) = is_received e.kind ≡ false
IsClosing (ReleaseCloses e w left) = Unit {0}
IsClosing local = ⊥

-- its call ends, and changes nothing of the node
abbrev pub IsTelling : Local → Type 0
IsTelling (Ends (endings.Fills e words)) = Unit {0}
IsTelling (Ends (endings.Refuses r)) = Unit {0}
IsTelling (Ends endings.Done) = Unit {0}
IsTelling (Ends (endings.Answers told)) = Unit {0}
IsTelling (Ends (endings.Words words)) = Unit {0}
IsTelling local = ⊥

-- the node writes
abbrev pub IsWriting : Local → Type 0
IsWriting (Writes e words next) = Unit {0}
IsWriting local = ⊥

-- the node looks at request states
abbrev pub IsChecking : Local → Type 0
IsChecking (Checks e hinted w left) = Unit {0}
IsChecking local = ⊥

-- the node gives hints
abbrev pub IsHinting : Local → Type 0
IsHinting (Hints e w left) = Unit {0}
IsHinting (HintExchanges e w left) = Unit {0}
IsHinting local = ⊥

-- the node looks for messages
abbrev pub IsSeeking : Local → Type 0
IsSeeking (Seeks w place left) = Unit {0}
IsSeeking local = ⊥

-- the node reads
abbrev pub IsReading : Local → Type 0
IsReading (Reads e words) = Unit {0}
IsReading local = ⊥

-- whether a party is in no program
abbrev pub is_at_rest : Pushing → Bool
is_at_rest pushing.AtRest = true
is_at_rest party = false

-- a value joined those that wait
abbrev pub is_publish : QueueEvent → Bool
is_publish (Publish value) = true
is_publish event = false

-- whether a request state names the request, with a hint if that is asked
abbrev pub shows : RequestState → ℕ → Bool → Bool
shows shown request hinted =
    if hinted then names_with_hint shown request else names shown request
