-- What an access changes of a node's desks, and which message its call has at its next place: all
-- that the fields of a standing node depend on.
use Rattle.std.specs.Prelude.{◌≡◌, ℕ, Bool, true, List, ◌∷◌}
use Rattle.iox_model.specs.declared.way.Way.{Way}
use Rattle.iox_steps.specs.declared.side.QueueEvent.{QueueEvent}
use Rattle.iox_steps.specs.declared.side.QueueEvent.TheVariants.{HandOut, Learn, Publish}
use Rattle.iox_word_map.specs.WordMaps.{MessageQueue, ReturningQueue}
use Rattle.iox_wire_locals.specs.declared.local.Ending.{Ending}
use Rattle.iox_wire_locals.specs.declared.local.Ending.TheVariants as endings
use Rattle.iox_wire_locals.specs.declared.local.Local.{Local}
use Rattle.iox_wire_locals.specs.declared.local.Local.TheVariants.{Checks, Ends, HintExchanges, Hints, LendEmpties, LendStores, Reads, ReceiveAsks, ReceiveLoads, ReceivePops, ReceiveReturns, ReleaseCloses, ReleaseExchanges, ReleaseLooks, ReleaseReturns, SendAsks, SendEmpties, SendEnds, SendEvicts, SendGetsBack, SendLooks, SendOpens, SendPushes, Writes}
use Rattle.iox_wire_locals.specs.declared.seat.Seat.{Seat}
use Rattle.iox_wire_locals.specs.declared.table.Entry.{Entry}
use Rattle.iox_wire_locals.specs.declared.table.NewLoan.{NewLoan}
use Rattle.iox_wire_locals.specs.Desks.{at_desk, delivers, gets_back, picks}
use Rattle.iox_wire_locals.specs.Known.{free_slots}
use Rattle.iox_wire_locals.specs.NewLoans.{entry_in}
use Rattle.iox_wire_locals.specs.Steps.{advance, pop_finds, push_finds}
use Rattle.iox_wire_locals.specs.Tables.{Setting}

-- ---- the message of a call

-- the message that a call has at its place
pub data CallMessage : Type 0 where
  NoMessage : CallMessage
  -- of a loan in the making, which has its slot
  Lent : (loan : NewLoan) (slot : ℕ) → CallMessage
  -- of a loan that is sent, and whether the same call made it
  Sent : (loan : Entry) (copied : Bool) → CallMessage
  -- of an entry that is written, read, asked or released
  OfEntry : (entry : Entry) → CallMessage
  -- of an entry whose message was given back, and of one whose release is over
  Leaving : (entry : Entry) → CallMessage
  Dropped : (entry : Entry) → CallMessage
  -- taken on a way
  Taken : (way : Way) (slot : ℕ) → CallMessage

-- the message of a call that is over but for its end
abbrev pub message_ended : Ending → CallMessage
message_ended (endings.Lends o slot) = Lent o slot
message_ended (endings.Fills e words) = OfEntry e
message_ended (endings.Sends e copied count) = Sent e copied
message_ended (endings.FailsToSend e copied r) = Sent e copied
message_ended (endings.Receives v w slot header) = Taken w slot
message_ended (endings.Drops e) = Dropped e
message_ended ending = NoMessage

-- the message of a call at its place
abbrev pub message_at : Local → CallMessage
message_at (Ends ending) = message_ended ending
message_at (LendStores o slot next) = Lent o slot
message_at (Writes e words next) = OfEntry e
message_at (SendAsks d) = Sent d.loan d.copied
message_at (SendEmpties d w place left) = Sent d.loan d.copied
message_at (SendLooks d w place left full) = Sent d.loan d.copied
message_at (SendOpens d w left full) = Sent d.loan d.copied
message_at (SendPushes d last w place left count) = Sent d.loan d.copied
message_at (SendEvicts d w place left count) = Sent d.loan d.copied
message_at (SendGetsBack d w place left count) = Sent d.loan d.copied
message_at (SendEnds d last count) = Sent d.loan d.copied
message_at (ReceiveLoads v w slot header left waiting) = Taken w slot
message_at (ReceiveAsks v w slot header left waiting) = Taken w slot
message_at (ReceiveReturns v w slot place left waiting) = Taken w slot
message_at (Reads e words) = OfEntry e
message_at (ReleaseCloses e w left) = OfEntry e
message_at (ReleaseReturns e place) = OfEntry e
message_at (ReleaseLooks e) = Leaving e
message_at (ReleaseExchanges e old) = Leaving e
message_at (Checks e hinted w left) = OfEntry e
message_at (Hints e w left) = OfEntry e
message_at (HintExchanges e w left) = OfEntry e
message_at local = NoMessage

-- a call may let go of a message that is not its port's own
abbrev pub MayLetGo : CallMessage → Type 0
MayLetGo (OfEntry e) = Unit {0}
MayLetGo (Taken w slot) = Unit {0}
MayLetGo other = ⊥

-- the message is that of the entry
abbrev pub IsOfEntry : CallMessage → Entry → Type 0
IsOfEntry (OfEntry k) e = k ≡ e
IsOfEntry (Leaving k) e = k ≡ e
IsOfEntry other e = ⊥

-- the release of an entry has not given its message back
abbrev pub LeavesNothing : CallMessage → Type 0
LeavesNothing (Leaving e) = ⊥
LeavesNothing other = Unit {0}

-- the place gives the entry's message back
abbrev pub IsReturning : Local → Entry → Type 0
IsReturning (ReleaseReturns k place) e = k ≡ e
IsReturning local e = ⊥

-- ---- the desks

-- what an access changes at the desk of a port: a message is got back there, or delivered
pub data DeskChange : Type 0 where
  Unchanged : DeskChange
  GotBack : (port : ℕ) (way : Way) (slot : ℕ) → DeskChange
  Delivered : (port : ℕ) (way : Way) (slot : ℕ) → DeskChange

-- a pop of a returning queue gets the message back that it hands out
abbrev pub popped_back : ℕ → Way → QueueEvent → DeskChange
popped_back port w (HandOut slot) = GotBack port w slot
popped_back port w event = Unchanged

-- a push gets the message back of which it learns that it was pushed out
abbrev pub pushed_out : ℕ → Way → QueueEvent → DeskChange
pushed_out port w (Learn slot) = GotBack port w slot
pushed_out port w event = Unchanged

-- a push delivers the message that it publishes
abbrev pub delivers_published : ℕ → Way → QueueEvent → DeskChange
delivers_published port w (Publish slot) = Delivered port w slot
delivers_published port w event = Unchanged

-- what an access at that place changes, by what it saw
abbrev pub desk_change : Setting → Local → ℕ → DeskChange
desk_change p (LendEmpties o w place left) seen =
    popped_back o.port w (pop_finds p (ReturningQueue w) place seen)
desk_change p (SendEmpties d w place left) seen =
    popped_back d.loan.port w (pop_finds p (ReturningQueue w) place seen)
desk_change p (SendPushes d last w place left count) seen =
    delivers_published d.loan.port w (push_finds p (MessageQueue w) place seen)
desk_change p (SendGetsBack d w place left count) seen =
    pushed_out d.loan.port w (push_finds p (MessageQueue w) place seen)
desk_change p local seen = Unchanged

-- the node after that change
abbrev pub changed : DeskChange → Seat → Seat
changed Unchanged x = x
changed (GotBack port w slot) x = at_desk x port (gets_back w slot)
changed (Delivered port w slot) x = at_desk x port (delivers w slot)

-- ---- an access

-- a receive pops there, and takes that slot
abbrev pub TakesOn : Setting → Local → ℕ → Way → ℕ → Type 0
TakesOn p (ReceivePops v y more place left waiting) seen w slot =
    (y ≡ w) × (pop_finds p (MessageQueue y) place seen ≡ HandOut slot)
TakesOn p local seen w slot = ⊥

-- a loan gets back
abbrev pub IsLending : Local → Type 0
IsLending (LendEmpties o w place left) = Unit {0}
IsLending local = ⊥

-- how a node continues with an access: its desks, and the message of its call
pub data NodeContinues (p : Setting) (x : Seat) (local : Local) (seen : ℕ) (y : Seat) : Type 0 where
  -- the call has the same message
  keeps : (desks : y.desks ≡ (changed (desk_change p local seen) x).desks)
      → (message : message_at y.local ≡ message_at local) → NodeContinues p x local seen y
  -- it lets it go
  lets_go : (desks : y.desks ≡ x.desks) → (still : desk_change p local seen ≡ Unchanged)
      → (message : message_at y.local ≡ NoMessage) → MayLetGo (message_at local)
      → NodeContinues p x local seen y
  -- it takes one
  takes : (way : Way) (slot : ℕ) → (desks : y.desks ≡ x.desks)
      → (still : desk_change p local seen ≡ Unchanged)
      → (message : message_at y.local ≡ Taken way slot) → TakesOn p local seen way slot
      → NodeContinues p x local seen y
  -- it gave the message of an entry back
  puts_aside : (entry : Entry) → (desks : y.desks ≡ x.desks)
      → (still : desk_change p local seen ≡ Unchanged) → IsReturning local entry
      → (message : message_at y.local ≡ Leaving entry) → NodeContinues p x local seen y
  -- the release of an entry is over
  drops : (entry : Entry) → (desks : y.desks ≡ x.desks)
      → (still : desk_change p local seen ≡ Unchanged) → IsOfEntry (message_at local) entry
      → (message : message_at y.local ≡ Dropped entry) → NodeContinues p x local seen y
  -- its loan takes a free slot
  picks_slot : (loan : NewLoan) (slot : ℕ) (free : List ℕ)
      → (desks : y.desks ≡ (at_desk x loan.port (picks loan slot free)).desks)
      → (still : desk_change p local seen ≡ Unchanged)
      → (place : y.local ≡ LendStores loan slot 0) → (before : message_at local ≡ NoMessage)
      → (there : free_slots x loan.port ≡ slot ∷ free) → IsLending local → NodeContinues p x local seen y
  -- the loan is sent in the same call
  sends_loan : (loan : NewLoan) (slot : ℕ) → (desks : y.desks ≡ x.desks)
      → (still : desk_change p local seen ≡ Unchanged)
      → (before : message_at local ≡ Lent loan slot) → (copies : loan.copies ≡ true)
      → (message : message_at y.local ≡ Sent (entry_in loan slot) true) → NodeContinues p x local seen y

-- Each access continues so.
abbrev pub AccessesFollow : Type 0
AccessesFollow =
    (p : Setting) (x : Seat) (seen : ℕ) → NodeContinues p x x.local seen (advance p x x.local seen)
