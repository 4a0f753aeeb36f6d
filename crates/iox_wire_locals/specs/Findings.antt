-- What a loan or a send makes of an access that found this: in a queue its event says whether it
-- continues at its next place there, `place`, or whether that part of it is done.
use Rattle.std.specs.Prelude.{ℕ, ◌+◌, if◌then◌else◌, ◌==◌, List, ◌∷◌, length, Option, Some, None}
use Rattle.iox_model.specs.declared.way.Way.{Way}
use Rattle.iox_model.specs.Requests.{may_evict}
use Rattle.iox_steps.specs.declared.side.Pushing.{Pushing}
use Rattle.iox_steps.specs.declared.side.Pushing.TheVariants as pushing
use Rattle.iox_steps.specs.declared.side.Popping.{Popping}
use Rattle.iox_steps.specs.declared.side.Popping.TheVariants as popping
use Rattle.iox_steps.specs.declared.side.QueueEvent.{QueueEvent}
use Rattle.iox_steps.specs.declared.side.QueueEvent.TheVariants.{Publish, HandOut, Evict, Learn, SeesEmpty, SeesFull, SeesRoom}
use Rattle.iox_steps.specs.declared.pop.Pop.TheVariants as pop
use Rattle.iox_wire_locals.specs.declared.table.Entry.{Entry}
use Rattle.iox_wire_locals.specs.declared.table.NewLoan.{NewLoan}
use Rattle.iox_wire_locals.specs.declared.local.Delivery.{Delivery}
use Rattle.iox_wire_locals.specs.declared.local.Ending.TheVariants as endings
use Rattle.iox_wire_locals.specs.declared.local.Local.TheVariants.{LendEmpties, LendStores, Writes, SendEmpties, SendLooks, SendPushes, SendEvicts, SendGetsBack}
use Rattle.iox_wire_locals.specs.declared.seat.Seat.{Seat}
use Rattle.iox_wire_locals.specs.Tables.{Setting}
use Rattle.iox_wire_locals.specs.NewLoans.{loan_words}
use Rattle.iox_wire_locals.specs.Desks.{delivers, gets_back, at_desk}
use Rattle.iox_wire_locals.specs.Known.{sending}
use Rattle.iox_wire_locals.specs.Courses.{placed, ended, delivering, looking, emptying, loaning, lent}

-- a pop that begins
abbrev pub first_pop : Popping
first_pop = popping.Pops pop.LoadsRead

-- ---- loans and writes

-- one more message is got back, or the way is empty
abbrev pub loan_emptied : Seat → NewLoan → Way → List Way → Popping → QueueEvent → Seat
loan_emptied x o w left place (HandOut slot) =
    placed (at_desk x o.port (gets_back w slot)) (LendEmpties o w first_pop left)
loan_emptied x o w left place SeesEmpty = loaning x o left
loan_emptied x o w left place event = placed x (LendEmpties o w place left)

-- one more word of the new message is stored
abbrev pub loan_stored : Setting → Seat → NewLoan → ℕ → ℕ → Seat
loan_stored p x o slot next =
    if next + 1 == length (loan_words p o) then lent p x o slot
    else placed x (LendStores o slot (next + 1))

-- one more word of the payload is stored
abbrev pub word_written : Seat → Entry → List ℕ → ℕ → Seat
word_written x e words next =
    if next + 1 == length words then ended x (endings.Fills e words)
    else placed x (Writes e words (next + 1))

-- ---- sends

-- one more message is got back, or the way is empty
abbrev pub send_emptied : Setting → Seat → Delivery → Way → List Way → Popping → QueueEvent → Seat
send_emptied p x d w left place (HandOut slot) =
    placed (at_desk x d.loan.port (gets_back w slot)) (SendEmpties d w first_pop left)
send_emptied p x d w left place SeesEmpty = emptying p x d left
send_emptied p x d w left place event = placed x (SendEmpties d w place left)

-- the way was seen full, or not full
abbrev pub send_looked :
    Setting → Seat → Delivery → Way → (left full : List Way) → Pushing → QueueEvent → Seat
send_looked p x d w left full place SeesFull = looking p x d left (w ∷ full)
send_looked p x d w left full place SeesRoom = looking p x d left full
send_looked p x d w left full place event = placed x (SendLooks d w place left full)

-- what is delivered may have to push out the oldest
abbrev pub send_delivered : Setting → Seat → Delivery → Way → List Way → ℕ → Pushing → Seat
send_delivered p x d w left count pushing.AtRest =
    delivering x d (may_evict (sending p x d) w) left count
send_delivered p x d w left count place = placed x (SendEvicts d w place left count)

-- the message is delivered, and recorded
abbrev pub send_pushed :
    Setting → Seat → Delivery → Option Way → Way → List Way → ℕ → Pushing → QueueEvent → Seat
send_pushed p x d last w left count place (Publish slot) =
    send_delivered p (at_desk x d.loan.port (delivers w slot)) d w left (count + 1) place
send_pushed p x d last w left count place event = placed x (SendPushes d last w place left count)

-- the oldest is pushed out, or a receiver took it before
abbrev pub send_evicted : Seat → Delivery → Way → List Way → ℕ → Pushing → QueueEvent → Seat
send_evicted x d w left count place Evict = placed x (SendGetsBack d w place left count)
send_evicted x d w left count place event = delivering x d (Some w) left count

-- what was pushed out is got back
abbrev pub send_got_back : Seat → Delivery → Way → List Way → ℕ → Pushing → QueueEvent → Seat
send_got_back x d w left count place (Learn slot) =
    delivering (at_desk x d.loan.port (gets_back w slot)) d None left count
send_got_back x d w left count place event = placed x (SendGetsBack d w place left count)
