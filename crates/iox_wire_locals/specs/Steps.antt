-- A node's step: it makes the access that its place asks for, and continues with what that found.
use Rattle.std.specs.Prelude.{ℕ, ◌+◌, ◌∷◌, ◌++◌, [], Option, Some, None, option_map}
use Rattle.iox_model.specs.Commands.{Reply}
use Rattle.iox_steps.specs.declared.side.Pushing.{Pushing}
use Rattle.iox_steps.specs.declared.side.Popping.{Popping}
use Rattle.iox_steps.specs.declared.side.QueueEvent.{QueueEvent}
use Rattle.iox_steps.specs.Sides.{pushing_event, pushing_after, popping_event, popping_after}
use Rattle.iox_wire_moments.specs.WordMaps.{WireQueue, MessageQueue, ReturningQueue}
use Rattle.iox_wire_moments.specs.Programs.{site_of}
use Rattle.iox_wire_locals.specs.declared.local.Ending.{Ending}
use Rattle.iox_wire_locals.specs.declared.local.Ending.TheVariants as endings
use Rattle.iox_wire_locals.specs.declared.local.Local.{Local}
use Rattle.iox_wire_locals.specs.declared.local.Local.TheVariants.{Idle, Ends, LendEmpties, LendStores, Writes, SendAsks, SendEmpties, SendLooks, SendOpens, SendPushes, SendEvicts, SendGetsBack, SendEnds, ReceiveLooks, ReceivePops, ReceiveLoads, ReceiveAsks, ReceiveReturns, Reads, ReleaseCloses, ReleaseReturns, ReleaseLooks, ReleaseExchanges, Checks, Hints, HintExchanges, Seeks}
use Rattle.iox_wire_locals.specs.declared.seat.Seat.{Seat}
use Rattle.iox_wire_locals.specs.Tables.{Setting, way_in}
use Rattle.iox_wire_locals.specs.Locals.{state_told}
use Rattle.iox_wire_locals.specs.Courses.{placed, opening, asked}
use Rattle.iox_wire_locals.specs.ReceiveCourses.{judged, closing, hinting}
use Rattle.iox_wire_locals.specs.Findings.{loan_emptied, loan_stored, word_written, send_emptied, send_looked, send_pushed, send_evicted, send_got_back}
use Rattle.iox_wire_locals.specs.ReceiveFindings.{receive_looked, receive_popped, receive_loaded, receive_returned, sought, word_read, release_returned, release_looked, release_exchanged, checked, hint_looked}
use Rattle.iox_wire_locals.specs.Settlements.{settled, reply_of}

-- where the party of the queue that pops goes with what it found
abbrev pub pop_place : Setting → WireQueue → Popping → ℕ → Popping
pop_place p q place seen = popping_after (site_of p.layout q) place seen

-- where the party that pushes goes
abbrev pub push_place : Setting → WireQueue → Pushing → ℕ → Pushing
push_place p q place seen = pushing_after (site_of p.layout q) place seen

-- the event of an access of the one that pops
abbrev pub pop_finds : Setting → WireQueue → Popping → ℕ → QueueEvent
pop_finds p q place seen = popping_event (site_of p.layout q) place seen

-- the event of an access of the one that pushes
abbrev pub push_finds : Setting → WireQueue → Pushing → ℕ → QueueEvent
push_finds p q place seen = pushing_event (site_of p.layout q) place seen

-- the node, whose access at that place of its call found this
abbrev pub advance : Setting → Seat → Local → ℕ → Seat
advance p x Idle seen = x
advance p x (Ends ending) seen = x
advance p x (SendEnds d last count) seen = x
-- a loan or a send gets back
advance p x (LendEmpties o w place left) seen =
    let q : WireQueue = ReturningQueue w in
    loan_emptied x o w left (pop_place p q place seen) (pop_finds p q place seen)
advance p x (SendEmpties d w place left) seen =
    let q : WireQueue = ReturningQueue w in
    send_emptied p x d w left (pop_place p q place seen) (pop_finds p q place seen)
-- words are stored
advance p x (LendStores o slot next) seen = loan_stored p x o slot next
advance p x (Writes e words next) seen = word_written x e words next
-- a send asks, looks, opens, and pushes
advance p x (SendAsks d) seen = asked p x d (state_told seen)
advance p x (SendLooks d w place left full) seen =
    let q : WireQueue = MessageQueue w in
    send_looked p x d w left full (push_place p q place seen) (push_finds p q place seen)
advance p x (SendOpens d w left full) seen = opening p x d left full
advance p x (SendPushes d last w place left count) seen =
    let q : WireQueue = MessageQueue w in
    send_pushed p x d last w left count (push_place p q place seen) (push_finds p q place seen)
advance p x (SendEvicts d w place left count) seen =
    let q : WireQueue = MessageQueue w in
    send_evicted x d w left count (push_place p q place seen) (push_finds p q place seen)
advance p x (SendGetsBack d w place left count) seen =
    let q : WireQueue = MessageQueue w in
    send_got_back x d w left count (push_place p q place seen) (push_finds p q place seen)
-- a receive looks or pops, loads a header, asks, and gives back
advance p x (ReceiveLooks v w place left waiting) seen =
    let q : WireQueue = MessageQueue w in
    receive_looked p x v w left waiting (pop_place p q place seen) (pop_finds p q place seen)
advance p x (ReceivePops v w more place left waiting) seen =
    let q : WireQueue = MessageQueue w in
    receive_popped p x v w more left waiting (pop_place p q place seen) (pop_finds p q place seen)
advance p x (ReceiveLoads v w slot header left waiting) seen =
    receive_loaded p x v w slot (header ++ seen ∷ []) left waiting
advance p x (ReceiveAsks v w slot header left waiting) seen =
    judged x v w slot header left waiting (state_told seen)
advance p x (ReceiveReturns v w slot place left waiting) seen =
    let q : WireQueue = ReturningQueue w in
    receive_returned x v w slot left waiting (push_place p q place seen) (push_finds p q place seen)
-- words are loaded
advance p x (Reads e words) seen = word_read p x e (words ++ seen ∷ [])
-- a release closes, or gives back and then closes
advance p x (ReleaseCloses e w left) seen = closing x e left
advance p x (ReleaseReturns e place) seen =
    let q : WireQueue = ReturningQueue (way_in e) in
    release_returned x e (push_place p q place seen) (push_finds p q place seen)
advance p x (ReleaseLooks e) seen = release_looked x e seen
advance p x (ReleaseExchanges e old) seen = release_exchanged x e old seen
-- questions and hints
advance p x (Checks e hinted w left) seen = checked p x e hinted left seen
advance p x (Hints e w left) seen = hint_looked x e w left seen
advance p x (HintExchanges e w left) seen = hinting x e left
advance p x (Seeks w place left) seen =
    let q : WireQueue = MessageQueue w in
    sought x w left (pop_place p q place seen) (pop_finds p q place seen)

-- how a call ends that has no access left
abbrev pub ending_at : Local → Option Ending
ending_at (Ends ending) = Some ending
ending_at (SendEnds d last count) = Some (endings.Sends d.loan d.copied count)
ending_at local = None

-- a call ends with its last access
abbrev pub closed : Setting → Seat → Option Ending → Seat
closed p x (Some ending) = placed (settled p x ending) Idle
closed p x None = x

-- one more access is counted
abbrev pub accessed : Seat → Seat
accessed x = record x { accesses = x.accesses + 1 }

-- The node after its next access, which found this; where the call has none, its one step ends it.
abbrev pub next : Setting → Seat → ℕ → Seat
next p x seen = let y : Seat = advance p (accessed x) x.local seen in closed p y (ending_at y.local)

-- What it answers then, if that ends its call.
abbrev pub tells : Setting → Seat → ℕ → Option Reply
tells p x seen =
    let y : Seat = advance p (accessed x) x.local seen in
    option_map (reply_of p y) (ending_at y.local)
