-- The same of receives, reads, releases, questions and hints.
use Rattle.std.specs.Prelude.{ℕ, Bool, true, not, ◌&&◌, if◌then◌else◌, ◌==◌, List, [], length}
use Rattle.iox_model.specs.declared.way.Way.{Way}
use Rattle.iox_model.specs.Looks.{is_shown}
use Rattle.iox_model.specs.Messages.{names, names_with_hint}
use Rattle.iox_steps.specs.declared.side.Pushing.{Pushing}
use Rattle.iox_steps.specs.declared.side.Popping.{Popping}
use Rattle.iox_steps.specs.declared.side.QueueEvent.{QueueEvent}
use Rattle.iox_steps.specs.declared.side.QueueEvent.TheVariants.{Publish, HandOut, SeesEmpty, SeesWaiting}
use Rattle.iox_wire_locals.specs.declared.table.Entry.{Entry}
use Rattle.iox_wire_locals.specs.declared.local.Visit.{Visit}
use Rattle.iox_wire_locals.specs.declared.local.Ending.TheVariants as endings
use Rattle.iox_wire_locals.specs.declared.local.Local.TheVariants.{ReceiveLooks, ReceivePops, ReceiveLoads, ReceiveReturns, Reads, ReleaseReturns, ReleaseExchanges, HintExchanges, Seeks}
use Rattle.iox_wire_locals.specs.declared.seat.Seat.{Seat}
use Rattle.iox_wire_locals.specs.Tables.{Setting, words_to_read}
use Rattle.iox_wire_locals.specs.NewLoans.{received_length}
use Rattle.iox_wire_locals.specs.Known.{told_handle}
use Rattle.iox_wire_locals.specs.Locals.{state_told}
use Rattle.iox_wire_locals.specs.Courses.{placed, ended}
use Rattle.iox_wire_locals.specs.ReceiveCourses.{visiting, again, took, seeking, given_back, checking, hinting}

-- ---- receives

-- at the limit: nothing waits there, or something does
abbrev pub receive_looked :
    Setting → Seat → Visit → Way → List Way → Bool → Popping → QueueEvent → Seat
receive_looked p x v w left waiting place SeesEmpty = visiting p x v left waiting
receive_looked p x v w left waiting place SeesWaiting = visiting p x v left true
receive_looked p x v w left waiting place event = placed x (ReceiveLooks v w place left waiting)

-- a message is taken, or the way is empty
abbrev pub receive_popped :
    Setting → Seat → Visit → Way → Bool → List Way → Bool → Popping → QueueEvent → Seat
receive_popped p x v w more left waiting place (HandOut slot) =
    placed x (ReceiveLoads v w slot [] left waiting)
receive_popped p x v w more left waiting place SeesEmpty = visiting p x v left waiting
receive_popped p x v w more left waiting place event =
    placed x (ReceivePops v w more place left waiting)

-- these header words are loaded now
abbrev pub receive_loaded : Setting → Seat → Visit → Way → ℕ → List ℕ → List Way → Bool → Seat
receive_loaded p x v w slot header left waiting =
    if length header == received_length v then took p x v w slot header left waiting
    else placed x (ReceiveLoads v w slot header left waiting)

-- the message is given back
abbrev pub receive_returned : Seat → Visit → Way → ℕ → List Way → Bool → Pushing → QueueEvent → Seat
receive_returned x v w slot left waiting place (Publish given) = again x v w left waiting
receive_returned x v w slot left waiting place event =
    placed x (ReceiveReturns v w slot place left waiting)

-- nothing waits on the way, or something does
abbrev pub sought : Seat → Way → List Way → Popping → QueueEvent → Seat
sought x w left place SeesEmpty = seeking x left
sought x w left place SeesWaiting = ended x (endings.Answers true)
sought x w left place event = placed x (Seeks w place left)

-- ---- reads, releases, questions and hints

-- these words are loaded now
abbrev pub word_read : Setting → Seat → Entry → List ℕ → Seat
word_read p x e words =
    if length words == words_to_read p e then ended x (endings.Words words)
    else placed x (Reads e words)

-- the message is given back
abbrev pub release_returned : Seat → Entry → Pushing → QueueEvent → Seat
release_returned x e place (Publish slot) = given_back x e
release_returned x e place event = placed x (ReleaseReturns e place)

-- the request state is to be closed where it names the request
abbrev pub release_looked : Seat → Entry → ℕ → Seat
release_looked x e seen =
    if names (state_told seen) e.request then placed x (ReleaseExchanges e seen)
    else ended x (endings.Drops e)

-- it is closed, unless a hint or a close came in between
abbrev pub release_exchanged : Seat → Entry → ℕ → ℕ → Seat
release_exchanged x e old seen =
    if seen == old then ended x (endings.Drops e) else release_looked x e seen

-- one request state is seen
abbrev pub checked : Setting → Seat → Entry → Bool → List Way → ℕ → Seat
checked p x e hinted left seen =
    if is_shown (told_handle p x.node e) hinted (state_told seen)
    then ended x (endings.Answers true)
    else checking x e hinted left

-- a hint is to be given where the request is named without one
abbrev pub hint_looked : Seat → Entry → Way → List Way → ℕ → Seat
hint_looked x e w left seen =
    if names (state_told seen) e.request && not (names_with_hint (state_told seen) e.request)
    then placed x (HintExchanges e w left) else hinting x e left
