-- Which moment of the machine an access of a queue is, if any.
use Rattle.std.specs.Prelude.{ℕ, Option, Some, None}
use Rattle.iox_wire_words.specs.Way.{Way}
use Rattle.iox_wire_words.specs.Messages.{Message}
use Rattle.iox_wire_words.specs.Moments as moments
use Rattle.iox_wire_words.specs.Moments.{Moment}
use Rattle.iox_steps.specs.declared.side.QueueEvent.{QueueEvent}
use Rattle.iox_steps.specs.declared.side.QueueEvent.TheVariants.{Publish, HandOut, Evict, Learn, SeesEmpty, SeesWaiting, SeesFull, SeesRoom}
use Rattle.iox_steps.specs.declared.side.Pushing.TheVariants as pushing
use Rattle.iox_steps.specs.declared.side.Popping.TheVariants as popping
use Rattle.iox_steps.specs.Pushes.{push_event, full_look_event}
use Rattle.iox_steps.specs.Pops.{pop_event, empty_look_event}
use Rattle.iox_wire_words.specs.WordMaps.{MessageQueue, ReturningQueue}
use Rattle.iox_wire_words.specs.Programs.{WireLayout, site_of, Program, Pushes, Pops}

-- the message in each slot of each port's pool
abbrev pub Pools : Type 0
Pools = ℕ → ℕ → Message

-- the serial of the message that a slot of the way's sender holds
abbrev pub serial_in : Pools → Way → ℕ → ℕ
serial_in held y slot = (held y.sender slot).serial

-- the moment of an event of a push onto the queue of messages, if it is one
abbrev pub push_moment : Pools → Way → QueueEvent → Option Moment
push_moment held y (Publish slot) = Some (moments.Deliver y (held y.sender slot))
push_moment held y Evict = Some (moments.Evict y)
push_moment held y (Learn slot) = Some (moments.GetBack y (serial_in held y slot))
push_moment held y event = None

-- the moment of an event of a look at that queue's fullness, if it is one
abbrev pub full_look_moment : Way → QueueEvent → Option Moment
full_look_moment y SeesFull = Some (moments.SeesFull y)
full_look_moment y SeesRoom = Some (moments.SeesRoom y)
full_look_moment y event = None

-- the moment of an event of a pop from that queue, if it is one; that a message waits is none here,
-- since the pop then takes it
abbrev pub pop_moment : Pools → Way → QueueEvent → Option Moment
pop_moment held y (HandOut slot) = Some (moments.Take y (held y.sender slot))
pop_moment held y SeesEmpty = Some (moments.SeesEmpty y)
pop_moment held y event = None

-- the moment of an event of a look at that queue's emptiness, if it is one
abbrev pub empty_look_moment : Way → QueueEvent → Option Moment
empty_look_moment y SeesEmpty = Some (moments.SeesEmpty y)
empty_look_moment y SeesWaiting = Some (moments.SeesWaiting y)
empty_look_moment y event = None

-- the moment of an event of a push onto the returning queue, if it is one
abbrev pub give_back_moment : Pools → Way → QueueEvent → Option Moment
give_back_moment held y (Publish slot) = Some (moments.GiveBack y (serial_in held y slot))
give_back_moment held y event = None

-- the moment of an event of a pop from the returning queue, if it is one
abbrev pub get_back_moment : Pools → Way → QueueEvent → Option Moment
get_back_moment held y (HandOut slot) = Some (moments.GetBack y (serial_in held y slot))
get_back_moment held y SeesEmpty = Some (moments.SeesNoneBack y)
get_back_moment held y event = None

-- the moment that the next access of a program is, where it found `seen`; loads and stores that
-- only prepare one are none
abbrev pub moment_of : WireLayout → Pools → Program → ℕ → Option Moment
moment_of p held (Pushes (MessageQueue y) (pushing.Pushes place)) seen =
    push_moment held y (push_event (site_of p (MessageQueue y)) place seen)
moment_of p held (Pushes (MessageQueue y) (pushing.Looks place)) seen =
    full_look_moment y (full_look_event (site_of p (MessageQueue y)) place seen)
moment_of p held (Pops (MessageQueue y) (popping.Pops place)) seen =
    pop_moment held y (pop_event (site_of p (MessageQueue y)) place seen)
moment_of p held (Pops (MessageQueue y) (popping.Looks place)) seen =
    empty_look_moment y (empty_look_event (site_of p (MessageQueue y)) place seen)
moment_of p held (Pushes (ReturningQueue y) (pushing.Pushes place)) seen =
    give_back_moment held y (push_event (site_of p (ReturningQueue y)) place seen)
moment_of p held (Pops (ReturningQueue y) (popping.Pops place)) seen =
    get_back_moment held y (pop_event (site_of p (ReturningQueue y)) place seen)
moment_of p held program seen = None
