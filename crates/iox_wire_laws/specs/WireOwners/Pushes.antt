-- A push never finds its queue full, unless messages overflow: so what it sees lets it go on.
use Rattle.std.specs.Prelude.{◌≡◌, ℕ, ◌+◌, ◌<◌, false, None}
use Rattle.iox_model.specs.declared.way.Way.{Way}
use Rattle.iox_model.specs.Joins.{not_living}
use Rattle.iox_model.specs.Peers.{borrow_limit_on, buffer_on, overflows_on}
use Rattle.iox_model.specs.States.{Fixed}
use Rattle.iox_model.specs.Weaves.{World}
use Rattle.iox_steps.specs.declared.push.Push.{Push}
use Rattle.iox_steps.specs.declared.side.Pushing.TheVariants as pushing
use Rattle.iox_steps.specs.declared.side.QueueEvent.TheVariants.{SeesFull, SeesEnd}
use Rattle.iox_steps.specs.Accesses.{seen_by}
use Rattle.iox_steps.specs.Fits.{write_of}
use Rattle.iox_steps.specs.Pushes.{push_access, push_event}
use Rattle.iox_steps.specs.Sites.{last_position}
use Rattle.iox_laws.specs.WeaveBeats.LiveWays.{ComesTo}
use Rattle.iox_word_map.specs.WordMaps.{WireQueue, MessageQueue, ReturningQueue}
use Rattle.iox_wire_words.specs.Programs.{program_access, site_of}
use Rattle.iox_wire_words.specs.Fits.{WireContents}
use Rattle.iox_wire_moments.specs.MomentsOf.{Pools}
use Rattle.iox_wire_locals.specs.declared.local.Local.{Local}
use Rattle.iox_wire_locals.specs.declared.local.Local.TheVariants.{SendPushes, ReceiveReturns, ReleaseReturns}
use Rattle.iox_wire_locals.specs.declared.seat.Seat.{Seat}
use Rattle.iox_wire_locals.specs.Locals.{program_of}
use Rattle.iox_wire_locals.specs.Tables.{Setting, way_in}
use Rattle.iox_wire_laws.specs.WireKeeping.Shows.{ShowsWorld, OwnsPlace}
use Rattle.iox_wire_laws.specs.WireShows.OwnedCalls.{WordsTell}

-- the place delivers on that way, and is there in its push
abbrev pub DeliversAt : Local → Way → Push → Type 0
DeliversAt (SendPushes d last w (pushing.Pushes q) left count) y place = (w ≡ y) × (q ≡ place)
DeliversAt local y place = ⊥

-- A send that delivers on a way without overflow never sees the queue there full: it saw room, and
-- nobody else pushes there. On no way is the queue at its end, as long as its write position is
-- below the last.
abbrev pub DeliveriesAreNotRefused : Type 0
DeliveriesAreNotRefused =
    (p : Setting) (held : Pools) (word : ℕ → ℕ) (c : WireContents) (seats : ℕ → Seat) (w : World)
    (n : ℕ) (y : Way) (place : Push)
    → ShowsWorld p held word c seats w → not_living w.state n ≡ None
    → OwnsPlace p held w.state (seats n) → DeliversAt (seats n).local y place
    → let site = site_of p.layout (MessageQueue y) in
    let event = push_event site place (seen_by (push_access site place) word) in
    (overflows_on w.state.fixed y ≡ false → event ≡ SeesFull → ⊥)
    × (write_of site word < last_position → event ≡ SeesEnd → ⊥)

-- ---- what a push is told

-- the queue into which the place pushes
abbrev pub PushesInto : Local → WireQueue → Type 0
PushesInto (SendPushes d last w (pushing.Pushes place) left count) q = MessageQueue w ≡ q
PushesInto (ReceiveReturns v w slot (pushing.Pushes place) left waiting) q = ReturningQueue w ≡ q
PushesInto (ReleaseReturns e (pushing.Pushes place)) q = ReturningQueue (way_in e) ≡ q
PushesInto local q = ⊥

-- A returning queue has room for the buffer, the borrow limit and one more, and the node did not
-- forget who sends on its way.
abbrev pub ReturnsHaveRoom : Setting → Fixed → ℕ → WireQueue → Type 0
ReturnsHaveRoom p f node (ReturningQueue y) =
    ComesTo f node y
    × (p.layout.capacity (ReturningQueue y) ≡ buffer_on f y + borrow_limit_on f y + 1)
ReturnsHaveRoom p f node (MessageQueue y) = Unit {0}

-- So what a push sees of its queue's positions lets it go on, with overflow and without: of a
-- delivery as of a return.
abbrev pub PushesAreTold : Type 0
PushesAreTold =
    (p : Setting) (held : Pools) (word : ℕ → ℕ) (c : WireContents) (seats : ℕ → Seat) (w : World)
    (n : ℕ) (q : WireQueue)
    → ShowsWorld p held word c seats w → not_living w.state n ≡ None
    → OwnsPlace p held w.state (seats n) → PushesInto (seats n).local q
    → ReturnsHaveRoom p w.state.fixed n q → write_of (site_of p.layout q) word < last_position
    → let local = (seats n).local in
    WordsTell p local (seen_by (program_access p.layout (program_of p local)) word)
