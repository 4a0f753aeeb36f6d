-- What a receiver gives back is never refused.
use Rattle.std.specs.Prelude.{◌≡◌, ℕ, ◌+◌, ◌<◌, None}
use Rattle.iox_model.specs.declared.way.Way.{Way}
use Rattle.iox_model.specs.Joins.{not_living}
use Rattle.iox_model.specs.Peers.{buffer_on, borrow_limit_on}
use Rattle.iox_model.specs.Weaves.{World}
use Rattle.iox_steps.specs.declared.push.Push.{Push}
use Rattle.iox_steps.specs.declared.side.Pushing.TheVariants as pushing
use Rattle.iox_steps.specs.declared.side.QueueEvent.TheVariants.{SeesFull, SeesEnd}
use Rattle.iox_steps.specs.Accesses.{seen_by}
use Rattle.iox_steps.specs.Fits.{write_of}
use Rattle.iox_steps.specs.Pushes.{push_access, push_event}
use Rattle.iox_steps.specs.Sites.{last_position}
use Rattle.iox_laws.specs.WeaveBeats.LiveWays.{ComesTo}
use Rattle.iox_word_map.specs.WordMaps.{ReturningQueue}
use Rattle.iox_wire_words.specs.Programs.{site_of}
use Rattle.iox_wire_words.specs.Fits.{WireContents}
use Rattle.iox_wire_moments.specs.MomentsOf.{Pools}
use Rattle.iox_wire_locals.specs.declared.local.Local.{Local}
use Rattle.iox_wire_locals.specs.declared.local.Local.TheVariants.{ReceiveReturns, ReleaseReturns}
use Rattle.iox_wire_locals.specs.declared.seat.Seat.{Seat}
use Rattle.iox_wire_locals.specs.Tables.{Setting, way_in}
use Rattle.iox_wire_laws.specs.WireKeeping.Shows.{ShowsWorld, OwnsPlace}

-- the place gives a message back on that way, and is there in its push
abbrev pub GivesBackOn : Local → Way → Push → Type 0
GivesBackOn (ReceiveReturns v w slot (pushing.Pushes q) left waiting) y place =
    (w ≡ y) × (q ≡ place)
GivesBackOn (ReleaseReturns e (pushing.Pushes q)) y place = (way_in e ≡ y) × (q ≡ place)
GivesBackOn local y place = ⊥

-- A returning queue with room for the buffer, the borrow limit and one more is never seen full by a
-- node that gives back on a way from a sender that it did not forget. Nor is it at its end, as long
-- as its write position is below the last.
abbrev pub ReturnsAreNotRefused : Type 0
ReturnsAreNotRefused =
    (p : Setting) (held : Pools) (word : ℕ → ℕ) (c : WireContents) (seats : ℕ → Seat) (w : World)
    (n : ℕ) (y : Way) (place : Push)
    → ShowsWorld p held word c seats w → not_living w.state n ≡ None
    → OwnsPlace p held w.state (seats n) → GivesBackOn (seats n).local y place
    → ComesTo w.state.fixed (seats n).node y
    → p.layout.capacity (ReturningQueue y)
    ≡ buffer_on w.state.fixed y + borrow_limit_on w.state.fixed y + 1
    → let site = site_of p.layout (ReturningQueue y) in
    let event = push_event site place (seen_by (push_access site place) word) in
    (event ≡ SeesFull → ⊥) × (write_of site word < last_position → event ≡ SeesEnd → ⊥)
