-- The events of a wire: moments of its run, with messages named by their serials. A node names a message
-- by its slot, and the desk of the sender tells the serial.
use Rattle.std.specs.Prelude.{◌≡◌, ℕ, option_map}
use Rattle.iox_model.specs.declared.event.Event.{Event}
use Rattle.iox_model.specs.declared.event.Event.TheVariants as events
use Rattle.iox_model.specs.Moments.{event_of}
use Rattle.iox_wire_moments.specs.MomentsOf.{Pools}
use Rattle.iox_wire_locals.specs.StateMoments.{moment_at}
use Rattle.iox_wire_nodes.specs.Local.{Local}
use Rattle.iox_wire_nodes.specs.Tables.{Setting}
use Rattle.iox_wire_seats.specs.SlotEvents.{slot_event}

-- the event with the serial of each slot of its sender in place of that slot
abbrev pub with_serials : (serials : ℕ → ℕ → ℕ) → Event → Event
with_serials serials (events.Deliver w slot) = events.Deliver w (serials w.sender slot)
with_serials serials (events.Take w slot) = events.Take w (serials w.sender slot)
with_serials serials (events.GiveBack w slot) = events.GiveBack w (serials w.sender slot)
with_serials serials (events.GetBack w slot) = events.GetBack w (serials w.sender slot)
with_serials serials event = event

-- So the moment of an access is told, with the serials of what the slots hold.
abbrev pub SlotsTellEvents : Type 0
SlotsTellEvents =
    (p : Setting) (held : Pools) (local : Local) (seen : ℕ)
    → option_map event_of (moment_at p held local seen)
    ≡ option_map (with_serials (λ port slot. (held port slot).serial)) (slot_event p local seen)
