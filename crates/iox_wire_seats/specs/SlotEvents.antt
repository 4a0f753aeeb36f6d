-- The event of a node's next access, as the code of its call can tell it: it knows the slots of
-- messages, and the wire above puts their serials in.
use Rattle.std.specs.Prelude.{ℕ, [], Option, option_map}
use Rattle.iox_model.specs.declared.event.Event.{Event}
use Rattle.iox_model.specs.Moments.{event_of}
use Rattle.iox_wire_moments.specs.MomentsOf.{Pools, moment_of}
use Rattle.iox_wire_moments.specs.Programs.{Program, WireLayout}
use Rattle.iox_wire_locals.specs.declared.local.Local.{Local}
use Rattle.iox_wire_locals.specs.Tables.{Setting}
use Rattle.iox_wire_locals.specs.StateMoments.{moment_at}

-- pools in which each slot's message has that slot as its serial, and nothing else
abbrev pub by_slot : Pools
by_slot port slot = record {
  sender = 0;
  serial = slot;
  node_id = record { process = 0; seconds = 0; nanoseconds = 0; counter = 0 };
  port_id = record { process = 0; seconds = 0; nanoseconds = 0; counter = 0 };
  lane = 0;
  request = 0;
  elements = 0;
  user = [];
  payload = [];
}

-- the event of the next access of a node at that place of its call, which found this, if it is one:
-- with the message's slot where its serial would stand
abbrev pub slot_event : Setting → Local → ℕ → Option Event
slot_event p local seen = option_map event_of (moment_at p by_slot local seen)

-- the event of the next access of a program, which found this
abbrev pub program_event : WireLayout → Program → ℕ → Option Event
program_event p program seen = option_map event_of (moment_of p by_slot program seen)
