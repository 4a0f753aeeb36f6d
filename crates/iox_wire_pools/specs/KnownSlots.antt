-- Slots stay known as messages are got back and delivered, where uses are counted.
use Rattle.std.specs.Prelude.{◌≡◌, ℕ, false}
use Rattle.iox_model.specs.declared.way.Way.{Way}
use Rattle.iox_model.specs.Moments.{Deliver, GetBack, moved}
use Rattle.iox_model.specs.States.{State}
use Rattle.iox_wire_moments.specs.MomentsOf.{Pools, serial_in}
use Rattle.iox_wire_locals.specs.declared.seat.Seat.{Seat}
use Rattle.iox_wire_locals.specs.Desks.{at_desk, delivers, gets_back}
use Rattle.iox_wire_locals.specs.Tables.{Setting}
use Rattle.iox_wire_laws.specs.WireHolding.SlotsKnown.{IsPortOfSeat, SlotsKnown}
use Rattle.iox_wire_pools.specs.Uses.{AllUsesAreCounted}
use Rattle.iox_wire_pools.specs.UsesLaws.{IsOut, MayDeliver}

-- A message of a port of the node is got back that is outstanding: the slots stay known.
abbrev pub GetBacksAreKnown : Type 0
GetBacksAreKnown =
    (p : Setting) (held : Pools) (s : State) (x : Seat) (w : Way) (slot : ℕ)
    → SlotsKnown p held s x → AllUsesAreCounted p x → IsPortOfSeat p x w.sender
    → IsOut x w.sender w slot
    → SlotsKnown p held (moved s (GetBack w (serial_in held w slot)))
    (at_desk x w.sender (gets_back w slot))

-- So they do as a message in use is delivered that was not outstanding there.
abbrev pub DeliveriesAreKnown : Type 0
DeliveriesAreKnown =
    (p : Setting) (held : Pools) (s : State) (x : Seat) (w : Way) (slot : ℕ)
    → SlotsKnown p held s x → AllUsesAreCounted p x → IsPortOfSeat p x w.sender
    → MayDeliver x w.sender w slot → s.delivered w (serial_in held w slot) ≡ false
    → SlotsKnown p held (moved s (Deliver w (held w.sender slot)))
    (at_desk x w.sender (delivers w slot))
