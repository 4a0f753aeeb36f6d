-- Each desk tells the serials of the messages that its port's slots hold, whether its node lives or is
-- dead.
use Rattle.std.specs.Prelude.{◌≡◌, ◌<◌, ◌==◌, ◌^◌, ℕ, List, [], find, length, slice_index}
use Rattle.std.specs.Option.{option_map_or}
use Rattle.iox_wire_calls.specs.FarSlots.{IsInPool}
use Rattle.iox_wire_calls.specs.MomentsOf.{Pools}
use Rattle.iox_wire_calls.specs.Seat.{Seat}
use Rattle.iox_wire_calls.specs.SlotsKnown.{IsPortOfSeat}
use Rattle.iox_wire_calls.specs.Tables.{Setting}

-- the serials that the desk of a port records, one for each slot
abbrev pub serials_at : Seat → ℕ → List ℕ
serials_at x port = option_map_or (λ d. d.serials) (find (λ d. d.port == port) x.desks) []

-- At each port of the node the desk has a serial for each slot of the pool. It is that of the message
-- which the slot holds, once a loan took the slot.
pub record TellsSerials (p : Setting) (held : Pools) (x : Seat) : Type 0 where
  pub each : (port : ℕ) → IsPortOfSeat p x port → length (serials_at x port) ≡ (p.port port).pool
  pub told : (port slot : ℕ) → IsPortOfSeat p x port → IsInPool p port slot
      → (held port slot).serial < 2 ^ 64
      → slice_index (serials_at x port) slot ≡ (held port slot).serial
