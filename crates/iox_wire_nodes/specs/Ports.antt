-- The ports of a node, which no call changes.
use Rattle.std.specs.Prelude.{◌≡◌, ℕ, length, map}
use Rattle.iox_model.specs.Commands.{WireCall}
use Rattle.iox_wire_begins.specs.Begins.{begin}
use Rattle.iox_wire_begins.specs.Seat.{Seat}
use Rattle.iox_wire_begins.specs.Steps.{next}
use Rattle.iox_wire_begins.specs.Tables.{Setting}

-- The node has desks of the ports that it had, each of which sends on as many ways, and counts on the
-- same ways what it borrows.
pub record HasSamePorts (x y : Seat) : Type 0 where
  pub ports : map (λ d. d.port) y.desks ≡ map (λ d. d.port) x.desks
  pub sends : map (λ d. length d.recorded) y.desks ≡ map (λ d. length d.recorded) x.desks
  pub ways : map (λ b. b.way) y.borrowed ≡ map (λ b. b.way) x.borrowed

-- So it is after each step, the last one of a call, too.
abbrev pub StepsKeepPorts : Type 0
StepsKeepPorts = (p : Setting) (x : Seat) (seen : ℕ) → HasSamePorts x (next p x seen)

-- So it is as a call begins.
abbrev pub BeginsKeepPorts : Type 0
BeginsKeepPorts = (p : Setting) (x : Seat) (call : WireCall) → HasSamePorts x (begin p x call)
