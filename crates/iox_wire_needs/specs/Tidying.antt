-- Nodes stay tidy: no two desks are of one port, and no two counts of one way.
use Rattle.std.specs.Prelude.{ℕ}
use Rattle.iox_model.specs.Commands.{WireCall}
use Rattle.iox_wire_keeps.specs.Begins.{begin}
use Rattle.iox_wire_keeps.specs.Seat.{Seat}
use Rattle.iox_wire_keeps.specs.Steps.{next}
use Rattle.iox_wire_keeps.specs.Tables.{Setting}
use Rattle.iox_wire_needs.specs.Counts.{IsTidy}

-- as a call begins,
abbrev pub BegunNodesAreTidy : Type 0
BegunNodesAreTidy = (p : Setting) (x : Seat) (call : WireCall) → IsTidy x → IsTidy (begin p x call)

-- and over each step
abbrev pub SteppedNodesAreTidy : Type 0
SteppedNodesAreTidy = (p : Setting) (x : Seat) (seen : ℕ) → IsTidy x → IsTidy (next p x seen)
