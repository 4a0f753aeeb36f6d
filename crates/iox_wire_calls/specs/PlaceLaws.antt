-- What is so of each place of a call stays so: as a call begins, over each access, and at its end.
use Rattle.std.specs.Prelude.{◌≡◌, ℕ, Some, None}
use Rattle.iox_model.specs.Commands.{WireCall}
use Rattle.iox_wire_steps.specs.Ending.{Ending}
use Rattle.iox_wire_steps.specs.Seat.{Seat}
use Rattle.iox_wire_steps.specs.Begins.{begin, misnamed_call}
use Rattle.iox_wire_steps.specs.Steps.{accessed, advance, closed, ending_at}
use Rattle.iox_wire_steps.specs.Tables.{Setting}
use Rattle.iox_wire_steps.specs.Stands.{AreNumbered}
use Rattle.iox_wire_calls.specs.Places.{CallFits, OwnersAreSet}

-- So it is at the first place of a call that names what it may.
abbrev pub BeginsFit : Type 0
BeginsFit =
    (p : Setting) (x : Seat) (call : WireCall)
    → AreNumbered p → OwnersAreSet p → misnamed_call p x call ≡ None → CallFits p x → CallFits p (begin p x call)

-- After an access it is so again, whatever that found.
abbrev pub AccessesFit : Type 0
AccessesFit =
    (p : Setting) (x : Seat) (seen : ℕ)
    → CallFits p x → CallFits p (advance p (accessed x) x.local seen)

-- And after the end of the call.
abbrev pub EndsFit : Type 0
EndsFit =
    (p : Setting) (x : Seat) (ending : Ending)
    → ending_at x.local ≡ Some ending → CallFits p x → CallFits p (closed p x (Some ending))
