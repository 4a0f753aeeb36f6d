-- A copy continues: a step closes what is over, and no call begins with a message that it made.
use Rattle.std.specs.Prelude.{◌⊎◌}
use Rattle.std.proofs.Common.{◌≡◌, true, Option, Some, None, refl, ap, subst, inl, inr, true≢false}
use Rattle.iox_model.specs.declared.way.RequestState.TheVariants.{Closed}
use Rattle.iox_wire_keeps.specs.Begins.{begin}
use Rattle.iox_wire_keeps.specs.Ending.{Ending}
use Rattle.iox_wire_keeps.specs.Entry.{Entry}
use Rattle.iox_wire_keeps.specs.Following.{CallMessage, Sent, message_at}
use Rattle.iox_wire_keeps.specs.Seat.{Seat}
use Rattle.iox_wire_keeps.specs.Steps.{accessed, advance, closed, ending_at}
use Rattle.iox_wire_keeps.specs.Tables.{Setting}
use Rattle.iox_wire_keeps.proofs.Starts.{Starting, Starts, Takes, starts}
use Rattle.iox_wire_needs.specs.Copying.{BegunCopiesGoOn, SteppedCopiesGoOn}

-- what is over is closed
pub over_is_closed : (p : Setting) (y : Seat) → ending_at (closed p y (ending_at y.local)).local ≡ None
over_is_closed p y = by_end (ending_at y.local) refl
  where
    by_end : (o : Option Ending) → ending_at y.local ≡ o → ending_at (closed p y o).local ≡ None
    by_end None is = is
    by_end (Some ending) is = refl

pub stepped_copies_go_on : SteppedCopiesGoOn
stepped_copies_go_on p x seen e is = over_is_closed p (advance p (accessed x) x.local seen)

-- a call begins with no message that it made
not_made : (p : Setting) (x : Seat) (message : CallMessage) (e : Entry) → Starting p x message → message ≡ Sent e true → ⊥
not_made p x message e start is = true≢false (subst (Starting p x) is start).0

pub begun_copies_go_on : BegunCopiesGoOn
begun_copies_go_on p x call e is = by_start (starts p (λ w. Closed) x call)
  where
    by_start : Starts p (λ w. Closed) x (begin p x call) ⊎ Takes x (begin p x call) → ending_at (begin p x call).local ≡ None
    by_start (inl at) = absurd (not_made p x (message_at (begin p x call).local) e at.message is)
    by_start (inr at) = ap ending_at at.place
