-- As a node's call begins, words and seats show the next world, with what slots hold then.
use Rattle.std.specs.Prelude.{◌≡◌, ℕ, None}
use Rattle.iox_model.specs.Commands.{WireCall}
use Rattle.iox_model.specs.Loans.{Choice}
use Rattle.iox_model.specs.Maps.{put_at}
use Rattle.iox_model.specs.Weaves.{World, Begins, IsBeat, begin_refusal, begun}
use Rattle.iox_wire_words.specs.Fits.{WireContents}
use Rattle.iox_wire_moments.specs.MomentsOf.{Pools}
use Rattle.iox_wire_locals.specs.declared.seat.Seat.{Seat}
use Rattle.iox_wire_locals.specs.Begins.{begin}
use Rattle.iox_wire_locals.specs.Tables.{Setting}
use Rattle.iox_wire_laws.specs.WireKeeping.Readiness.{choice_for, IsReady}
use Rattle.iox_wire_laws.specs.WireKeeping.Shows.{ShowsWorld}
use Rattle.iox_wire_laws.specs.WireHolding.HeldSteps.{FreeSlotsAreUnnamed}
use Rattle.iox_wire_laws.specs.WireHolding.Holding.{held_at}

-- Where words and seats show a world, a call of a ready node that is not refused begins as in the
-- machine. The world after it is shown with what slots hold then: a loan with no way to get back on
-- takes its slot at once.
abbrev pub BeginsShowWhatIsHeld : Type 0
BeginsShowWhatIsHeld =
    (p : Setting) (held : Pools) (word : ℕ → ℕ) (c : WireContents) (seats : ℕ → Seat) (w : World)
    (n : ℕ) (call : WireCall)
    → ShowsWorld p held word c seats w → IsReady p held w (seats n)
    → FreeSlotsAreUnnamed p c seats w.state (seats n) → begin_refusal w n call ≡ None
    → let choice : Choice = choice_for p (seats n) call in
    let y : Seat = begin p (seats n) call in
    IsBeat w (Begins n call choice) (begun w n choice call)
    × ShowsWorld p (held_at p held y.local) word c (put_at seats n y) (begun w n choice call)
