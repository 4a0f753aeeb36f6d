-- As a node's call begins, and as a node dies, words and seats show a world again.
use Rattle.std.specs.Prelude.{◌≡◌, ℕ, None}
use Rattle.iox_model.specs.Commands.{WireCall}
use Rattle.iox_model.specs.Loans.{Choice}
use Rattle.iox_model.specs.Maps.{put_at}
use Rattle.iox_model.specs.Weaves.{World, Begins, Dies, IsBeat, begin_refusal, begun}
use Rattle.iox_wire_words.specs.Fits.{WireContents}
use Rattle.iox_wire_moments.specs.MomentsOf.{Pools}
use Rattle.iox_wire_locals.specs.declared.seat.Seat.{Seat}
use Rattle.iox_wire_locals.specs.Tables.{Setting}
use Rattle.iox_wire_locals.specs.Begins.{begin}
use Rattle.iox_wire_laws.specs.WireKeeping.Readiness.{choice_for, IsReady}
use Rattle.iox_wire_laws.specs.WireKeeping.Shows.{ShowsWorld}

-- Where words and seats show a world, a call of a ready node that is not refused begins as in the
-- machine. The same words, with the node at the first place of its call, show the world after it.
abbrev pub BeginsShowTheWorld : Type 0
BeginsShowTheWorld =
    (p : Setting) (held : Pools) (word : ℕ → ℕ) (c : WireContents) (seats : ℕ → Seat) (w : World)
    (n : ℕ) (call : WireCall)
    → ShowsWorld p held word c seats w → IsReady p held w (seats n)
    → begin_refusal w n call ≡ None
    → let choice : Choice = choice_for p (seats n) call in
    IsBeat w (Begins n call choice) (begun w n choice call)
    × ShowsWorld p held word c (put_at seats n (begin p (seats n) call)) (begun w n choice call)

-- The death of a node changes no word and no seat: they show the world after it.
abbrev pub DeathsShowTheWorld : Type 0
DeathsShowTheWorld =
    (p : Setting) (held : Pools) (word : ℕ → ℕ) (c : WireContents) (seats : ℕ → Seat) (w u : World)
    (n : ℕ)
    → ShowsWorld p held word c seats w → IsBeat w (Dies n) u → ShowsWorld p held word c seats u
