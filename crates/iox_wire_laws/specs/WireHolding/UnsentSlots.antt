-- What the end of a loan, and of a write, relies on: nobody else names the slot of a message that
-- was not sent.
use Rattle.std.specs.Prelude.{◌≡◌, ℕ, ◌<◌, false, List, None}
use Rattle.iox_model.specs.Handles.{filled_kind}
use Rattle.iox_model.specs.Joins.{not_living}
use Rattle.iox_model.specs.Maps.{has_number, AreDistinct}
use Rattle.iox_model.specs.Weaves.{World}
use Rattle.iox_wire_words.specs.Fits.{WireContents}
use Rattle.iox_wire_moments.specs.MomentsOf.{Pools}
use Rattle.iox_wire_locals.specs.declared.local.Ending.TheVariants.{Lends, Fills}
use Rattle.iox_wire_locals.specs.declared.local.Local.TheVariants.{Ends}
use Rattle.iox_wire_locals.specs.declared.seat.Seat.{Seat}
use Rattle.iox_wire_locals.specs.declared.table.Entry.{Entry}
use Rattle.iox_wire_locals.specs.declared.table.NewLoan.{NewLoan}
use Rattle.iox_wire_locals.specs.Tables.{Setting}
use Rattle.iox_wire_laws.specs.WireKeeping.Shows.{ShowsWorld}
use Rattle.iox_wire_laws.specs.WireKeeping.UsedSlots.{slots_held}
use Rattle.iox_wire_laws.specs.WireRegions.OwnedBegins.{LayoutFits}
use Rattle.iox_wire_laws.specs.WireHolding.HeldEnds.{HasAlone}
use Rattle.iox_wire_laws.specs.WireHolding.Named.{IsUnnamed}
use Rattle.iox_wire_laws.specs.WireHolding.SlotsKnown.{NamesStand}

-- Nobody names the slot of a loan that ends, where no handle of its port has the slot.
abbrev pub NewLoansAreUnnamed : Type 0
NewLoansAreUnnamed =
    (p : Setting) (held : Pools) (word : ℕ → ℕ) (c : WireContents) (seats : ℕ → Seat) (w : World)
    (n : ℕ) (o : NewLoan) (slot : ℕ)
    → ShowsWorld p held word c seats w → LayoutFits p w.state.fixed
    → ((k : ℕ) → not_living w.state k ≡ None → NamesStand p w.state.fixed (seats k))
    → not_living w.state n ≡ None → (seats n).local ≡ Ends (Lends o slot)
    → (held o.port slot).serial ≡ o.serial → slot < (p.port o.port).pool
    → has_number slot (slots_held (seats n) o.port) ≡ false
    → IsUnnamed p c seats w.state o.port slot

-- The slot of a loan that was written belongs only to its entry, where no two handles of its port have
-- one slot.
abbrev pub FilledLoansAreAlone : Type 0
FilledLoansAreAlone =
    (p : Setting) (held : Pools) (word : ℕ → ℕ) (c : WireContents) (seats : ℕ → Seat) (w : World)
    (n : ℕ) (e : Entry) (words : List ℕ)
    → ShowsWorld p held word c seats w → LayoutFits p w.state.fixed
    → ((k : ℕ) → not_living w.state k ≡ None → NamesStand p w.state.fixed (seats k))
    → not_living w.state n ≡ None → (seats n).local ≡ Ends (Fills e words)
    → filled_kind e.kind ≡ e.kind → e.slot < (p.port e.sender).pool
    → AreDistinct (slots_held (seats n) e.port)
    → HasAlone p c seats w.state n e
