-- Slots stay known as a loan takes one.
use Rattle.std.specs.Prelude.{◌≡◌, ℕ, ◌<◌, List, [], ◌∷◌}
use Rattle.iox_model.specs.States.{State}
use Rattle.iox_wire_moments.specs.MomentsOf.{Pools}
use Rattle.iox_wire_locals.specs.declared.seat.Seat.{Seat}
use Rattle.iox_wire_locals.specs.declared.table.NewLoan.{NewLoan}
use Rattle.iox_wire_locals.specs.Courses.{takes_slot}
use Rattle.iox_wire_locals.specs.Known.{free_slots}
use Rattle.iox_wire_locals.specs.NewLoans.{message_in}
use Rattle.iox_wire_locals.specs.Tables.{Setting}
use Rattle.iox_wire_laws.specs.WireKeeping.UsedSlots.{slots_in_call}
use Rattle.iox_wire_laws.specs.WireRegions.OwnedWords.{HasLane}
use Rattle.iox_wire_laws.specs.WireHolding.Holding.{held_with}
use Rattle.iox_wire_laws.specs.WireHolding.SlotsKnown.{SlotsKnown}

-- A loan has its port's next serial, which no other slot of the pool holds, and a lane.
pub record IsNextLoan (p : Setting) (held : Pools) (s : State) (o : NewLoan) (slot : ℕ)
    : Type 0 where
  pub serial : o.serial ≡ s.fixed.loans o.port
  pub alone : (j : ℕ) → j < (p.port o.port).pool → (held o.port j).serial ≡ o.serial → j ≡ slot
  pub lane : HasLane p o

-- A loan that takes the first free slot, which then holds its message, leaves slots that are known.
abbrev pub PicksAreKnown : Type 0
PicksAreKnown =
    (p : Setting) (held : Pools) (s : State) (x : Seat) (o : NewLoan) (slot : ℕ) (free : List ℕ)
    → SlotsKnown p held s x → ((port : ℕ) → slots_in_call port x.local ≡ [])
    → free_slots x o.port ≡ slot ∷ free → IsNextLoan p held s o slot
    → SlotsKnown p (held_with held o.port slot (message_in p o)) s (takes_slot x o (slot ∷ free))
