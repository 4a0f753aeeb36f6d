-- What the slots that change hold then, and that no other slot changes.
use Rattle.std.specs.Prelude.{◌≡◌, ℕ, List}
use Rattle.iox_model.specs.Messages.{Message}
use Rattle.iox_wire_moments.specs.MomentsOf.{Pools}
use Rattle.iox_wire_locals.specs.declared.local.Ending.TheVariants.{Lends, Fills}
use Rattle.iox_wire_locals.specs.declared.local.Local.TheVariants.{LendStores}
use Rattle.iox_wire_locals.specs.declared.seat.Seat.{Seat}
use Rattle.iox_wire_locals.specs.declared.table.Entry.{Entry}
use Rattle.iox_wire_locals.specs.declared.table.NewLoan.{NewLoan}
use Rattle.iox_wire_locals.specs.NewLoans.{entry_in, loan_in, message_in}
use Rattle.iox_wire_locals.specs.Steps.{advance, accessed}
use Rattle.iox_wire_locals.specs.Tables.{Setting, handle_of}
use Rattle.iox_wire_laws.specs.WireHolding.Holding.{held_after, held_ended, held_with}

-- The slot that holds another message holds that one, and each other slot holds what it held.
abbrev pub OneSlotChanges : Type 0
OneSlotChanges =
    (held : Pools) (port slot : ℕ) (m : Message)
    → (held_with held port slot m port slot ≡ m)
    × ((q j : ℕ) → (port ≡ q → slot ≡ j → ⊥) → held_with held port slot m q j ≡ held q j)

-- Where an access takes a slot for a loan, that slot holds the loan's message, and no other slot
-- changes: its handle is the one that the machine makes.
abbrev pub TakenSlotsHoldTheirLoans : Type 0
TakenSlotsHoldTheirLoans =
    (p : Setting) (x : Seat) (seen : ℕ) (held : Pools) (o : NewLoan) (slot next : ℕ)
    → (advance p (accessed x) x.local seen).local ≡ LendStores o slot next
    → ((old : NewLoan) (own k : ℕ) → x.local ≡ LendStores old own k → ⊥)
    → (held_after p x seen held ≡ held_with held o.port slot (message_in p o))
    × ((p.port o.port).node ≡ x.node
    → handle_of (held_after p x seen held) x.node (entry_in o slot) ≡ loan_in p o)

-- At its end a loan holds the payload that stands in its slot, and a write its words.
abbrev pub EndedSlotsHoldPayloads : Type 0
EndedSlotsHoldPayloads =
    (held : Pools) (payload words : List ℕ) (o : NewLoan) (slot : ℕ) (e : Entry)
    → (held_ended held payload (Lends o slot) o.port slot
    ≡ record (held o.port slot) { payload = payload })
    × (held_ended held payload (Fills e words) e.sender e.slot
    ≡ record (held e.sender e.slot) { payload = words })
    × ((q j : ℕ) → (e.sender ≡ q → e.slot ≡ j → ⊥)
    → held_ended held payload (Fills e words) q j ≡ held q j)
    × ((q j : ℕ) → (o.port ≡ q → slot ≡ j → ⊥)
    → held_ended held payload (Lends o slot) q j ≡ held q j)
