-- One slot at a time changes.
use Rattle.std.specs.Prelude.{if◌then◌else◌}
use Rattle.std.proofs.Common.{◌≡◌, ℕ, ◌==◌, ◌&&◌, List, refl, ap, sym, ◌∙◌, eqb-true}
use Rattle.iox_model.specs.Messages.{Message}
use Rattle.iox_model.specs.States.{Handle}
use Rattle.iox_laws.proofs.WeaveLaws.MapLemmas.{eqb-refl}
use Rattle.iox_laws.proofs.WeaveLedger.Truths.{false_if}
use Rattle.iox_wire_moments.specs.MomentsOf.{Pools}
use Rattle.iox_wire_locals.specs.declared.local.Local.{Local}
use Rattle.iox_wire_locals.specs.declared.local.Local.TheVariants.{LendStores}
use Rattle.iox_wire_locals.specs.declared.table.Entry.{Entry}
use Rattle.iox_wire_locals.specs.declared.table.NewLoan.{NewLoan}
use Rattle.iox_wire_locals.specs.NewLoans.{entry_in, loan_in, message_in}
use Rattle.iox_wire_locals.specs.Tables.{Setting, handle_of}
use Rattle.iox_wire_laws.specs.WireKeeping.Writes.{with_payload}
use Rattle.iox_wire_laws.proofs.WireRegions.OwnPorts.{both}
use Rattle.iox_wire_laws.specs.WireHolding.Holding.{held_after, held_from, held_with}
use Rattle.iox_wire_laws.specs.WireHolding.HoldingLaws.{EndedSlotsHoldPayloads, OneSlotChanges, TakenSlotsHoldTheirLoans}
use Rattle.iox_wire_laws.proofs.WireHolding.HeldElsewhere.{handle_with}
use Rattle.iox_wire_laws.proofs.WireHolding.UnnamedSlots.{other_slot}

pub one_slot_changes : OneSlotChanges
one_slot_changes held port slot m = (
  rw (eqb-refl port) (rw (eqb-refl slot) refl),
  λ q j other. other_slot held port slot m q j (false_if ((port == q) && (slot == j)) (λ is.
      let same = both (port == q) (slot == j) is in other (eqb-true port q same.0) (eqb-true slot j same.1))),
)

-- ---- loans

module _ (p : Setting) (held : Pools) (o : NewLoan) (slot next : ℕ) where
  taken : (old : Local) → ((own : NewLoan) (i k : ℕ) → old ≡ LendStores own i k → ⊥)
      → held_from p held old (LendStores o slot next) ≡ held_with held o.port slot (message_in p o)
  taken (LendStores own i k) none = absurd (none own i k refl)
  taken old none = refl

  -- the handle of a loan, on its port's node
  abbrev loan_on : ℕ → Message → Handle
  loan_on node m = handle_with node (entry_in o slot) m

pub taken_slots_hold_their_loans : TakenSlotsHoldTheirLoans
taken_slots_hold_their_loans p x seen held o slot next is none =
    let held_is : held_after p x seen held ≡ held_with held o.port slot (message_in p o)
    = ap (held_from p held x.local) is ∙ taken p held o slot next x.local none in (
      held_is,
      λ mine.
          ap (λ k. handle_of k x.node (entry_in o slot)) held_is
          ∙ ap (loan_on p held o slot next x.node) (one_slot_changes held o.port slot (message_in p o)).0
          ∙ ap (λ node. record (loan_in p o) { node = node }) (sym mine),
    )

-- ---- payloads

module _ (held : Pools) (e : Entry) (words : List ℕ) where
  filled : with_payload held e words e.sender e.slot ≡ record (held e.sender e.slot) { payload = words }
  filled = rw (eqb-refl e.sender) (rw (eqb-refl e.slot) refl)

  others : (q j : ℕ) → (e.sender ≡ q → e.slot ≡ j → ⊥) → with_payload held e words q j ≡ held q j
  others q j other =
      ap (λ b. if b then record (held q j) { payload = words } else held q j) (false_if ((q == e.sender) && (j == e.slot)) (λ is.
      let same = both (q == e.sender) (j == e.slot) is in other (sym (eqb-true q e.sender same.0)) (sym (eqb-true j e.slot same.1))))

pub ended_slots_hold_payloads : EndedSlotsHoldPayloads
ended_slots_hold_payloads held payload words o slot e =
    (filled held (entry_in o slot) payload, filled held e words, others held e words, others held (entry_in o slot) payload)
