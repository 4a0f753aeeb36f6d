use Rattle.std.proofs.Common.{true, [], refl, ◌∷◌}
use Rattle.iox_wire_lenders.specs.declared.terms.WireTerms.{WireTerms}
use Rattle.iox_wire.proofs.NewRefusals.{are_named}
use Rattle.iox_rows_whole_wire.proofs.OpensOnOnes.{is_plan, whole_terms}
use Rattle.iox_rows_whole_wire.proofs.NamesOfOnes.{taken, whole_still}
use Rattle.iox_rows_whole_wire.proofs.unnamed.with_a_taken_number.Goals as goal

pub new-requires-clause-plan : goal.new-requires-clause-plan
new-requires-clause-plan c = is_plan _ _ true _ c.in_ok-plan.ensures

pub new-requires-clause-whole : goal.new-requires-clause-whole
new-requires-clause-whole c = whole_still _ _ 1 (whole_terms _ _ _ _ _ c.in_ok-plan.ensures c.in_ok-terms.ensures)

pub new-requires-clause-opens : goal.new-requires-clause-opens
new-requires-clause-opens c none =
    let numbered : WireTerms = record (c.in_ok-terms.terms) { first_number = 1 } in
    absurd
    (taken _ _ c.in_ok-plan.plan numbered (0 ∷ 1 ∷ []) c.in_ok-plan.ensures refl (are_named c.in_ok-plan.plan numbered (0 ∷ 1 ∷ []) none))
