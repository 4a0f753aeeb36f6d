use Rattle.std.proofs.Common.{true, [], ◌∷◌}
use Rattle.iox_wire.proofs.NewRefusals.{are_named}
use Rattle.iox_rows_whole_wire.proofs.OpensOnOnes.{is_plan, whole_terms}
use Rattle.iox_rows_whole_wire.proofs.NamesOfOnes.{unlisted}
use Rattle.iox_rows_whole_wire.proofs.unnamed.without_a_node.Goals as goal

pub new-requires-clause-plan : goal.new-requires-clause-plan
new-requires-clause-plan c = is_plan _ _ true _ c.in_ok-plan.ensures

pub new-requires-clause-whole : goal.new-requires-clause-whole
new-requires-clause-whole c = whole_terms _ _ _ _ _ c.in_ok-plan.ensures c.in_ok-terms.ensures

pub new-requires-clause-opens : goal.new-requires-clause-opens
new-requires-clause-opens c none =
    absurd
    (unlisted _ _ c.in_ok-plan.plan c.in_ok-terms.terms c.in_ok-plan.ensures (are_named c.in_ok-plan.plan c.in_ok-terms.terms (0 ∷ []) none))
