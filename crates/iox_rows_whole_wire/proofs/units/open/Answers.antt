use Rattle.iox_rows_whole_wire.proofs.OpensOnUnits.{is_plan, may_open, whole_terms}
use Rattle.iox_rows_whole_wire.proofs.units.open.Goals as goal

pub new-requires-clause-plan : goal.new-requires-clause-plan
new-requires-clause-plan c = is_plan _ _ c.in_ok-plan.ensures

pub new-requires-clause-whole : goal.new-requires-clause-whole
new-requires-clause-whole c = whole_terms _ _ _ c.in_ok-plan.ensures c.in_ok-terms.ensures

pub new-requires-clause-opens : goal.new-requires-clause-opens
new-requires-clause-opens c none = may_open _ _ _ c.in_ok-plan.ensures c.in_ok-terms.ensures
