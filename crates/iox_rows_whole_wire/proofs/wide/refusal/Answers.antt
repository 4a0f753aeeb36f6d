use Rattle.std.specs.Prelude.{false}
use Rattle.iox_rows_whole_wire.proofs.OpensOnWide.{is_plan}
use Rattle.iox_rows_whole_wire.proofs.wide.refusal.Goals as goal

pub new_refusal-requires : goal.new_refusal-requires
new_refusal-requires c = (is_plan false _ c.in_ok-plan.ensures).numbers
