use Rattle.std.proofs.Common.{true}
use Rattle.iox_rows_whole_wire.proofs.OpensOnOnes.{is_plan}
use Rattle.iox_rows_whole_wire.proofs.unnamed.refusal.Goals as goal

pub new_refusal-requires : goal.new_refusal-requires
new_refusal-requires c = (is_plan _ _ true _ c.in_ok-plan.ensures).numbers
