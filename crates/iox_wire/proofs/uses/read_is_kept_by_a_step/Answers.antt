use Rattle.iox_wire.proofs.Playing.{step_kept}
use Rattle.iox_wire.proofs.uses.read_is_kept_by_a_step.Goals as goal

pub returns : goal.returns
returns c = step_kept c.run.result c.args.wire.now c.run.new.self c.args.node c.requires c.run.ensures.whole
