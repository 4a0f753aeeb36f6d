use Rattle.iox_wire.proofs.Playing.{begin_kept}
use Rattle.iox_wire.proofs.uses.reads_stay_as_a_call_begins.Goals as goal

pub returns : goal.returns
returns c = begin_kept c.run.result c.args.wire.now c.run.new.self c.args.node _ c.run.ensures.whole
