use Rattle.iox_wire.proofs.Playing.{three_told}
use Rattle.iox_wire.proofs.uses.three_steps_are_three_accesses.Goals as goal

pub returns : goal.returns
returns c p r shows = three_told c.run.result c.args.wire.now c.run.new.self c.args.node c.run.ensures.whole p r shows
