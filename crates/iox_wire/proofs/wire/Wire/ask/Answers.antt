use Rattle.iox_wire.proofs.Playing.{begin_told}
use Rattle.iox_wire.proofs.wire.Wire.ask.Goals as goal

pub returns-clause-asked : goal.returns-clause-asked
returns-clause-asked c =
    begin_told c.args.self.now c.begin-told.new.self c.args.node c.args.call c.begin-told.result c.begin-told.ensures.begun c.begin-told.ensures.weave
    c.begin-told.ensures.read c.begin-told.ensures.refused c.begin-told.ensures.unchanged c.begin-told.ensures.always
