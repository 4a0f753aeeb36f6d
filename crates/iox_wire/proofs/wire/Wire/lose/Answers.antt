use Rattle.iox_wire.proofs.Playing.{death_told}
use Rattle.iox_wire.proofs.wire.Wire.lose.Goals as goal

pub returns-clause-lost : goal.returns-clause-lost
returns-clause-lost c =
    death_told c.args.self.now c.declare_dead-told.new.self c.args.node c.declare_dead-told.result c.declare_dead-told.ensures.weave
    c.declare_dead-told.ensures.lost c.declare_dead-told.ensures.allowed c.declare_dead-told.ensures.refused c.declare_dead-told.ensures.unchanged
