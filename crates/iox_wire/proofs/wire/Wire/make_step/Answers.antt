use Rattle.std.proofs.Common.{subst}
use Rattle.iox_wire_weaves.specs.Steps.{MakesItsAccess, StepIsWoven}
use Rattle.iox_wire_weaves.specs.Wires.{WireData}
use Rattle.iox_wire.proofs.wire.Wire.make_step.Goals as goal

pub returns-clause-one_access : goal.returns-clause-one_access
returns-clause-one_access c =
    subst (λ (v : WireData). MakesItsAccess v c.args.node c.any_step.new.self) c.if-quiet_step.ensures.unchanged c.any_step.ensures.one_access

pub returns-clause-weave : goal.returns-clause-weave
returns-clause-weave c =
    subst (λ (v : WireData). StepIsWoven v c.args.node c.any_step.result c.any_step.new.self) c.if-quiet_step.ensures.unchanged c.any_step.ensures.weave
