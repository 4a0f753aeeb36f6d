use Rattle.iox_wire.proofs.Playing.{left_told, step_allowed, step_full, step_room, step_told}
use Rattle.iox_wire.proofs.wire.Wire.go.Goals as goal

pub returns-clause-stepped : goal.returns-clause-stepped
returns-clause-stepped c =
    step_told c.args.self.now c.step-told.new.self c.args.node c.step-told.result c.want_of.result c.step-told.ensures.one_access
    c.step-told.ensures.weave c.step-told.ensures.read c.step-told.ensures.allowed c.step-told.ensures.refused c.step-told.ensures.unchanged c.want_of.ensures.named

pub returns-clause-allowed : goal.returns-clause-allowed
returns-clause-allowed c =
    step_allowed c.args.self.now c.args.node c.step-told.result c.want_of.result c.step-told.ensures.refused c.want_of.ensures.done
    c.want_of.ensures.want

pub returns-clause-unchanged : goal.returns-clause-unchanged
returns-clause-unchanged c = left_told _ c.step-told.result c.want_of.result c.step-told.ensures.unchanged c.want_of.ensures.done

pub returns-clause-full : goal.returns-clause-full
returns-clause-full c = step_full c.args.self.now c.step-told.result c.want_of.result c.step-told.ensures.full c.want_of.ensures.done c.want_of.ensures.memory

pub returns-clause-room : goal.returns-clause-room
returns-clause-room c = step_room c.args.self.now c.step-told.new.self c.step-told.result c.step-told.ensures.room c.step-told.ensures.unchanged
