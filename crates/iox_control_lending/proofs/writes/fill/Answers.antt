use Rattle.iox_control_lending.proofs.FillLemmas.{after_keeps, after_left, fills_shown}
use Rattle.iox_control_lending.specs.Fills.{kind_after}
use Rattle.iox_control_lending.proofs.writes.fill.Goals as goal

pub returns-clause-left : goal.returns-clause-left
returns-clause-left c =
    after_left c.args.control.now c.set_kind.new.control c.args.node c.args.number c.requires.loan c.in-Some.entry c.in-Some.ensures c.args.all c.kind_after.result c.kind_after.ensures c.set_kind.ensures

pub returns-clause-order : goal.returns-clause-order
returns-clause-order c =
    after_keeps c.args.control.now c.set_kind.new.control c.args.node c.args.number c.requires.loan c.in-Some.entry c.in-Some.ensures c.args.all c.requires.order
    (after_left c.args.control.now c.set_kind.new.control c.args.node c.args.number c.requires.loan c.in-Some.entry c.in-Some.ensures c.args.all c.kind_after.result c.kind_after.ensures c.set_kind.ensures)

pub returns-clause-filled : goal.returns-clause-filled
returns-clause-filled c x h z there same may =
    fills_shown c.args.control.now c.set_kind.new.control c.args.node c.args.number x h z (kind_after c.args.all h.kind) c.requires.order c.requires.loan there same may
    (after_left c.args.control.now c.set_kind.new.control c.args.node c.args.number c.requires.loan c.in-Some.entry c.in-Some.ensures c.args.all c.kind_after.result c.kind_after.ensures c.set_kind.ensures h there)
