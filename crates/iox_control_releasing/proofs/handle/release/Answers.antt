use Rattle.iox_control_releasing.proofs.AsReleased.{as_released, order_amid, tidy_after, used_amid}
use Rattle.iox_control_releasing.proofs.handle.release.Goals as goal

pub leave-place-requires-clause-order : goal.leave-place-requires-clause-order
leave-place-requires-clause-order c = order_amid c.args.control.now c.end.new.control c.args.node c.args.number c.args.kind c.in_ok-entry.field-0.goes c.in_ok-entry.field-0.entry c.requires.order c.in_ok-entry.ensures.ended

pub leave-place-requires-clause-used : goal.leave-place-requires-clause-used
leave-place-requires-clause-used c = used_amid c.args.control.now c.end.new.control c.args.node c.args.number c.args.kind c.in_ok-entry.field-0.goes c.in_ok-entry.field-0.entry c.requires.order c.in_ok-entry.ensures.ended

pub leave-place-requires-clause-stays : goal.leave-place-requires-clause-stays
leave-place-requires-clause-stays c none = c.in_ok-entry.ensures.ended.ended.stays none

pub returns-clause-released : goal.returns-clause-released
returns-clause-released c =
    as_released c.args.control.now c.end.new.control c.args.node c.args.number c.args.kind c.in_ok-entry.field-0.goes c.in_ok-entry.field-0.entry c.requires.order c.in_ok-entry.ensures.ended
    c.leave-place.new.control c.leave-place.result c.leave-place.ensures.port c.leave-place.ensures.unchanged c.leave-place.ensures.left c.leave-place.ensures.shown
    c.leave-place.ensures.pools c.leave-place.ensures.gone

pub returns-clause-tidy : goal.returns-clause-tidy
returns-clause-tidy c =
    tidy_after c.args.control.now c.end.new.control c.args.node c.args.number c.args.kind c.in_ok-entry.field-0.goes c.in_ok-entry.field-0.entry c.requires.order c.in_ok-entry.ensures.ended
    c.leave-place.new.control c.leave-place.result c.leave-place.ensures.port c.leave-place.ensures.unchanged c.leave-place.ensures.left c.leave-place.ensures.shown
    c.leave-place.ensures.pools c.leave-place.ensures.gone c.leave-place.ensures.tidy
