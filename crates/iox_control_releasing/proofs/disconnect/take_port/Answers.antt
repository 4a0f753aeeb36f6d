use Rattle.std.proofs.Common.{sym, ◌∙◌}
use Rattle.iox_control_releasing.proofs.Gone.{all_go, gone_shown, none_fewer, none_left, none_ordered, none_shown, port_gone, was_there}
use Rattle.iox_control_releasing.proofs.disconnect.take_port.Goals as goal

pub returns-in-None-clause-left : goal.returns-in-None-clause-left
returns-in-None-clause-left c =
    none_left c.args.control.now c.take_out.new.control c.args.port c.requires.order (sym c.in-None.is ∙ c.take_out.ensures.pool) (c.take_out.ensures.unchanged c.in-None.is)

pub returns-in-None-clause-shown : goal.returns-in-None-clause-shown
returns-in-None-clause-shown c =
    none_shown c.args.control.now c.take_out.new.control c.args.port c.requires.order (sym c.in-None.is ∙ c.take_out.ensures.pool) (c.take_out.ensures.unchanged c.in-None.is)

pub returns-in-None-clause-order : goal.returns-in-None-clause-order
returns-in-None-clause-order c =
    none_ordered c.args.control.now c.take_out.new.control c.args.port c.requires.order (sym c.in-None.is ∙ c.take_out.ensures.pool) (c.take_out.ensures.unchanged c.in-None.is)

pub returns-in-None-clause-fewer : goal.returns-in-None-clause-fewer
returns-in-None-clause-fewer c =
    none_fewer c.args.control.now c.take_out.new.control c.args.port c.requires.order (sym c.in-None.is ∙ c.take_out.ensures.pool) (c.take_out.ensures.unchanged c.in-None.is)

pub returns-in-Some-clause-left : goal.returns-in-Some-clause-left
returns-in-Some-clause-left c =
    (all_go c.args.control.now c.take_out.new.control c.cut_all.new.control c.args.port c.requires.order
    c.take_out.ensures.left c.take_out.ensures.room c.take_out.ensures.fewer c.cut_all.ensures.left c.cut_all.ensures.fewer).0

pub returns-in-Some-clause-shown : goal.returns-in-Some-clause-shown
returns-in-Some-clause-shown c x =
    let all = all_go c.args.control.now c.take_out.new.control c.cut_all.new.control c.args.port c.requires.order
    c.take_out.ensures.left c.take_out.ensures.room c.take_out.ensures.fewer c.cut_all.ensures.left c.cut_all.ensures.fewer in
    gone_shown c.args.control.now c.cut_all.new.control c.args.port c.requires.order
    (was_there c.args.control.now c.args.port c.in-Some.field-0 (sym c.in-Some.is ∙ c.take_out.ensures.pool)) c.requires.unused all.1.0 all.0 all.1.1 x

pub returns-in-Some-clause-order : goal.returns-in-Some-clause-order
returns-in-Some-clause-order c =
    let all = all_go c.args.control.now c.take_out.new.control c.cut_all.new.control c.args.port c.requires.order
    c.take_out.ensures.left c.take_out.ensures.room c.take_out.ensures.fewer c.cut_all.ensures.left c.cut_all.ensures.fewer in
    port_gone c.args.control.now c.cut_all.new.control c.args.port c.requires.order
    (was_there c.args.control.now c.args.port c.in-Some.field-0 (sym c.in-Some.is ∙ c.take_out.ensures.pool)) c.requires.unused all.1.0 all.0 all.1.1

pub returns-in-Some-clause-fewer : goal.returns-in-Some-clause-fewer
returns-in-Some-clause-fewer c =
    (all_go c.args.control.now c.take_out.new.control c.cut_all.new.control c.args.port c.requires.order
    c.take_out.ensures.left c.take_out.ensures.room c.take_out.ensures.fewer c.cut_all.ensures.left c.cut_all.ensures.fewer).1.1
