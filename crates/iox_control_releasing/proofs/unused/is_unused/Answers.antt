use Rattle.std.specs.Prelude.{not}
use Rattle.std.proofs.Common.{sym, ap, ◌∙◌, true}
use Rattle.iox_hub_ports.specs.Ports.{info_in}
use Rattle.iox_control_releasing.proofs.Lefts.{info_none, told, told_held, told_of_none}
use Rattle.iox_control_releasing.proofs.unused.is_unused.Goals as goal

pub returns-in-None-clause-told : goal.returns-in-None-clause-told
returns-in-None-clause-told c =
    told_of_none c.args.control.now.tables c.args.port c.requires.order.order
    (info_none c.args.control.now.tables.ports c.args.port (sym c.in-None.is ∙ c.find_near.ensures ∙ ap (λ ps. info_in ps c.args.port) c.ports.ensures.ports))

pub returns-then-info-clause-told : goal.returns-then-info-clause-told
returns-then-info-clause-told c =
    told_held c.args.control.now.tables c.args.port c.requires.order.order c.in-Some.info
    (sym c.in-Some.is ∙ c.find_near.ensures ∙ ap (λ ps. info_in ps c.args.port) c.ports.ensures.ports) c.if-info.true

pub returns-else-info-clause-told : goal.returns-else-info-clause-told
returns-else-info-clause-told c =
    told c.args.control.now.tables c.args.port c.requires.order.order c.in-Some.info c.has_handles.result true
    (sym c.in-Some.is ∙ c.find_near.ensures ∙ ap (λ ps. info_in ps c.args.port) c.ports.ensures.ports) c.has_handles.ensures.told
    (ap not c.if-info.false)
