use Rattle.std.proofs.Common.{ap, subst, sym, ◌∙◌}
use Rattle.std.specs.Option.{option_map}
use Rattle.iox_control.specs.Controls.{IsControl}
use Rattle.iox_control.specs.Entries.{handle_state}
use Rattle.iox_control_lending.specs.declared.asked.Written.TheVariants as written
use Rattle.iox_control_lending.proofs.FillLemmas.{writes_whole}
use Rattle.iox_control_lending.proofs.FitLemmas.{filled_fit, filled_keeps, misfit_fit}
use Rattle.iox_control_lending.proofs.writes.write.Goals as goal

pub returns-in_default-clause-left : goal.returns-in_default-clause-left
returns-in_default-clause-left c =
    misfit_fit c.args.control.now c.fill_handle.new.self c.args.node c.args.number c.requires.loan c.args.elements
    (ap (option_map handle_state) (sym c.in_default.is) ∙ c.fill_handle.ensures.told) (c.fill_handle.ensures.unchanged c.in_default.is)

pub returns-in_default-clause-order : goal.returns-in_default-clause-order
returns-in_default-clause-order c =
    subst IsControl (sym (c.fill_handle.ensures.unchanged c.in_default.is)) c.requires.order

pub returns-in_default-clause-whole : goal.returns-in_default-clause-whole
returns-in_default-clause-whole c x h p there suit same =
    writes_whole c.args.control.now c.fill_handle.new.self c.args.node c.args.number x h p c.args.elements written.WrongLength c.requires.order c.requires.loan there suit same
    (misfit_fit c.args.control.now c.fill_handle.new.self c.args.node c.args.number c.requires.loan c.args.elements
    (ap (option_map handle_state) (sym c.in_default.is) ∙ c.fill_handle.ensures.told) (c.fill_handle.ensures.unchanged c.in_default.is) h there)

pub returns-clause-left : goal.returns-clause-left
returns-clause-left c =
    filled_fit c.args.control.now c.fill_handle.new.self c.args.node c.args.number c.requires.loan c.args.elements
    c.in-Some.entry c.in-Some.ensures.told c.in-Some.ensures.changed

pub returns-clause-order : goal.returns-clause-order
returns-clause-order c =
    filled_keeps c.args.control.now c.fill_handle.new.self c.args.node c.args.number c.requires.loan c.args.elements _ c.requires.order
    (filled_fit c.args.control.now c.fill_handle.new.self c.args.node c.args.number c.requires.loan c.args.elements
    c.in-Some.entry c.in-Some.ensures.told c.in-Some.ensures.changed c.requires.loan.handle c.requires.loan.named.there)

pub returns-clause-whole : goal.returns-clause-whole
returns-clause-whole c x h p there suit same =
    writes_whole c.args.control.now c.fill_handle.new.self c.args.node c.args.number x h p c.args.elements (written.Done _) c.requires.order c.requires.loan there suit same
    (filled_fit c.args.control.now c.fill_handle.new.self c.args.node c.args.number c.requires.loan c.args.elements
    c.in-Some.entry c.in-Some.ensures.told c.in-Some.ensures.changed h there)
