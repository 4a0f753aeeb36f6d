use Rattle.std.proofs.Common.{Some, ap, is_some, ◌∙◌}
use Rattle.std.specs.Prelude.{Bool, None, if◌then◌else◌}
use Rattle.iox_model.specs.declared.kind.Kind.{Kind}
use Rattle.iox_model.specs.Handles.{filled_kind}
use Rattle.iox_control.specs.Fittings.{filled_if_loan}
use Rattle.iox_control_lending.specs.declared.asked.Written.TheVariants as written
use Rattle.iox_control_lending.proofs.FillLemmas.{loan_kind, writes_whole}
use Rattle.iox_control_lending.proofs.FitLemmas.{filled_fit, filled_keeps}
use Rattle.iox_control_lending.proofs.writes.write_whole.Goals as goal

pub fill_near-requires-clause-there : goal.fill_near-requires-clause-there
fill_near-requires-clause-there c = ap is_some c.requires.loan.named.there

pub fill_near-requires-clause-fits : goal.fill_near-requires-clause-fits
fill_near-requires-clause-fits c h there =
    ap (λ (b : Bool). if b then filled_if_loan h.kind else None) (c.requires.fits h there)
    ∙ ap (λ (b : Bool). if b then Some (filled_kind h.kind) else None) (loan_kind c.args.control.now.tables c.args.node c.args.number c.requires.loan h there)
    ∙ ap (λ (k : Kind). Some k) (c.requires.kind h there)

pub returns-clause-left : goal.returns-clause-left
returns-clause-left c =
    filled_fit c.args.control.now c.fill_near.new.self c.args.node c.args.number c.requires.loan (Some c.args.elements)
    c.in_ok-entry.entry c.in_ok-entry.ensures.told c.in_ok-entry.ensures.changed

pub returns-clause-order : goal.returns-clause-order
returns-clause-order c =
    filled_keeps c.args.control.now c.fill_near.new.self c.args.node c.args.number c.requires.loan (Some c.args.elements) _ c.requires.order
    (filled_fit c.args.control.now c.fill_near.new.self c.args.node c.args.number c.requires.loan (Some c.args.elements)
    c.in_ok-entry.entry c.in_ok-entry.ensures.told c.in_ok-entry.ensures.changed c.requires.loan.handle c.requires.loan.named.there)

pub returns-clause-whole : goal.returns-clause-whole
returns-clause-whole c x h p there suit same =
    writes_whole c.args.control.now c.fill_near.new.self c.args.node c.args.number x h p (Some c.args.elements) (written.Done _) c.requires.order c.requires.loan there suit same
    (filled_fit c.args.control.now c.fill_near.new.self c.args.node c.args.number c.requires.loan (Some c.args.elements)
    c.in_ok-entry.entry c.in_ok-entry.ensures.told c.in_ok-entry.ensures.changed h there)
