use Rattle.std.proofs.Common.{sym, ap, ◌∙◌, arith, ◌≡◌, length}
use Rattle.iox_control_questions.proofs.NamedLemmas.{by_label, named_by_none, named_by_one}
use Rattle.iox_control_questions.proofs.naming.is_named_by_some_server.Goals as goal

pub returns-then-is_named_at : goal.returns-then-is_named_at
returns-then-is_named_at c =
    named_by_one c.args.control.now.tables c.args.entry.port c.label-label.result c.args.hinted c.loop-at.at (sym c.is_named_at.ensures ∙ c.if-is_named_at.true)
    ∙ by_label c.args.control.now.tables c.args.entry c.args.hinted c.label-label.result c.label-label.ensures

pub returns : goal.returns
returns c =
    let size : c.len-at-end.result ≡ length c.args.control.now.tables.ports = c.len-at-end.ensures.len ∙ ap length c.ports.ensures.ports in
    named_by_none c.args.control.now.tables c.args.entry.port c.label-label.result c.args.hinted (λ i low. c.loop-at.invariant i (omega (arith, low, size, c.loop-at-test.false)))
    ∙ by_label c.args.control.now.tables c.args.entry c.args.hinted c.label-label.result c.label-label.ensures
