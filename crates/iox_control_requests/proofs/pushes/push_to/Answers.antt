use Rattle.std.proofs.Common.{◌∙◌, sym}
use Rattle.iox_control_requests.proofs.Gives.{push_none, push_some}
use Rattle.iox_control_requests.proofs.pushes.push_to.Goals as goal

pub returns-in-Some-clause-pushed : goal.returns-in-Some-clause-pushed
returns-in-Some-clause-pushed c p there =
    push_some c.args.control.now c.open_and_push_in.new.self c.let_go.new.self _ c.args.entry.pool c.in-Some.oldest _
    (c.open_and_push_in.ensures.left p there) c.let_go.ensures.left (sym (c.open_and_push_in.ensures.oldest p there) ∙ c.in-Some.is)

pub returns-in_default-clause-pushed : goal.returns-in_default-clause-pushed
returns-in_default-clause-pushed c p there =
    push_none c.args.control.now c.open_and_push_in.new.self _ c.args.entry.pool _
    (c.open_and_push_in.ensures.left p there) (sym (c.open_and_push_in.ensures.oldest p there) ∙ c.in_default.is)
