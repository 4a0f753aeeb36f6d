use Rattle.iox_control_questions.proofs.RefusedLemmas.{told_of_call, whole_of_call}
use Rattle.iox_control_questions.proofs.refusals.refusal.Goals as goal

pub returns-clause-told : goal.returns-clause-told
returns-clause-told c call number asks =
    told_of_call c.args.control.now.tables c.args.node c.args.number c.args.asked c.first_reason.result call c.first_reason.ensures number asks

pub returns-clause-whole : goal.returns-clause-whole
returns-clause-whole c x call number asks r is =
    whole_of_call x c.args.control.now.tables c.args.node c.args.number c.args.asked c.first_reason.result call r c.requires.order.order c.first_reason.ensures number asks is
