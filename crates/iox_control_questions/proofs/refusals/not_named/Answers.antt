use Rattle.iox_control_questions.proofs.RefusedLemmas.{of_another, of_nobody}
use Rattle.iox_control_questions.proofs.refusals.not_named.Goals as goal

pub returns-in-Some : goal.returns-in-Some
returns-in-Some c = of_another c.args.control.now.tables c.handles.result.now c.args.number c.in-Some.field-0 c.handles.ensures.handles c.in-Some.ensures.found

pub returns-in-None : goal.returns-in-None
returns-in-None c = of_nobody c.args.control.now.tables c.handles.result.now c.args.number c.handles.ensures.handles c.in-None.ensures.found
