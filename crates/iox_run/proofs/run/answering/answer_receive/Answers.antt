use Rattle.std.proofs.Common.{sym, subst}
use Rattle.std.proofs.lemmas.Result.{on_ok_weaker}
use Rattle.iox_session.specs.Shown.{session_of}
use Rattle.iox_run.specs.Standings.{AnswersLine}
use Rattle.iox_run.proofs.run.answering.answer_receive.Goals as goal

pub returns-in-Some-clause-answered : goal.returns-in-Some-clause-answered
returns-in-Some-clause-answered c =
    on_ok_weaker c.play_port.result
    (λ told.
    subst
    (λ said. AnswersLine c.args.number said (session_of c.args.session.now) (session_of c.play_port.new.session) c.args.answers.now.items c.play_port.new.answers.items)
    (sym c.in-Some.ensures) (told c.args.number))
    c.play_port.ensures.answered
