use Rattle.std.proofs.Common.{◌≡◌, Err, refl, sym, subst}
use Rattle.std.proofs.lemmas.Result.{on_ok_weaker}
use Rattle.iox_script.specs.Grammar.{meaning}
use Rattle.iox_session.proofs.Said.{what_a_line_says_is_said}
use Rattle.iox_session.specs.Shown.{session_of}
use Rattle.iox_run.specs.Answers.{IsLineAnswered}
use Rattle.iox_run.specs.Standings.{AnswersLine}
use Rattle.iox_run.proofs.run.answering.answer_other.Goals as goal

pub play-requires : goal.play-requires
play-requires c = record { said = what_a_line_says_is_said c.args.line.now c.in-Ok.command c.in-Ok.ensures }

pub returns-in-Ok-clause-answered : goal.returns-in-Ok-clause-answered
returns-in-Ok-clause-answered c =
    on_ok_weaker c.play.result
    (λ told.
    subst
    (λ said. AnswersLine c.args.number said (session_of c.args.session.now) (session_of c.play.new.session) c.args.answers.now.items c.play.new.answers.items)
    (sym c.in-Ok.ensures) (told c.args.number))
    c.play.ensures.answered

pub returns-in-Err-Bad-clause-answered : goal.returns-in-Err-Bad-clause-answered
returns-in-Err-Bad-clause-answered c =
    let cause = c.in-Err-Bad.cause in
    let m = session_of c.args.session.now in
    let says : meaning c.args.line.now ≡ Err cause = rw c.in-Err-Bad.field-0-is at c.in-Err-Bad.ensures in
    let answered = subst (λ said. IsLineAnswered m said (Err cause) m) (sym says) (refl, refl) in
    let appended = rw c.in-Err-Bad.cause-is at c.push_bad_line.ensures.written in
    on_ok_weaker c.push_bad_line.result (λ written. (Err cause, answered, written)) appended
