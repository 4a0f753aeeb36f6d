use Rattle.std.proofs.Common.{Ok}
use Rattle.std.proofs.lemmas.Result.{on_ok_weaker}
use Rattle.iox_run.proofs.run.answering.play.Goals as goal

pub returns-clause-answered : goal.returns-clause-answered
returns-clause-answered c =
    on_ok_weaker c.push_reply.result (λ written number. (Ok c.in_ok-reply.reply, c.in_ok-reply.ensures.played, written)) c.push_reply.ensures.written
