use Rattle.std.proofs.Common.{arith}
use Rattle.iox_backpressure.proofs.Answering.{answer_is}
use Rattle.iox_backpressure.proofs.laws.words_tell_answers.Goals as goal

pub returns : goal.returns
returns g c = answer_is (g.H.Backpressure.action c.args.handler.now) c.args.sender c.args.receiver (omega arith) (omega arith)
