use Rattle.iox_laws.proofs.ReplyLaws.Laws.{calls_have_one_reply, makings_have_one_reply, joins_have_one_reply}
use Rattle.iox_laws.proofs.ReplyLaws.OnWires.{wire_calls_have_one_reply}
use Rattle.iox_laws.proofs.reply_laws.replies_are_determined.Goals as goal

pub returns-clause-calls : goal.returns-clause-calls
returns-clause-calls c = calls_have_one_reply

pub returns-clause-makings : goal.returns-clause-makings
returns-clause-makings c = makings_have_one_reply

pub returns-clause-joins : goal.returns-clause-joins
returns-clause-joins c = joins_have_one_reply

pub returns-clause-wires : goal.returns-clause-wires
returns-clause-wires c = wire_calls_have_one_reply
