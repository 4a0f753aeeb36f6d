use Rattle.iox_laws.proofs.ReplyLaws.Plainly.{receives_answer_plainly, sends_answer_plainly, overflowing_sends_answer_plainly}
use Rattle.iox_laws.proofs.ReplyLaws.Ready.{reachable_states_are_ready, calls_answer_plainly, taking_calls_answer_plainly}
use Rattle.iox_laws.proofs.reply_laws.plain_functions_tell_the_reply.Goals as goal

pub returns-clause-receives : goal.returns-clause-receives
returns-clause-receives c = receives_answer_plainly

pub returns-clause-sends : goal.returns-clause-sends
returns-clause-sends c = sends_answer_plainly

pub returns-clause-sends_over : goal.returns-clause-sends_over
returns-clause-sends_over c = overflowing_sends_answer_plainly

pub returns-clause-ready : goal.returns-clause-ready
returns-clause-ready c = reachable_states_are_ready

pub returns-clause-calls : goal.returns-clause-calls
returns-clause-calls c = calls_answer_plainly

pub returns-clause-taking_calls : goal.returns-clause-taking_calls
returns-clause-taking_calls c = taking_calls_answer_plainly
