use Rattle.iox_openers.proofs.AnswerLemmas.{answered, one-answer}
use Rattle.iox_openers.proofs.laws.openers_are_answered.Goals as goal

pub returns-clause-one : goal.returns-clause-one
returns-clause-one c = one-answer

pub returns-clause-some : goal.returns-clause-some
returns-clause-some c = answered
