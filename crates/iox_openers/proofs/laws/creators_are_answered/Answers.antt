use Rattle.iox_openers.proofs.AnswerLemmas.{types-answered}
use Rattle.iox_openers.proofs.laws.creators_are_answered.Goals as goal

pub returns-clause-some : goal.returns-clause-some
returns-clause-some c = types-answered
