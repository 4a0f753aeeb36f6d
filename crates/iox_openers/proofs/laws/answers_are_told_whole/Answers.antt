use Rattle.iox_openers.proofs.TellingLemmas.{same-refusal, told-apart}
use Rattle.iox_openers.proofs.laws.answers_are_told_whole.Goals as goal

pub returns-clause-named : goal.returns-clause-named
returns-clause-named c = same-refusal

pub returns-clause-apart : goal.returns-clause-apart
returns-clause-apart c = told-apart
