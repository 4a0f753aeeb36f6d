use Rattle.iox_registry.proofs.NumberLemmas.{ends-removed, listed-added, listed-removed}
use Rattle.iox_registry.proofs.laws.numbers_follow_calls.Goals as goal

pub returns-clause-added : goal.returns-clause-added
returns-clause-added g c details old handle new adds = listed-added details old handle new adds

pub returns-clause-removed : goal.returns-clause-removed
returns-clause-removed g c handle old new removes = listed-removed handle old new removes

pub returns-clause-ended : goal.returns-clause-ended
returns-clause-ended g c handle old new removes role = ends-removed handle old new removes role
