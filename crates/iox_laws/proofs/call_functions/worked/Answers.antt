use Rattle.iox_laws.proofs.CallFunctions.WorkedPlainHolds.{visits_the_gone_first, sends_beside_an_overfull_pair}
use Rattle.iox_laws.proofs.call_functions.worked.Goals as goal

pub returns-clause-order : goal.returns-clause-order
returns-clause-order c = visits_the_gone_first

pub returns-clause-overfull : goal.returns-clause-overfull
returns-clause-overfull c = sends_beside_an_overfull_pair
