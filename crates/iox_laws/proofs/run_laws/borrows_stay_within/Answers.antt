use Rattle.iox_laws.proofs.RunLaws.Borrowing.{borrows_stay_within}
use Rattle.iox_laws.proofs.run_laws.borrows_stay_within.Goals as goal

pub returns : goal.returns
returns c = borrows_stay_within
