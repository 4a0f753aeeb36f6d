use Rattle.iox_laws.proofs.RunLaws.Bounded.{borrows_rest_within}
use Rattle.iox_laws.proofs.run_laws.borrows_rest_within.Goals as goal

pub returns : goal.returns
returns c = borrows_rest_within
