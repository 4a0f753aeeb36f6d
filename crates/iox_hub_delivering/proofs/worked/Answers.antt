use Rattle.iox_hub_delivering.proofs.WorkedHolds.{the_second_pushes_out_the_first}
use Rattle.iox_hub_delivering.proofs.worked.Goals as goal

pub returns : goal.returns
returns c = the_second_pushes_out_the_first
