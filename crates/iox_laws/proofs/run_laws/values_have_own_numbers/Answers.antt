use Rattle.iox_laws.proofs.RunLaws.Values.{values_have_own_numbers}
use Rattle.iox_laws.proofs.run_laws.values_have_own_numbers.Goals as goal

pub returns : goal.returns
returns c = values_have_own_numbers
