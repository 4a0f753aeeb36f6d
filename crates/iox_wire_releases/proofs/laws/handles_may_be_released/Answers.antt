use Rattle.iox_wire_releases.proofs.ReleaseLemmas.{handles_may_be_released}
use Rattle.iox_wire_releases.proofs.laws.handles_may_be_released.Goals as goal

pub returns : goal.returns
returns c = handles_may_be_released
