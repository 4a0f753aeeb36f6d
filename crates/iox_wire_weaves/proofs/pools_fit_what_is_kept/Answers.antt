use Rattle.iox_wire_weaves.proofs.KeptSlots.{pools_fit_what_is_kept}
use Rattle.iox_wire_weaves.proofs.pools_fit_what_is_kept.Goals as goal

pub returns : goal.returns
returns c = pools_fit_what_is_kept
