use Rattle.iox_wire_laws.proofs.WireKeeping.SlotsFitted.{kept_are_used, slots_are_fit, pools_are_told}
use Rattle.iox_wire_laws.proofs.wire_keeping.slots_in_use_are_kept.Goals as goal

pub returns-clause-kept : goal.returns-clause-kept
returns-clause-kept c = kept_are_used

pub returns-clause-fits : goal.returns-clause-fits
returns-clause-fits c = slots_are_fit

pub returns-clause-pools : goal.returns-clause-pools
returns-clause-pools c = pools_are_told
