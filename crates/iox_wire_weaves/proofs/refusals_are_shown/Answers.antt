use Rattle.iox_wire_weaves.proofs.BeginsShown.{refusals_are_shown}
use Rattle.iox_wire_weaves.proofs.refusals_are_shown.Goals as goal

pub returns : goal.returns
returns c = refusals_are_shown
