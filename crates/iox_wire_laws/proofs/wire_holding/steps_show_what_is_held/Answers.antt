use Rattle.iox_wire_laws.proofs.WireHolding.HeldSteps.{steps_show_what_is_held}
use Rattle.iox_wire_laws.proofs.wire_holding.steps_show_what_is_held.Goals as goal

pub returns : goal.returns
returns c = steps_show_what_is_held
