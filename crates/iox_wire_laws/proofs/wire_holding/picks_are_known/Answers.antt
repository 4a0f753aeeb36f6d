use Rattle.iox_wire_laws.proofs.WireHolding.PickedSlots.{picks_are_known}
use Rattle.iox_wire_laws.proofs.wire_holding.picks_are_known.Goals as goal

pub returns : goal.returns
returns c = picks_are_known
