use Rattle.iox_wire_laws.proofs.WireHolding.HeldEnds.{ends_show_what_is_held}
use Rattle.iox_wire_laws.proofs.wire_holding.ends_show_what_is_held.Goals as goal

pub returns : goal.returns
returns c = ends_show_what_is_held
