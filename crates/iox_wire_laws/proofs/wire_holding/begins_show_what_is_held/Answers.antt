use Rattle.iox_wire_laws.proofs.WireHolding.HeldBegins.{begins_show_what_is_held}
use Rattle.iox_wire_laws.proofs.wire_holding.begins_show_what_is_held.Goals as goal

pub returns : goal.returns
returns c = begins_show_what_is_held
