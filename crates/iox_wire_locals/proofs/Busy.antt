-- By cases of the place.
use Rattle.std.specs.Prelude.{refl}
use Rattle.std.proofs.Common.{true≢false, sym}
use Rattle.iox_wire_locals.specs.declared.local.Local.TheVariants.{Idle}
use Rattle.iox_wire_locals.specs.Laws.{BusyNodesHaveSomethingToDo}

pub busy_nodes_have_something_to_do : BusyNodesHaveSomethingToDo
busy_nodes_have_something_to_do p f held node Idle busy = absurd (true≢false (sym busy))
busy_nodes_have_something_to_do p f held node local busy = (_, refl)
