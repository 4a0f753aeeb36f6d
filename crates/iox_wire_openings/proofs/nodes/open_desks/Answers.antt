use Rattle.std.proofs.Common.{subst, sym}
use Rattle.iox_wire_seats.specs.Desks.{AreOfDifferentPorts}
use Rattle.iox_wire_openings.proofs.OpenedLemmas.{desks_differ}
use Rattle.iox_wire_openings.proofs.nodes.open_desks.Goals as goal

pub new-requires : goal.new-requires
new-requires c = subst AreOfDifferentPorts (sym c.in_ok-desks.ensures) (desks_differ c.args.plan.now c.requires c.args.node)
