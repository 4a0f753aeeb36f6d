use Rattle.std.proofs.Common.{subst, sym}
use Rattle.iox_wire_seats.specs.Counts.{AreOfDifferentWays}
use Rattle.iox_wire_openings.proofs.OpenedLemmas.{counts_differ}
use Rattle.iox_wire_openings.proofs.nodes.open_counts.Goals as goal

pub new-requires : goal.new-requires
new-requires c = subst AreOfDifferentWays (sym c.in_ok-counts.ensures) (counts_differ c.args.plan.now c.requires c.args.node)
