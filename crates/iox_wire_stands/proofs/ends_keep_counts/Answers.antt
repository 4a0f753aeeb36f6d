use Rattle.iox_wire_stands.proofs.EndCounts.{ends_keep_counts}
use Rattle.iox_wire_stands.proofs.ends_keep_counts.Goals as goal

pub returns : goal.returns
returns c = ends_keep_counts
