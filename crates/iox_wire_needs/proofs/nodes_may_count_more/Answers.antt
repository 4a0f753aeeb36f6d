use Rattle.iox_wire_needs.proofs.Counts.{nodes_may_count_more}
use Rattle.iox_wire_needs.proofs.nodes_may_count_more.Goals as goal

pub returns : goal.returns
returns c = nodes_may_count_more
