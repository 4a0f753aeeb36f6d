use Rattle.iox_wire_weaves.proofs.HandleSums.{nodes_have_few_handles}
use Rattle.iox_wire_weaves.proofs.nodes_have_few_handles.Goals as goal

pub returns : goal.returns
returns c = nodes_have_few_handles
