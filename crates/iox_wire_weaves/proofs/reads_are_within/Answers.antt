use Rattle.iox_wire_weaves.proofs.ReadsWithin.{reads_are_within}
use Rattle.iox_wire_weaves.proofs.reads_are_within.Goals as goal

pub returns : goal.returns
returns c = reads_are_within
