use Rattle.iox_wire_needs.proofs.Handles.{handles_may_be_given_up}
use Rattle.iox_wire_needs.proofs.handles_may_be_given_up.Goals as goal

pub returns : goal.returns
returns c = handles_may_be_given_up
