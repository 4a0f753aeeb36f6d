use Rattle.iox_wire_calls.proofs.EndsKnown.{lanes_fit_at_rest}
use Rattle.iox_wire_calls.proofs.LanesTell.{sends_open_elsewhere}
use Rattle.iox_wire_calls.proofs.lanes_are_apart.Goals as goal

pub returns-clause-opens : goal.returns-clause-opens
returns-clause-opens c = sends_open_elsewhere

pub returns-clause-rests : goal.returns-clause-rests
returns-clause-rests c = lanes_fit_at_rest
