use Rattle.iox_control_making.proofs.Counting.{lanes_are_counted, no_more_may_come}
use Rattle.iox_control_making.proofs.bounds.Goals as goal

pub returns-clause-lanes : goal.returns-clause-lanes
returns-clause-lanes c = lanes_are_counted

pub returns-clause-handles : goal.returns-clause-handles
returns-clause-handles c = no_more_may_come
