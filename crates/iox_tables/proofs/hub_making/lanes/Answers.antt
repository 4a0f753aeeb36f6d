use Rattle.iox_tables.proofs.HubMaking.Summing.{gone_lanes_count, new_lanes_count, new_pipes_count}
use Rattle.iox_tables.proofs.hub_making.lanes.Goals as goal

pub returns-clause-gone : goal.returns-clause-gone
returns-clause-gone c = gone_lanes_count

pub returns-clause-new : goal.returns-clause-new
returns-clause-new c = new_lanes_count

pub returns-clause-pipes : goal.returns-clause-pipes
returns-clause-pipes c = new_pipes_count
