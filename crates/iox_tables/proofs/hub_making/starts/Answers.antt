use Rattle.iox_tables.proofs.HubMaking.Starting.{each_start_is_shown}
use Rattle.iox_tables.proofs.hub_making.starts.Goals as goal

pub returns : goal.returns
returns c = each_start_is_shown
