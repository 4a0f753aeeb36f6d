use Rattle.iox_tables.proofs.HubMaking.Commanding.{each_making_is_shown}
use Rattle.iox_tables.proofs.hub_making.makings.Goals as goal

pub returns : goal.returns
returns c = each_making_is_shown
