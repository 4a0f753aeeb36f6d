use Rattle.iox_tables.proofs.HubLending.Lent.{loans_keep_order}
use Rattle.iox_tables.proofs.hub_lending.lending.Goals as goal

pub returns : goal.returns
returns c = loans_keep_order
