use Rattle.iox_tables.proofs.HubKeeping.Unholding.{values_keep_order}
use Rattle.iox_tables.proofs.hub_keeping.values.Goals as goal

pub returns : goal.returns
returns c = values_keep_order
