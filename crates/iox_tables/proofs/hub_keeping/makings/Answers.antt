use Rattle.iox_tables.proofs.HubKeeping.NewHandles.{makings_keep_order}
use Rattle.iox_tables.proofs.hub_keeping.makings.Goals as goal

pub returns : goal.returns
returns c = makings_keep_order
