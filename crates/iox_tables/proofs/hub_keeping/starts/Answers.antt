use Rattle.iox_tables.proofs.HubKeeping.Starting.{starts_are_in_order}
use Rattle.iox_tables.proofs.hub_keeping.starts.Goals as goal

pub returns : goal.returns
returns c = starts_are_in_order
