use Rattle.iox_tables.proofs.HubLending.Kept.{held_slots_are_kept}
use Rattle.iox_tables.proofs.hub_lending.keeping.Goals as goal

pub returns : goal.returns
returns c = held_slots_are_kept
