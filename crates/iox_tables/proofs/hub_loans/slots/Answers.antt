use Rattle.iox_tables.proofs.HubLoans.Placed.{unused_slots_may_change}
use Rattle.iox_tables.proofs.hub_loans.slots.Goals as goal

pub returns : goal.returns
returns c = unused_slots_may_change
