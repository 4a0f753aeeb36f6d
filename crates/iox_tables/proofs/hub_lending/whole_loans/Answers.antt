use Rattle.iox_tables.proofs.HubLending.WholeLoans.{free_slots_are_lent, full_pools_refuse}
use Rattle.iox_tables.proofs.hub_lending.whole_loans.Goals as goal

pub returns-clause-refused : goal.returns-clause-refused
returns-clause-refused c = full_pools_refuse

pub returns-clause-made : goal.returns-clause-made
returns-clause-made c = free_slots_are_lent
