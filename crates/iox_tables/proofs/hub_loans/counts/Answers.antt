use Rattle.iox_tables.proofs.HubLoans.Counting.{each_count_is_the_same}
use Rattle.iox_tables.proofs.hub_loans.counts.Goals as goal

pub returns : goal.returns
returns c = each_count_is_the_same
