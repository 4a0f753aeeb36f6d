use Rattle.iox_laws.proofs.RunPools.Laws.{keeps_less, loan_succeeds, begins_succeed}
use Rattle.iox_laws.proofs.run_pools.pools_suffice.Goals as goal

pub returns-clause-kept : goal.returns-clause-kept
returns-clause-kept c = keeps_less

pub returns-clause-succeeds : goal.returns-clause-succeeds
returns-clause-succeeds c = loan_succeeds

pub returns-clause-begins : goal.returns-clause-begins
returns-clause-begins c = begins_succeed
