use Rattle.iox_laws.proofs.WeavePools.Laws.{never_out_of_memory}
use Rattle.iox_laws.proofs.weave_pools.no_call_runs_out_of_memory.Goals as goal

pub returns : goal.returns
returns c = never_out_of_memory
