use Rattle.iox_laws.proofs.WeaveLedger.Cleared.{nothing_to_the_dead}
use Rattle.iox_laws.proofs.weave_ledger.nothing_is_outstanding_to_the_dead.Goals as goal

pub returns : goal.returns
returns c = nothing_to_the_dead
