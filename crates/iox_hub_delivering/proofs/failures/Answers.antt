use Rattle.iox_hub_delivering.proofs.Sent.{failed_sends_keep_order, refused_sends_keep_order}
use Rattle.iox_hub_delivering.proofs.failures.Goals as goal

pub returns-clause-failed : goal.returns-clause-failed
returns-clause-failed c = failed_sends_keep_order

pub returns-clause-refused : goal.returns-clause-refused
returns-clause-refused c = refused_sends_keep_order
