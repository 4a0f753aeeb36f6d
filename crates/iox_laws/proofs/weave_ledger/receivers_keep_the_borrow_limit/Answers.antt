use Rattle.iox_laws.proofs.WeaveLedger.Borrows.{borrow_limit_holds}
use Rattle.iox_laws.proofs.weave_ledger.receivers_keep_the_borrow_limit.Goals as goal

pub returns : goal.returns
returns c = borrow_limit_holds
