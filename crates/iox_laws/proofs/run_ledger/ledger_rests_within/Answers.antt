use Rattle.iox_laws.proofs.RunLedger.Laws.{ledger_rests_within}
use Rattle.iox_laws.proofs.run_ledger.ledger_rests_within.Goals as goal

pub returns : goal.returns
returns c = ledger_rests_within
