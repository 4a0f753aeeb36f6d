use Rattle.iox_laws.proofs.RunLedger.Amid.{ledger_stays_below}
use Rattle.iox_laws.proofs.run_ledger.ledger_stays_below.Goals as goal

pub returns : goal.returns
returns c = ledger_stays_below
