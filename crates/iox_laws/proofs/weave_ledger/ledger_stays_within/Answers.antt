use Rattle.iox_laws.proofs.WeaveLedger.LedgerHolds.{ledger_stays_within, returns_fit}
use Rattle.iox_laws.proofs.WeaveLedger.CallsEmptied.{calls_emptied_last}
use Rattle.iox_laws.proofs.WeaveLedger.Stays.{senders_empty, emptied_stays_within}
use Rattle.iox_laws.proofs.weave_ledger.ledger_stays_within.Goals as goal

pub returns-clause-out : goal.returns-clause-out
returns-clause-out c = ledger_stays_within

pub returns-clause-by_sender : goal.returns-clause-by_sender
returns-clause-by_sender c = senders_empty

pub returns-clause-by_call : goal.returns-clause-by_call
returns-clause-by_call c = calls_emptied_last

pub returns-clause-emptied : goal.returns-clause-emptied
returns-clause-emptied c = emptied_stays_within

pub returns-clause-returns : goal.returns-clause-returns
returns-clause-returns c = returns_fit
