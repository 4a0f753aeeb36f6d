use Rattle.iox_laws.proofs.WeaveLedger.LedgerHolds.{out_once, record_is_what_is_out}
use Rattle.iox_laws.proofs.WeaveLedger.Outstanding.{outstanding_is_counted}
use Rattle.iox_laws.proofs.weave_ledger.record_is_what_is_out.Goals as goal

pub returns-clause-once : goal.returns-clause-once
returns-clause-once c = out_once

pub returns-clause-record : goal.returns-clause-record
returns-clause-record c = record_is_what_is_out

pub returns-clause-counted : goal.returns-clause-counted
returns-clause-counted c = outstanding_is_counted
