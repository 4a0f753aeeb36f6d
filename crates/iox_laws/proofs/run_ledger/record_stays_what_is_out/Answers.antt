use Rattle.iox_laws.proofs.RunLedger.Amid.{out_stays_once, record_stays_as_out, outstanding_stays_counted}
use Rattle.iox_laws.proofs.run_ledger.record_stays_what_is_out.Goals as goal

pub returns-clause-once : goal.returns-clause-once
returns-clause-once c = out_stays_once

pub returns-clause-record : goal.returns-clause-record
returns-clause-record c = record_stays_as_out

pub returns-clause-counted : goal.returns-clause-counted
returns-clause-counted c = outstanding_stays_counted
