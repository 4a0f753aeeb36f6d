use Rattle.iox_laws.proofs.RunLedger.Laws.{nothing_rests_in_hand, out_rests_once, record_rests_as_out, outstanding_rests_counted}
use Rattle.iox_laws.proofs.run_ledger.record_is_what_is_out.Goals as goal

pub returns-clause-in_hand : goal.returns-clause-in_hand
returns-clause-in_hand c = nothing_rests_in_hand

pub returns-clause-once : goal.returns-clause-once
returns-clause-once c = out_rests_once

pub returns-clause-record : goal.returns-clause-record
returns-clause-record c = record_rests_as_out

pub returns-clause-counted : goal.returns-clause-counted
returns-clause-counted c = outstanding_rests_counted
