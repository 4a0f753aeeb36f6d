use Rattle.iox_wire_laws.proofs.WireKeeping.RecordsKept.{deliveries_are_recorded, get_backs_are_recorded, others_leave_records}
use Rattle.iox_wire_laws.proofs.wire_keeping.records_are_kept.Goals as goal

pub returns-clause-delivered : goal.returns-clause-delivered
returns-clause-delivered c = deliveries_are_recorded

pub returns-clause-got_back : goal.returns-clause-got_back
returns-clause-got_back c = get_backs_are_recorded

pub returns-clause-others : goal.returns-clause-others
returns-clause-others c = others_leave_records
