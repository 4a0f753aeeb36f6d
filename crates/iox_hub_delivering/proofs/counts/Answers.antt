use Rattle.iox_hub_delivering.proofs.Counted.{each_send_is_counted, each_send_needs_as_much, ends_need_one_less}
use Rattle.iox_hub_delivering.proofs.counts.Goals as goal

pub returns-clause-calls : goal.returns-clause-calls
returns-clause-calls c = each_send_is_counted

pub returns-clause-room : goal.returns-clause-room
returns-clause-room c = each_send_needs_as_much

pub returns-clause-ends : goal.returns-clause-ends
returns-clause-ends c = ends_need_one_less
