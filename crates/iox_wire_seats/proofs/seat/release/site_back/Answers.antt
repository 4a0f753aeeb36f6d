use Rattle.std.proofs.Common.{subst, sym}
use Rattle.iox_wire_seats.specs.Aims.{IsInMemory}
use Rattle.iox_wire_seats.proofs.BeginLemmas.{queue_in_memory}
use Rattle.iox_wire_seats.proofs.seat.release.site_back.Goals as goal

pub returns-clause-memory : goal.returns-clause-memory
returns-clause-memory c =
    subst IsInMemory (sym c.returning_queue.ensures)
    (queue_in_memory c.args.map.now c.args.way c.total-total.result c.plan-plan.ensures.plan c.requires c.total-total.ensures c.total-total.type_inv).1
