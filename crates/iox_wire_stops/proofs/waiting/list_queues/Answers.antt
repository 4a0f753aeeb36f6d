use Rattle.std.proofs.Common.{arith}
use Rattle.iox_wire_stops.proofs.waiting.list_queues.Goals as goal

pub push_reserved-requires : goal.push_reserved-requires
push_reserved-requires c =
    let few = c.loop-index.invariant.few in let same = c.loop-index.invariant.list in let asked = c.requires in
    let low = c.loop-index-test.true in let size = c.loop-index.invariant.size in
    omega (arith, few, same, asked, low, size)
