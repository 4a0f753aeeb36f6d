use Rattle.std.proofs.Common.{arith}
use Rattle.iox_handles.proofs.MemoryLemmas.{memory-reserve, shown-reserve}
use Rattle.iox_handles.proofs.table.Table.reserve.Goals as goal

pub invariant_of-self-2 : goal.invariant_of-self-2
invariant_of-self-2 c =
    let more = c.in-Some.ensures in let few = c.self.invariant.few in
    let places = c.in_ok-reserve.ensures.ok in let free = c.in_ok-reserve-2.ensures.ok in let listed = c.in_ok-reserve-3.ensures.reserved in
    let some = c.len.ensures in let same = c.len-2.ensures in let many = c.capacity.ensures in let all = c.capacity-2.ensures in
    let kept = c.reserve.ensures.len in let left = c.reserve-2.ensures.len in
    let first = c.self.inside.places.ok.0 in let second = c.self.inside.free.ok.0 in
    memory-reserve c.self.inside.places.items _ c.self.inside.free.items _ c.self.inside.most c.self.inside.next _ _ _ _ c.self.invariant
    c.reserve.ensures.items c.reserve-2.ensures.items c.args.more _ (omega (arith, more))
    _ _ _ (omega (arith, places, some, kept, first, second, few, more)) (omega (arith, free, same, many, left)) (omega (arith, listed, all)) c.reserve-3.ensures.same

pub returns-clause-reserved : goal.returns-clause-reserved
returns-clause-reserved c =
    let more = c.in-Some.ensures in
    rw (← c.self.view_is)
    (shown-reserve c.self.inside.places.items _ c.self.inside.free.items _ c.self.inside.most c.self.inside.next _ _ _ _ c.self.invariant
    c.reserve.ensures.items c.reserve-2.ensures.items c.args.more _ (omega (arith, more)))
