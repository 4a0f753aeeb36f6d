use Rattle.iox_handles.proofs.MemoryLemmas.{memory-new, shown-new}
use Rattle.iox_handles.proofs.TallyLemmas.{none_tallied}
use Rattle.iox_handles.proofs.table.Table.new.Goals as goal

pub invariant_of-result : goal.invariant_of-result
invariant_of-result c =
    memory-new _ _ c.args.room _ _ c.in_ok-listed.listed _ c.in_ok-places.ensures.items c.in_ok-free.ensures.items
    c.in_ok-places.ensures.capacity c.in_ok-free.ensures.capacity c.in_ok-listed.ensures
    (none_tallied c.new-2.result c.new-2.ensures.size c.new-2.ensures.none)

pub returns : goal.returns
returns c = shown-new _ _ c.args.room c.in_ok-places.ensures.items c.in_ok-free.ensures.items
