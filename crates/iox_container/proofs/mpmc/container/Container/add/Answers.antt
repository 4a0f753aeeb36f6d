use Rattle.std.proofs.Common.{◌<◌, None, Some, false, length, set, refl, arith, length-set, get_or-set_same}
use Rattle.iox_container.specs.Containers.{entry_for, handle_of}
use Rattle.iox_container.specs.Indexing.{contents_in}
use Rattle.iox_container.proofs.HandleLemmas.{KeepsOrLoses-add}
use Rattle.iox_container.proofs.IndexingLemmas.{IsIndexed-set, free_slot, same_size}
use Rattle.iox_container.proofs.InsertLemmas.{Inserts-add, entry_is, some_is}
use Rattle.iox_container.proofs.mpmc.container.Container.add.Goals as goal

pub invariant_of-self-2 : goal.invariant_of-self-2
invariant_of-self-2 g c =
    rw (c.in_ok-index.ensures.acquired.left) (IsIndexed-set _ _ c.self.invariant c.in_ok-index.field-0 _)

pub returns-clause-handles : goal.returns-clause-handles
returns-clause-handles g c =
    rw (← c.self.view_is, c.in_ok-index.ensures.acquired.left) (
    KeepsOrLoses-add _ c.args.value c.args.owner c.in_ok-index.field-0)

pub returns-clause-inserted : goal.returns-clause-inserted
returns-clause-inserted g c =
    let index = c.in_ok-index.field-0 in
    let size = same_size _ _ c.self.invariant index in
    let below = c.in_ok-index.ensures.within in
    let kept = c.in_ok-index.ensures.capacity in
    let within : c.in_ok-index.field-0 < length c.self.inside.slots.items = omega arith in
    let free = free_slot _ _ c.self.invariant index c.in_ok-index.ensures.was_free in
    rw (c.handle.ensures, ← c.self.view_is, c.in_ok-index.ensures.acquired.left) (
    Inserts-add (contents_in c.self.inside.id c.self.inside.slots.items c.self.inside.indices.locked c.self.inside.next_ticket) c.args.value c.args.owner index within free)

pub returns-clause-has : goal.returns-clause-has
returns-clause-has g c =
    let index = c.in_ok-index.field-0 in
    let size = same_size _ _ c.self.invariant index in
    let below = c.in_ok-index.ensures.within in
    let kept = c.in_ok-index.ensures.capacity in
    let within : c.in_ok-index.field-0 < length c.self.inside.slots.items = omega arith in
    let entry = entry_for c.args.value c.args.owner c.self.inside.next_ticket in
    let slots = set c.self.inside.slots.items index (Some entry) in
    let there = get_or-set_same c.self.inside.slots.items index (Some entry) None within in
    rw (c.handle.ensures) (
    some_is _ entry (entry_is (contents_in c.self.inside.id slots false 0) index entry there (handle_of c.self.inside.id index entry) refl))

pub returns-clause-within : goal.returns-clause-within
returns-clause-within g c =
    let index = c.in_ok-index.field-0 in
    let size = same_size _ _ c.self.invariant index in
    let below = c.in_ok-index.ensures.within in
    let kept = c.in_ok-index.ensures.capacity in
    let within : c.in_ok-index.field-0 < length c.self.inside.slots.items = omega arith in
    rw (c.handle.ensures) (rw (length-set c.self.inside.slots.items index _) within)
