use Rattle.std.proofs.Common.{◌≡◌, None, replicate, ap, rules}
use Rattle.iox_container.proofs.IndexingLemmas.{IsIndexed-new, capacity_within}
use Rattle.iox_container.proofs.mpmc.container.Container.new.Goals as goal

pub invariant_of-result : goal.invariant_of-result
invariant_of-result g c =
    let items = c.in_ok-slots.ensures.items_if_clones_equal (λ y h. search rules) in
    let owners : c.in_ok-indices.indices.owners ≡ replicate c.args.capacity None = ap (λ set. set.owners) c.in_ok-indices.ensures.made in
    rw (items, owners) (IsIndexed-new c.args.capacity (capacity_within c.args.capacity c.in_ok-indices.ensures.allowed))
