use Rattle.std.proofs.Common.{IsSome, length-set, rules}
use Rattle.iox_container.specs.Containers.{entry_of}
use Rattle.iox_container.proofs.InsertLemmas.{Removes-free}
use Rattle.iox_container.proofs.mpmc.container.Container.remove.Goals as goal

pub returns-clause-gone : goal.returns-clause-gone
returns-clause-gone g c =
    let has : IsSome (entry_of c.args.self.now c.args.handle) = search rules in
    rw (c.free_slot.ensures.freed.left) (Removes-free _ c.args.handle _ has)

pub returns-clause-capacity : goal.returns-clause-capacity
returns-clause-capacity g c = rw (c.free_slot.ensures.freed.left) (length-set _ _ _)
