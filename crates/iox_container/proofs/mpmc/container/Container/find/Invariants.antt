use Rattle.std.proofs.Common.{Option}
use Rattle.iox_container.specs.declared.mpmc.container.container_handle.ContainerHandle.{ContainerHandle}
use Rattle.iox_container.specs.Containers.{entries}
use Rattle.iox_container.specs.Leaving.{Finds}
use Rattle.iox_container.proofs.EntryLemmas.{entries_after}
use Rattle.iox_container.proofs.mpmc.container.Container.find.Given as goal

-- what is still to be found is what is to be found from the start
abbrev pub invariant-loop-index : goal.invariant-loop-index
invariant-loop-index g l = record {
  callable : goal.F-IsAlwaysCallable g l.f;
  finds : (found : Option ContainerHandle)
      → Finds (goal.F-step g) l.f (entries_after l.self-inside.id l.self-inside.slots.items l.index) found
      → Finds (goal.F-step g) l.fn.f (entries l.fn.self) found;
}
