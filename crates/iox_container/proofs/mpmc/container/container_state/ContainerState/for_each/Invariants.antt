use Rattle.iox_container.specs.States.{IsCalledUntilStop, shown}
use Rattle.iox_container.proofs.EntryLemmas.{entries_after}
use Rattle.iox_container.proofs.mpmc.container.container_state.ContainerState.for_each.Given as goal

-- what is still to be called is what is to be called from the start
abbrev pub invariant-loop-index : goal.invariant-loop-index
invariant-loop-index g l = record {
  callable : goal.F-IsAlwaysCallable g l.f;
  calls : IsCalledUntilStop (goal.F-step g) l.f (entries_after l.self-inside.container_id l.self-inside.slots.items l.index)
      → IsCalledUntilStop (goal.F-step g) l.fn.f (shown l.fn.self);
}
