use Rattle.std.proofs.Common.{◌≡◌, ◌-◌, ◌≤◌, length}
use Rattle.iox_sets.specs.IndexSets.{is_locked}
use Rattle.iox_sets.specs.OwnedIndices.{state_after_recovery}
use Rattle.iox_container.specs.Containers.{count, indices}
use Rattle.iox_container.proofs.KeptLemmas.{RefusedBelow, SameOthers}
use Rattle.iox_container.proofs.RecoveryLemmas.{LeadsTo}
use Rattle.iox_container.proofs.mpmc.container.Container.recover.Given as goal

-- what is still to be removed is what is left of all that is to be removed
abbrev pub invariant-loop-next : goal.invariant-loop-next
invariant-loop-next g l = record {
  callable : goal.F-IsAlwaysCallable g l.f;
  leads : LeadsTo (goal.F-step g) l.owner l.fn.self.id l.fn.f l.fn.self.slots l.f l.self.slots l.next;
  refused : RefusedBelow (goal.F-step g) l.owner l.self.slots l.next;
  others : SameOthers l.owner l.fn.self.slots l.self.slots;
  size : length l.self.slots ≡ length l.fn.self.slots;
  fewer : count l.self ≤ count l.fn.self;
  state : l.state ≡ state_after_recovery l.mode (indices l.fn.self) (count l.self);
  locked : l.self.locked ≡ is_locked l.state;
  id : l.self.id ≡ l.fn.self.id;
  ticket : l.self.next_ticket ≡ l.fn.self.next_ticket;
}

abbrev pub decreases-loop-next : goal.decreases-loop-next
decreases-loop-next g l = length l.self.slots - l.next
