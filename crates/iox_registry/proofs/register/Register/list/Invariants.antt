use Rattle.std.proofs.Common.{length}
use Rattle.std.specs.Fn.{CalledAt}
use Rattle.iox_registry.specs.Registers.{details_in, listed}
use Rattle.iox_registry.specs.Standing.{shown_slots}
use Rattle.iox_attributes.specs.Visits.{VisitsInOrder}
use Rattle.iox_registry.proofs.register.Register.list.Given as goal

-- the visit to come is that of the rest
abbrev pub invariant-loop-first : goal.invariant-loop-first
invariant-loop-first g l = record {
  callable : goal.F-IsAlwaysCallable g l.callback;
  visits : VisitsInOrder (CalledAt g.F.FnMut) l.callback (details_in (shown_slots l.rest)) →
      VisitsInOrder (CalledAt g.F.FnMut) l.fn.callback (listed l.fn.self);
}

abbrev pub decreases-loop-first : goal.decreases-loop-first
decreases-loop-first g l = length l.rest
