use Rattle.std.proofs.Common.{length}
use Rattle.std.specs.Fn.{CalledAt}
use Rattle.iox_attributes.specs.Sets.{values_of}
use Rattle.iox_attributes.specs.Visits.{VisitsInOrder}
use Rattle.iox_attributes.proofs.attribute_set.AttributeSet.iter_key_values.Given as goal

-- the visit to come is that of the rest
abbrev pub invariant-loop-first : goal.invariant-loop-first
invariant-loop-first g l = record {
  callable : goal.F-IsAlwaysCallable g l.callback;
  visits : VisitsInOrder (CalledAt g.F.FnMut) l.callback (values_of l.key l.rest) →
      VisitsInOrder (CalledAt g.F.FnMut) l.fn.callback (values_of l.fn.key l.fn.self);
}

abbrev pub decreases-loop-first : goal.decreases-loop-first
decreases-loop-first g l = length l.rest
