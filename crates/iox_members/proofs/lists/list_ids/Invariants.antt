use Rattle.std.proofs.Common.{length}
use Rattle.std.specs.Prelude.{map}
use Rattle.std.specs.Fn.{CalledAt}
use Rattle.iox_attributes.specs.Visits.{VisitsInOrder}
use Rattle.iox_members.specs.declared.member.Member.{Member}
use Rattle.iox_members.proofs.lists.list_ids.Given as goal

-- the visit to come is that of the rest
abbrev pub invariant-loop-first : goal.invariant-loop-first
invariant-loop-first g l = record {
  callable : goal.F-IsAlwaysCallable g l.callback;
  visits : VisitsInOrder (CalledAt g.F.FnMut) l.callback (map (λ (m : Member). m.id) l.rest) →
      VisitsInOrder (CalledAt g.F.FnMut) l.fn.callback (map (λ (m : Member). m.id) l.fn.nodes);
}

abbrev pub decreases-loop-first : goal.decreases-loop-first
decreases-loop-first g l = length l.rest
