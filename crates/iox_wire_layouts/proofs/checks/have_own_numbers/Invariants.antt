use Rattle.std.proofs.Common.{length, map}
use Rattle.iox_model.specs.Maps.{AreDistinct}
use Rattle.iox_word_places.specs.declared.plan.PlanPort.{PlanPort}
use Rattle.iox_wire_layouts.proofs.checks.have_own_numbers.Given as goal

-- the numbers of the rest are apart exactly if all are
abbrev pub invariant-loop-first : goal.invariant-loop-first
invariant-loop-first l = record {
  all : AreDistinct (map (λ (p : PlanPort). p.number) l.ports) → AreDistinct (map (λ (p : PlanPort). p.number) l.rest);
  rest : AreDistinct (map (λ (p : PlanPort). p.number) l.rest) → AreDistinct (map (λ (p : PlanPort). p.number) l.ports);
}

abbrev pub decreases-loop-first : goal.decreases-loop-first
decreases-loop-first l = length l.rest
