use Rattle.std.proofs.Common.{length}
use Rattle.std.specs.List.{All}
use Rattle.iox_word_places.specs.Plans.{HasSlots}
use Rattle.iox_wire_layouts.proofs.checks.have_slots.Given as goal

-- those of the rest have slots exactly if all have
abbrev pub invariant-loop-first : goal.invariant-loop-first
invariant-loop-first l = record {
  all : All (HasSlots l.plan) l.plan.ports.items → All (HasSlots l.plan) l.rest;
  rest : All (HasSlots l.plan) l.rest → All (HasSlots l.plan) l.plan.ports.items;
}

abbrev pub decreases-loop-first : goal.decreases-loop-first
decreases-loop-first l = length l.rest
