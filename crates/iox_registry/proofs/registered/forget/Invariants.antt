use Rattle.std.proofs.Common.{◌≡◌, ◌<◌, ◌≤◌, ℕ, None, get_or, length}
use Rattle.iox_registry.specs.Standing.{kept_without_node}
use Rattle.iox_registry.proofs.registered.forget.Given as goal

-- the slots before this one are as they are to be, and those from it on as they were
abbrev pub invariant-loop-slot : goal.invariant-loop-slot
invariant-loop-slot g l = record {
  below : (k : ℕ) → k < l.slot-index → get_or l.slots k None ≡ kept_without_node g.D.HasNode.node l.id (get_or l.fn.slots k None);
  above : (k : ℕ) → l.slot-index ≤ k → get_or l.slots k None ≡ get_or l.fn.slots k None;
}
