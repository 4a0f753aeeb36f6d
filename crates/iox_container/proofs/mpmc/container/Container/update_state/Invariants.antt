use Rattle.std.proofs.Common.{◌≡◌, ◌<◌, ◌≤◌, ℕ, None, true, false, length, get_or}
use Rattle.iox_container.proofs.mpmc.container.Container.update_state.Given as goal

-- the slots before the index are the container's, the others as they were
abbrev pub invariant-loop-index : goal.invariant-loop-index
invariant-loop-index g l = record {
  size : length l.state-inside.slots.items ≡ length l.self-inside.slots.items;
  id : l.state-inside.container_id ≡ l.fn.state.id;
  below : (k : ℕ) → k < l.index → get_or l.state-inside.slots.items k None ≡ get_or l.self-inside.slots.items k None;
  above : (k : ℕ) → l.index ≤ k → get_or l.state-inside.slots.items k None ≡ get_or l.fn.state.slots k None;
  same : l.changed ≡ false → l.state-inside.slots.items ≡ l.fn.state.slots;
  other : l.changed ≡ true → l.fn.state.slots ≡ l.self-inside.slots.items → ⊥;
}
