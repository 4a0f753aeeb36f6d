use Rattle.std.proofs.Common.{◌≡◌, ◌<◌, ℕ, length}
use Rattle.iox_sets.specs.Calls.{IsCalledWithEach}
use Rattle.iox_sets.specs.CountingBitSets.{bit_states, count_of}
use Rattle.iox_sets.proofs.mpmc.counting_bit_set.CountingBitSet.reset_all.Given as goal

-- the counts before `from` are 0, and the calls to come are those that are left
abbrev pub invariant-loop-state : goal.invariant-loop-state
invariant-loop-state g l = record {
  callable : goal.F-IsAlwaysCallable g l.callback;
  zeros : (id : ℕ) → id < l.from → count_of l.self id ≡ 0;
  size : length l.self ≡ length l.fn.self;
  calls : IsCalledWithEach (goal.F-step g) l.callback (bit_states l.self) → IsCalledWithEach (goal.F-step g) l.fn.callback (bit_states l.fn.self);
}

abbrev pub decreases-loop-state : goal.decreases-loop-state
decreases-loop-state g l = length (bit_states l.self)
