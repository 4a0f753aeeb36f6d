use Rattle.std.proofs.Common.{◌≡◌, ◌<◌, ◌≤◌, ℕ, drop, get_or, length}
use Rattle.iox_sets.specs.BitWords.{numbers_from}
use Rattle.iox_sets.specs.Calls.{IsCalledWithEach}
use Rattle.iox_sets.proofs.words.take_bits.Given as goal

-- the words that were passed are 0, and the calls to come are those of the words behind them
abbrev pub invariant-loop-place : goal.invariant-loop-place
invariant-loop-place g l = record {
  callable : goal.F-IsAlwaysCallable g l.callback;
  size : length l.words ≡ length l.fn.words;
  passed : (at : ℕ) → at < l.place → get_or l.words at 0 ≡ 0;
  left : (at : ℕ) → l.place ≤ at → get_or l.words at 0 ≡ get_or l.fn.words at 0;
  calls : IsCalledWithEach (goal.F-step g) l.callback (numbers_from l.place (drop l.place l.fn.words))
      → IsCalledWithEach (goal.F-step g) l.fn.callback (numbers_from 0 l.fn.words);
}
