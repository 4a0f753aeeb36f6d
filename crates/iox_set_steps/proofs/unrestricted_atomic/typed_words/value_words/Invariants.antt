use Rattle.std.proofs.Common.{◌≡◌, ◌<◌, ℕ, get_or, length}
use Rattle.iox_set_steps.proofs.unrestricted_atomic.typed_words.value_words.Given as goal

-- the words before `index` are those of the value
abbrev pub invariant-loop-index : goal.invariant-loop-index
invariant-loop-index g l = record {
  size : length l.words ≡ g.row.N;
  done : (k : ℕ) → k < l.index → get_or l.words k 0 ≡ get_or (g.T.Words.words l.fn.value) k 0;
}
