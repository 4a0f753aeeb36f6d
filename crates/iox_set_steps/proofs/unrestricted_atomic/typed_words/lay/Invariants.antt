use Rattle.std.proofs.Common.{◌≡◌, ◌+◌, ◌<◌, ◌⊎◌, ℕ, get_or, length}
use Rattle.iox_set_steps.proofs.unrestricted_atomic.typed_words.lay.Given as goal

-- the words of the value before `index` are written, and the others are as they were
abbrev pub invariant-loop-index : goal.invariant-loop-index
invariant-loop-index g l = record {
  size : length l.words.items ≡ length l.fn.words.items;
  version : get_or l.words.items l.fn.base 0 ≡ 0;
  value : (k : ℕ) → k < l.index → get_or l.words.items (l.fn.base + 1 + k) 0 ≡ get_or l.fn.list k 0;
  others : (place : ℕ) → (place < l.fn.base) ⊎ (l.fn.base + g.row.N < place) → get_or l.words.items place 0 ≡ get_or l.fn.words.items place 0;
}
