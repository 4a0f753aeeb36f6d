use Rattle.std.proofs.Common.{◌≡◌, ◌+◌, ◌*◌, ◌^◌, ◌<◌, [], ◌∷◌, ℕ, true, length}
use Rattle.iox_sets.specs.BitWords.{bit_in, numbers_in}
use Rattle.iox_sets.specs.Calls.{IsLeftByCalls}
use Rattle.iox_sets.proofs.words.tell_bits.Given as goal

-- the calls to come are those of the bits that are left
abbrev pub invariant-loop-left : goal.invariant-loop-left
invariant-loop-left g l = record {
  callable : goal.F-IsAlwaysCallable g l.callback;
  numbered : (id : ℕ) → id < 64 → bit_in (l.left ∷ []) id ≡ true → l.fn.place * 64 + id < 2 ^ 64;
  calls : (last : g.row.F.Denot) → IsLeftByCalls (goal.F-step g) l.callback (numbers_in l.fn.place l.left) last
      → IsLeftByCalls (goal.F-step g) l.fn.callback (numbers_in l.fn.place l.fn.word) last;
}

abbrev pub decreases-loop-left : goal.decreases-loop-left
decreases-loop-left g l = length (numbers_in l.fn.place l.left)
