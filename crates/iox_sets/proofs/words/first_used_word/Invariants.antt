use Rattle.std.proofs.Common.{◌≡◌, ◌<◌, ◌≤◌, ℕ, get_or}
use Rattle.iox_sets.proofs.words.first_used_word.Given as goal

-- the words that were passed are 0
abbrev pub invariant-loop-place : goal.invariant-loop-place
invariant-loop-place l = (before : ℕ) → l.from ≤ before → before < l.place → get_or l.words before 0 ≡ 0
