use Rattle.std.proofs.Common.{◌≡◌, ◌<◌, ◌≤◌, ◌*◌, ℕ, true, false}
use Rattle.iox_lanes.specs.Marks.{first_of, is_set, word_at}
use Rattle.iox_lanes.proofs.marks.words.lowest_word.Given as goal

-- the word is on its level, it has a mark, and no lower one there has
abbrev pub invariant-loop : goal.invariant-loop
invariant-loop l = record {
  low : first_of l.counter ≤ l.at;
  high : l.at ≤ 64 * first_of l.counter;
  some : is_set (word_at l.words l.at) ≡ true;
  below : (n : ℕ) → first_of l.counter ≤ n → n < l.at → is_set (word_at l.words n) ≡ false;
}
