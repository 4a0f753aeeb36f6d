use Rattle.std.proofs.Common.{◌≡◌, ◌≤◌, ℕ, true}
use Rattle.iox_lanes.specs.Marks.{TellBut, is_marked, is_set, word_at}
use Rattle.iox_lanes.proofs.marks.words.set_up.Given as goal

-- all is told but of the word to which it came
abbrev pub invariant-loop-at : goal.invariant-loop-at
invariant-loop-at l = record {
  within : l.at ≤ l.from;
  some : is_set (word_at l.words l.at) ≡ true;
  tells : (marks : ℕ) → l.from ≤ marks → TellBut l.initial.words marks l.from
      → TellBut l.words marks l.at;
  others : (k : ℕ) → l.from ≤ k → is_marked l.words k ≡ is_marked l.initial.words k;
}

abbrev pub decreases-loop-at : goal.decreases-loop-at
decreases-loop-at l = l.at
