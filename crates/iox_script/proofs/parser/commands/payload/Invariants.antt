use Rattle.std.proofs.Common.{◌≡◌, ◌+◌, ◌≤◌, ◌++◌, length, Ok, vec_len, vec_capacity}
use Rattle.iox_script.specs.Grammar.{numbers_of, ◌>>=◌}
use Rattle.iox_script.proofs.parser.commands.payload.Given as goal

abbrev pub invariant-loop-word : goal.invariant-loop-word
invariant-loop-word l = record {
  same : (numbers_of l.words >>= (λ more. Ok (l.numbers.items ++ more))) ≡ numbers_of l.initial.words;
  room : vec_len l.numbers + length l.words ≤ vec_capacity l.numbers;
}

abbrev pub decreases-loop-word : goal.decreases-loop-word
decreases-loop-word l = length l.words
