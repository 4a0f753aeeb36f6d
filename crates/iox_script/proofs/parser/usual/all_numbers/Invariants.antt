use Rattle.std.proofs.Common.{◌≡◌, ◌≤◌, length}
use Rattle.iox_script.specs.Grammar.{numbers_of}
use Rattle.iox_script.specs.Lines.{words_of}
use Rattle.iox_script.proofs.UsualLemmas.{after}
use Rattle.iox_script.proofs.parser.usual.all_numbers.Given as goal

abbrev pub invariant-words : goal.invariant-words
invariant-words l = record {
  same : after l.numbers.items (numbers_of (words_of l.rest)) ≡ numbers_of (words_of l.fn.bytes);
  within : length l.rest ≤ length l.fn.bytes;
}

abbrev pub decreases-words : goal.decreases-words
decreases-words l = length l.rest
