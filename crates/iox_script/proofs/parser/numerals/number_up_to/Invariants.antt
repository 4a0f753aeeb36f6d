use Rattle.std.proofs.Common.{◌≡◌, ◌+◌, ◌≤◌, drop}
use Rattle.iox_script.proofs.NumeralLemmas.{number_after}
use Rattle.iox_script.proofs.parser.numerals.number_up_to.Given as goal

abbrev pub invariant-loop-byte : goal.invariant-loop-byte
invariant-loop-byte l = record {
  same : number_after (l.most + 1) l.number (drop l.byte-index l.word) ≡ number_after (l.most + 1) 0 l.word;
  within : l.number ≤ l.most;
}
