use Rattle.std.proofs.Common.{◌≡◌, length, Err, IsOk}
use Rattle.iox_script.specs.declared.command.LineCause.{LineCause}
use Rattle.iox_script.specs.Grammar.{numbers_of}
use Rattle.iox_script.proofs.parser.commands.check_numbers.Given as goal

abbrev pub invariant-loop-word : goal.invariant-loop-word
invariant-loop-word l = record {
  good : IsOk (numbers_of l.words) → IsOk (numbers_of l.initial.words);
  bad : (cause : LineCause) → numbers_of l.words ≡ Err cause → numbers_of l.initial.words ≡ Err cause;
}

abbrev pub decreases-loop-word : goal.decreases-loop-word
decreases-loop-word l = length l.words
