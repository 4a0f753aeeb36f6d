use Rattle.std.proofs.Common.{◌≡◌, false, take, All}
use Rattle.iox_script.specs.Lines.{is_space}
use Rattle.iox_script.proofs.parser.words.Words.split.Given as goal

abbrev pub invariant-loop-at : goal.invariant-loop-at
invariant-loop-at l = All (λ byte. is_space byte ≡ false) (take l.at l.line)
