use Rattle.std.proofs.Common.{arith}
use Rattle.std.proofs.lemmas.List.Splits.{length-slice_split}
use Rattle.iox_script.specs.Lines.{is_space}
use Rattle.iox_script.proofs.parser.words.count_words.Goals as goal

pub returns : goal.returns
returns c = omega (arith, length-slice_split is_space c.args.line.now)
