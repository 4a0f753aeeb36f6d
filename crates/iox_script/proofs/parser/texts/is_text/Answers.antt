use Rattle.std.proofs.Common.{◌<◌, ◌∙◌, length, arith, sym}
use Rattle.std.proofs.lemmas.Bool.{eqb-true}
use Rattle.std.proofs.lemmas.Bool.Decides.{nat_tests}
use Rattle.iox_script.proofs.TextLemmas.{bytes_of-even}
use Rattle.iox_script.proofs.parser.texts.is_text.Goals as goal
use Rattle.iox_script.proofs.parser.texts.is_text.Goals.{then-not-is_empty, else-not-is_empty}

pub returns-then-word-eq0 : goal.returns-then-word-eq0
returns-then-word-eq0 c =
    elim c.if-not-is_empty.branch [
      | then-not-is_empty w ↦
          let word = c.args.word.now in
          let some : 0 < length word = grind (arith, nat_tests) in
          bytes_of-even word c.has_hex_digits.result some (eqb-true _ 0 (sym w.value-is ∙ c.if-word-eq0.true)) c.has_hex_digits.ensures
      | else-not-is_empty w ↦ cc
    ]
