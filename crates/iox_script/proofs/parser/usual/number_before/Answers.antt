use Rattle.std.proofs.Common.{arith}
use Rattle.std.proofs.lemmas.List.{take_rest}
use Rattle.iox_script.proofs.UsualLemmas.{numbers_before}
use Rattle.iox_script.proofs.parser.usual.number_before.Goals as goal

pub returns-clause-numbers : goal.returns-clause-numbers
returns-clause-numbers c =
    rw take_rest
    (numbers_before c.args.bytes.now c.first_digits-number.result.1 c.first_digits-number.result.0 c.if-digits-bytes.false c.if-bytes-digits-ne32.false
    c.first_digits-number.ensures.digits (c.first_digits-number.ensures.number (omega (arith, c.if-digits-eq0.false))))
