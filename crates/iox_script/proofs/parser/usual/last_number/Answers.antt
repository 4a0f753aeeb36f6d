use Rattle.std.proofs.Common.{arith}
use Rattle.iox_script.proofs.UsualLemmas.{numbers_last}
use Rattle.iox_script.proofs.parser.usual.last_number.Goals as goal

pub returns : goal.returns
returns c =
    numbers_last c.args.bytes.now c.first_digits-number.result.1 c.first_digits-number.result.0 c.if-digits-bytes.false
    c.first_digits-number.ensures.digits (c.first_digits-number.ensures.number (omega (arith, c.if-digits-eq0.false)))
