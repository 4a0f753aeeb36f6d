use Rattle.std.proofs.Common.{◌+◌, ◌∙◌, ap, sym, drop, get_or, arith}
use Rattle.std.specs.Option.{ok_or}
use Rattle.std.proofs.lemmas.List.{at_drop_more}
use Rattle.std.proofs.lemmas.Result.{err_from_is_err_and}
use Rattle.iox_script.specs.declared.command.LineCause.TheVariants.{BadNumber}
use Rattle.iox_script.proofs.NumeralLemmas.{number_after, number_after-stop, number_below-after}
use Rattle.iox_script.proofs.parser.numerals.number_up_to.Goals as goal

pub returns-in_err-number-clause-value : goal.returns-in_err-number-clause-value
returns-in_err-number-clause-value c =
    let p = err_from_is_err_and c.from_residual.result c.from_residual.ensures.1 in
    let word = c.args.word.now in
    let i = c.loop-byte.byte-index in
    let bound = c.args.most + 1 in
    let none = c.in_err-number.ensures.ok_part in
    let bad = c.in_err-number.ensures.value ∙ ap (λ next. ok_or next BadNumber) none in
    let stop = number_after-stop bound c.loop-byte.number (get_or word i 0) (drop (i + 1) word) (sym none ∙ c.with_digit.ensures) in
    let here = at_drop_more (number_after bound c.loop-byte.number) word i 0 c.loop-byte-test.true in
    let whole = number_below-after bound word (omega arith) in
    rw (p.1, p.2) (bad ∙ sym (whole ∙ sym c.loop-byte.invariant.same ∙ here ∙ stop))
