use Rattle.std.proofs.Common.{◌+◌, ◌/◌, ◌%◌, [], ◌∷◌, ap, ap₂, ◌∙◌}
use Rattle.iox_script.proofs.DigitLemmas.{one_digit, three_digits, two_digits, written_so}
use Rattle.iox_script.proofs.print.push_spaced.Goals as goal

pub returns-then-number-lt10-clause-written : goal.returns-then-number-lt10-clause-written
returns-then-number-lt10-clause-written c =
    written_so c.extend_from_slice.result _ _ _ _ c.extend_from_slice.ensures.items
    (ap (λ d. 32 ∷ d ∷ []) c.digit.ensures ∙ one_digit c.args.number c.if-number-lt10.true)

pub returns-then-tens-lt10-clause-written : goal.returns-then-tens-lt10-clause-written
returns-then-tens-lt10-clause-written c =
    written_so c.extend_from_slice-then-tens-lt10.result _ _ _ _ c.extend_from_slice-then-tens-lt10.ensures.items
    (ap₂ (λ d e. 32 ∷ d ∷ e ∷ []) c.digit-then-tens-lt10.ensures c.digit-ones.ensures
    ∙ two_digits c.args.number c.if-number-lt10.false c.if-tens-lt10.true)

pub returns-then-tens-lt100-clause-written : goal.returns-then-tens-lt100-clause-written
returns-then-tens-lt100-clause-written c =
    written_so c.extend_from_slice-then-tens-lt100.result _ _ _ _ c.extend_from_slice-then-tens-lt100.ensures.items
    (ap₂ (λ d e. 32 ∷ d ∷ e ∷ c.digit-ones.result ∷ []) c.digit-then-tens-lt100.ensures c.digit-then-tens-lt100-2.ensures
    ∙ ap (λ d. 32 ∷ (48 + c.args.number / 10 / 10) ∷ (48 + c.args.number / 10 % 10) ∷ d ∷ []) c.digit-ones.ensures
    ∙ three_digits c.args.number c.if-number-lt10.false c.if-tens-lt10.false c.if-tens-lt100.true)
