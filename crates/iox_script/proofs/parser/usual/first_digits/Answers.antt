use Rattle.std.proofs.Common.{◌≡◌, ◌+◌, ◌*◌, ◌<◌, true, length, take, get_or, Ok, refl, subst, ap, sym, ◌∙◌, arith}
use Rattle.std.proofs.Math.Facts.{Fits-lt-pow}
use Rattle.std.specs.List.{list_all}
use Rattle.iox_script.specs.Numerals.{is_digit, number_of}
use Rattle.iox_script.proofs.UsualLemmas.{digits_more, number_so, value_more}
use Rattle.iox_script.proofs.parser.usual.first_digits.Goals as goal

pub loop-at-init : goal.loop-at-init
loop-at-init c = record { digits = refl; value = refl }

pub returns-then-not-is_ascii_digit-clause-digits : goal.returns-then-not-is_ascii_digit-clause-digits
returns-then-not-is_ascii_digit-clause-digits c = c.loop-at.invariant.digits

pub returns-then-not-is_ascii_digit-clause-number : goal.returns-then-not-is_ascii_digit-clause-number
returns-then-not-is_ascii_digit-clause-number c =
    number_so c.args.bytes.now c.loop-at.at c.loop-at.number c.loop-at.auto.at-end c.loop-at.invariant.digits c.loop-at.invariant.value (Fits-lt-pow c.loop-at.auto.number-fits)

pub loop-at-preserved : goal.loop-at-preserved
loop-at-preserved c =
    let digit : is_digit (get_or c.args.bytes.now c.loop-at.at 0) ≡ true = sym c.is_ascii_digit.ensures.value ∙ c.if-not-is_ascii_digit.false in record {
      digits = digits_more c.args.bytes.now c.loop-at.at c.loop-at-test.true c.loop-at.invariant.digits digit;
      value = value_more c.args.bytes.now c.loop-at.at c.loop-at.number c.loop-at-test.true c.loop-at.invariant.value digit
          ∙ ap (λ d. c.loop-at.number * 10 + d) (sym c.from.ensures);
    }

pub returns-clause-digits : goal.returns-clause-digits
returns-clause-digits c =
    let all : c.loop-at.at ≡ length c.args.bytes.now = omega (arith, c.loop-at.auto.at-end, c.loop-at-test.false) in
    subst (λ n. list_all is_digit (take n c.args.bytes.now) ≡ true) all c.loop-at.invariant.digits

pub returns-clause-number : goal.returns-clause-number
returns-clause-number c =
    let all : c.loop-at.at ≡ length c.args.bytes.now = omega (arith, c.loop-at.auto.at-end, c.loop-at-test.false) in
    subst (λ n. 0 < n → number_of (take n c.args.bytes.now) ≡ Ok c.loop-at.number) all
    (number_so c.args.bytes.now c.loop-at.at c.loop-at.number c.loop-at.auto.at-end c.loop-at.invariant.digits c.loop-at.invariant.value (Fits-lt-pow c.loop-at.auto.number-fits))
