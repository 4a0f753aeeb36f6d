use Rattle.std.proofs.Common.{rules, ◌≡◌, ◌+◌, ◌-◌, ◌<◌, [], ◌∷◌, ◌++◌, length, drop, sym, ap, ◌∙◌, Ok, arith}
use Rattle.std.proofs.lemmas.List.{take_rest, length-take, length-drop}
use Rattle.iox_script.proofs.UsualLemmas.{after_last, after_more, numbers_before, numbers_last}
use Rattle.iox_script.proofs.parser.usual.all_numbers.Goals as goal

pub returns-then-digits-rest : goal.returns-then-digits-rest
returns-then-digits-rest c =
    let front = c.words.numbers.items in
    let rest = c.words.rest.now in
    let number = c.first_digits-number.result.0 in
    let grown : c.push.new.self.items ≡ front ++ number ∷ [] = search rules in
    let said = numbers_last rest c.first_digits-number.result.1 number c.if-digits-rest.true c.first_digits-number.ensures.digits
    (c.first_digits-number.ensures.number (omega (arith, c.if-digits-eq0.false))) in
    after_last front rest number _ c.words.invariant.same said ∙ ap Ok (sym grown ∙ sym c.new.ensures)

pub words-preserved : goal.words-preserved
words-preserved c =
    let front = c.words.numbers.items in
    let rest = c.words.rest.now in
    let at = c.first_digits-number.result.1 in
    let number = c.first_digits-number.result.0 in
    let grown : c.push.new.self.items ≡ front ++ number ∷ [] = search rules in
    let short : at < length rest = omega (arith, c.first_digits-number.ensures.within, c.if-digits-rest.false) in
    let said = numbers_before rest at number short c.if-rest-digits-ne32.false c.first_digits-number.ensures.digits
    (c.first_digits-number.ensures.number (omega (arith, c.if-digits-eq0.false))) in
    record {
      same = rw (take_rest, grown) (after_more front rest (drop (at + 1) rest) number _ c.words.invariant.same said);
      within = omega (arith, c.words.invariant.within, length-take (length rest - (at + 1)) (drop (at + 1) rest), length-drop (at + 1) rest);
    }
