use Rattle.std.proofs.Common.{◌++◌, ◌∷◌, [], Some, ap, ◌∙◌}
use Rattle.std.proofs.lemmas.Bool.Decides.{Decides-eqb}
use Rattle.std.proofs.lemmas.Slice.Eq.{strip_prefix_is}
use Rattle.iox_script.specs.Meanings.{number_and}
use Rattle.iox_script.proofs.UsualLemmas.{send_so}
use Rattle.iox_script.proofs.parser.usual.send_copy_line.Goals as goal

pub returns : goal.returns
returns c =
    let most = c.in_ok-rest.rest in
    let rest = c.in_ok-rest-2.rest in
    let first = strip_prefix_is Decides-eqb c.args.line.now c.as_slice.result.now (Some most) c.in_ok-rest.ensures.cases ∙ ap (λ p. p ++ most.now) c.as_slice.ensures in
    let second = strip_prefix_is Decides-eqb most.now c.as_slice-2.result.now (Some rest) c.in_ok-rest-2.ensures.cases ∙ ap (λ p. p ++ rest.now) c.as_slice-2.ensures in
    let said = c.in_ok-node.ensures.numbers
    ∙ ap (number_and c.in_ok-node.node) (c.in_ok-number.ensures.numbers ∙ ap (number_and c.in_ok-number.number) c.in_ok-payload.ensures) in
    send_so c.args.line.now rest.now c.in_ok-node.node c.in_ok-number.number c.in_ok-payload.payload c.if-line-gt-MAX_LINE.false
    (first ∙ ap (λ l. (115 ∷ 101 ∷ 110 ∷ 100 ∷ 45 ∷ 99 ∷ 111 ∷ 112 ∷ []) ++ l) second) said
