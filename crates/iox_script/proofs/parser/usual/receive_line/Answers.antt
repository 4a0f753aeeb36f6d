use Rattle.std.proofs.Common.{◌++◌, Some, ap, ◌∙◌}
use Rattle.std.proofs.lemmas.Bool.Decides.{Decides-eqb}
use Rattle.std.proofs.lemmas.Slice.Eq.{strip_prefix_is}
use Rattle.iox_script.proofs.UsualLemmas.{receive_found}
use Rattle.iox_script.proofs.parser.usual.receive_line.Goals as goal

pub returns : goal.returns
returns c =
    let rest = c.in_ok-strip_prefix.field-0 in
    let begins = strip_prefix_is Decides-eqb c.args.line.now c.as_slice.result.now (Some rest) c.in_ok-strip_prefix.ensures.cases in
    receive_found c.args.line.now rest.now c.two_numbers.result c.if-line-gt-MAX_LINE.false (begins ∙ ap (λ p. p ++ rest.now) c.as_slice.ensures) c.two_numbers.ensures
