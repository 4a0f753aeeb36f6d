use Rattle.std.proofs.Common.{◌≡◌, ◌+◌, ◌++◌, length, length-append, sym}
use Rattle.iox_names.proofs.TextLemmas.{HoldsText-copy}
use Rattle.iox_names.proofs.bounded_text.BoundedText.of_texts.Goals as goal

pub invariant_of-result : goal.invariant_of-result
invariant_of-result g c =
    let sum : length c.args.front.now + length c.args.back.now ≡ length (c.args.front.now ++ c.args.back.now) =
    sym (length-append c.args.front.now c.args.back.now) in
    rw (c.write_both.ensures, sum) (HoldsText-copy g.row.MAX (c.args.front.now ++ c.args.back.now)
    c.requires.within c.requires.text)
