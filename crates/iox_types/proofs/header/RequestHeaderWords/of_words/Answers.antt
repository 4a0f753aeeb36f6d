use Rattle.std.proofs.Common.{◌≡◌, ◌∙◌, get_or, arith, sym}
use Rattle.iox_types.proofs.HeaderLemmas.{request_header_of_words-seven}
use Rattle.iox_types.proofs.header.RequestHeaderWords.of_words.Goals as goal

pub returns-in_ok-new-in-len7 : goal.returns-in_ok-new-in-len7
returns-in_ok-new-in-len7 c =
    let request : c.in_ok-new-in-len7.field-0 ≡ get_or c.args.list.now 5 0 = c.in_ok-new-in-len7.ensures.made in
    let fields = request_header_of_words-seven c.args.list.now c.in_ok-of_words-in-len7.field-0 c.in_ok-of_words-in-len7-2.field-0
    (omega arith)
    (sym c.of_words.ensures ∙ c.in_ok-of_words-in-len7.was)
    (sym c.of_words-in-len7.ensures ∙ c.in_ok-of_words-in-len7-2.was)
    (omega arith) (omega arith) (omega arith) in
    rw request (sym fields)
