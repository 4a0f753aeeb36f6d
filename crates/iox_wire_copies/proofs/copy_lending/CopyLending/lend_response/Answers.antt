use Rattle.std.proofs.Common.{◌≡◌, ℕ, false, true, List, [], sym, ap, ◌∙◌}
use Rattle.std.proofs.lemmas.Bool.{lt-leb}
use Rattle.iox_wire_locals.specs.Courses.{placed}
use Rattle.iox_wire_locals.specs.Lendings.{lends_response}
use Rattle.iox_wire_copies.proofs.BeginLemmas.{kept_none, kept_whole, responds_copied, too_long_response}
use Rattle.iox_wire_copies.proofs.CopyLemmas.{copied}
use Rattle.iox_wire_copies.proofs.copy_lending.CopyLending.lend_response.Goals.{then-elements-lender, else-elements-lender}
use Rattle.iox_wire_copies.proofs.copy_lending.CopyLending.lend_response.Goals as goal

pub returns-clause-begun : goal.returns-clause-begun
returns-clause-begun c p lender server port number ways =
    let begun : placed c.lend_response.new.seat.seat c.lend_response.new.self.local ≡ lends_response p c.args.seat.now.seat c.args.request c.args.elements [] false =
    c.lend_response.ensures.begun p lender server port number ways in
    let whole : lends_response p c.args.seat.now.seat c.args.request c.args.elements c.replace.new.payload.items true
    ≡ lends_response p c.args.seat.now.seat c.args.request c.args.elements c.args.words.now true =
    elim c.if-elements-lender.branch [
      | then-elements-lender w ↦ kept_whole (λ (ws : List ℕ). lends_response p c.args.seat.now.seat c.args.request c.args.elements ws true) c.args.words.now c.replace.new.payload.items c.if-elements-lender.kept c.replace.ensures.items w.kept-is
      | else-elements-lender w ↦ kept_none (λ (ws : List ℕ). lends_response p c.args.seat.now.seat c.args.request c.args.elements ws true) c.args.words.now c.replace.new.payload.items c.if-elements-lender.kept
          (too_long_response p c.args.seat.now.seat c.args.lender.now c.args.request c.args.elements c.args.words.now lender server port (lt-leb c.args.elements c.args.lender.now.longest w.if-elements-lender.false)) c.replace.ensures.items w.kept-is
    ] in
    ap (copied c.replace.new.payload.items) begun
    ∙ sym (responds_copied p c.args.seat.now.seat c.args.request c.args.elements c.replace.new.payload.items)
    ∙ whole
