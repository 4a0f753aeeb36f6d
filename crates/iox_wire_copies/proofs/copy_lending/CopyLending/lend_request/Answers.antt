use Rattle.std.proofs.Common.{◌≡◌, ℕ, false, true, List, [], sym, ap, ◌∙◌}
use Rattle.std.proofs.lemmas.Bool.{lt-leb}
use Rattle.iox_wire_locals.specs.Courses.{placed}
use Rattle.iox_wire_locals.specs.Lendings.{lends_request}
use Rattle.iox_wire_copies.specs.CopyAims.{HasSamePeers}
use Rattle.iox_wire_copies.proofs.BeginLemmas.{begins_copied, begins_peers, kept_none, kept_whole, too_long}
use Rattle.iox_wire_copies.proofs.CopyLemmas.{copied}
use Rattle.iox_wire_copies.proofs.copy_lending.CopyLending.lend_request.Goals.{then-elements-lender, else-elements-lender}
use Rattle.iox_wire_copies.proofs.copy_lending.CopyLending.lend_request.Goals as goal

pub returns-clause-begun : goal.returns-clause-begun
returns-clause-begun c p lender client number ways =
    let begun : placed c.lend_request.new.seat.seat c.lend_request.new.self.local ≡ lends_request p c.args.seat.now.seat (p.port c.args.lender.now.port) c.args.elements [] false =
    c.lend_request.ensures.begun p lender client number ways in
    let whole : lends_request p c.args.seat.now.seat (p.port c.args.lender.now.port) c.args.elements c.replace.new.payload.items true
    ≡ lends_request p c.args.seat.now.seat (p.port c.args.lender.now.port) c.args.elements c.args.words.now true =
    elim c.if-elements-lender.branch [
      | then-elements-lender w ↦ kept_whole (λ (ws : List ℕ). lends_request p c.args.seat.now.seat (p.port c.args.lender.now.port) c.args.elements ws true) c.args.words.now c.replace.new.payload.items c.if-elements-lender.kept c.replace.ensures.items w.kept-is
      | else-elements-lender w ↦ kept_none (λ (ws : List ℕ). lends_request p c.args.seat.now.seat (p.port c.args.lender.now.port) c.args.elements ws true) c.args.words.now c.replace.new.payload.items c.if-elements-lender.kept
          (too_long p c.args.seat.now.seat c.args.lender.now c.args.elements c.args.words.now lender client (lt-leb c.args.elements c.args.lender.now.longest w.if-elements-lender.false)) c.replace.ensures.items w.kept-is
    ] in
    ap (copied c.replace.new.payload.items) begun
    ∙ sym (begins_copied p c.args.seat.now.seat (p.port c.args.lender.now.port) c.args.elements c.replace.new.payload.items)
    ∙ whole

pub returns-clause-peers : goal.returns-clause-peers
returns-clause-peers c p lender client number ways =
    let peers : HasSamePeers c.args.seat.now.seat (placed c.lend_request.new.seat.seat c.lend_request.new.self.local) =
    begins_peers p c.args.seat.now.seat (placed c.lend_request.new.seat.seat c.lend_request.new.self.local) (p.port c.args.lender.now.port) c.args.elements
    (c.lend_request.ensures.begun p lender client number ways) in
    record { node = peers.node; forgot = peers.forgot }
