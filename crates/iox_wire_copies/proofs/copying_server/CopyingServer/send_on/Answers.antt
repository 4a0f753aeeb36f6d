use Rattle.std.proofs.Common.{◌≡◌, None, sym, subst, ap}
use Rattle.std.specs.Prelude.{Option}
use Rattle.iox_wire_sends.specs.declared.at.RespondReply.{RespondReply}
use Rattle.iox_wire_sends.specs.Aims as responses
use Rattle.iox_wire_copies.specs.contracts.copying_server.CopyingServer.{the_view}
use Rattle.iox_wire_copies.specs.declared.at.CopierAt.{CopierAt}
use Rattle.iox_wire_copies.specs.declared.at.CopierAt.TheVariants as at
use Rattle.iox_wire_copies.specs.Copiers.{IsSending, local_of}
use Rattle.iox_wire_copies.specs.ResponseCopies.{Answers, ResponseCopy}
use Rattle.iox_wire_copies.proofs.CopierLemmas.{copier_sends}
use Rattle.iox_wire_copies.proofs.RespondLemmas.{Sends, sends_on}
use Rattle.iox_wire_copies.proofs.copying_server.CopyingServer.send_on.Goals as goal

pub returns-in-None-clause-over : goal.returns-in-None-clause-over
returns-in-None-clause-over c =
    let at' : c.self.inside.at ≡ at.Sends = copier_sends c.self.inside.at (subst (λ (r : ResponseCopy). IsSending r.at) (sym c.self.view_is) c.requires.there) in
    let sends_now : Sends (the_view c.self.inside) = record { at = at'; local = ap (λ (a : CopierAt). local_of a c.self.inside.lends.local c.self.inside.sends.local) at' } in
    subst (λ (r : ResponseCopy). Answers c.args.seat.now r c.args.seen None) c.self.view_is
    (sends_on c.args.seat.now (the_view c.self.inside) c.args.seen sends_now
    (subst (λ (o : Option RespondReply). responses.Answers c.args.seat.now c.self.inside.sends c.args.seen o) c.in-None.is c.go_on.ensures.over))
