use Rattle.std.proofs.Common.{◌≡◌, true, sym, subst, ◌∙◌}
use Rattle.iox_wire_locals.specs.Courses.{placed, sends}
use Rattle.iox_wire_sends.specs.Aims as responses
use Rattle.iox_wire_sends.specs.Aims.{IsToldOf}
use Rattle.iox_wire_copies.specs.ResponseCopies.{ResponseCopy}
use Rattle.iox_wire_copies.proofs.RespondLemmas.{send_ends, send_starts, told_start}
use Rattle.iox_wire_copies.proofs.copying_server.CopyingServer.send.Goals as goal

pub returns-then-is_ending-clause-next : goal.returns-then-is_ending-clause-next
returns-then-is_ending-clause-next c p knows =
    let told : IsToldOf p c.args.loan c.self.inside.sends.terms = subst (λ (r : ResponseCopy). IsToldOf p c.args.loan r.sends.terms) (sym c.self.view_is) knows in
    let begun : placed c.args.seat.now.seat c.start.new.self.local ≡ sends p c.args.seat.now.seat c.args.loan true = c.start.ensures.begun p told in
    send_ends p c.args.seat.now c.tell-reply.new.seat c.args.loan c.start.new.self c.tell-reply.new.self c.self.inside.lends c.tell-reply.result c.response_sent.result c.response_sent.ensures begun (c.tell-reply.ensures.next p) (c.tell-reply.ensures.reply p) c.tell-reply.ensures.over

pub returns-clause-next : goal.returns-clause-next
returns-clause-next c p knows =
    let told : IsToldOf p c.args.loan c.self.inside.sends.terms = subst (λ (r : ResponseCopy). IsToldOf p c.args.loan r.sends.terms) (sym c.self.view_is) knows in
    let begun : placed c.args.seat.now.seat c.start.new.self.local ≡ sends p c.args.seat.now.seat c.args.loan true = c.start.ensures.begun p told in
    let aim : responses.IsAimed p c.start.new.self = told_start p c.args.loan c.self.inside.sends.terms c.start.new.self c.start.ensures.loan c.start.ensures.terms told in
    send_starts p c.args.seat.now c.args.loan c.start.new.self c.self.inside.lends (sym c.is_ending.ensures ∙ c.if-is_ending.false) begun aim
