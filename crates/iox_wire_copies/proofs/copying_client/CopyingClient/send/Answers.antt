use Rattle.std.proofs.Common.{◌≡◌, true, None, Some, refl, sym, subst, ap, ◌∙◌}
use Rattle.std.specs.Prelude.{Option, is_none}
use Rattle.iox_wire_locals.specs.Courses.{placed, sends}
use Rattle.iox_wire_request_sends.specs.declared.at.RequestReply.{RequestReply}
use Rattle.iox_wire_request_sends.specs.Aims as requests
use Rattle.iox_wire_request_sends.specs.Aims.{is_ending}
use Rattle.iox_wire_copies.specs.CopyCalls.{CopyCall, KnowsServers}
use Rattle.iox_wire_copies.proofs.SendLemmas.{known_at_end, send_ends, send_starts, send_stays}
use Rattle.iox_wire_copies.proofs.copying_client.CopyingClient.send.Goals as goal

pub returns-then-not-is_ending-clause-next : goal.returns-then-not-is_ending-clause-next
returns-then-not-is_ending-clause-next c p knows number =
    let told : KnowsServers p c.args.seat.now.seat c.args.loan.port c.args.loan.lane c.self.inside.sends = subst (λ (r : CopyCall). KnowsServers p c.args.seat.now.seat c.args.loan.port c.args.loan.lane r.sends) (sym c.self.view_is) knows in
    let begun : placed c.args.seat.now.seat c.start.new.self.local ≡ sends p c.args.seat.now.seat c.args.loan true = c.start.ensures.begun p (told.told c.args.loan refl) told.servers in
    let aim : requests.IsAimed p c.args.seat.now.seat c.start.new.self = c.start.ensures.aimed p (told.told c.args.loan refl) (told.targets c.args.loan refl refl) (λ e. number) in
    send_starts p c.args.seat.now c.args.loan c.start.new.self c.self.inside.lends (sym c.is_ending.ensures ∙ c.if-not-is_ending.true) begun aim

pub returns-in-None-clause-next : goal.returns-in-None-clause-next
returns-in-None-clause-next c p knows number =
    let told : KnowsServers p c.args.seat.now.seat c.args.loan.port c.args.loan.lane c.self.inside.sends = subst (λ (r : CopyCall). KnowsServers p c.args.seat.now.seat c.args.loan.port c.args.loan.lane r.sends) (sym c.self.view_is) knows in
    let begun : placed c.args.seat.now.seat c.start.new.self.local ≡ sends p c.args.seat.now.seat c.args.loan true = c.start.ensures.begun p (told.told c.args.loan refl) told.servers in
    let aim : requests.IsAimed p c.args.seat.now.seat c.start.new.self = c.start.ensures.aimed p (told.told c.args.loan refl) (told.targets c.args.loan refl refl) (λ e. number) in
    let leads : requests.LeadsTo p (placed c.args.seat.now.seat c.start.new.self.local) c.tell.new.seat c.tell.new.self None =
    subst (λ (o : Option RequestReply). requests.LeadsTo p (placed c.args.seat.now.seat c.start.new.self.local) c.tell.new.seat c.tell.new.self o) c.in-None.is
    (c.tell.ensures.next p (known_at_end p c.args.seat.now.seat c.start.new.self c.start.new.self.local (sym c.is_ending.ensures ∙ c.if-not-is_ending.false) aim)) in
    send_stays p c.args.seat.now c.tell.new.seat c.args.loan c.start.new.self c.tell.new.self c.self.inside.lends begun leads

pub returns-in-Some-clause-next : goal.returns-in-Some-clause-next
returns-in-Some-clause-next c p knows number =
    let told : KnowsServers p c.args.seat.now.seat c.args.loan.port c.args.loan.lane c.self.inside.sends = subst (λ (r : CopyCall). KnowsServers p c.args.seat.now.seat c.args.loan.port c.args.loan.lane r.sends) (sym c.self.view_is) knows in
    let begun : placed c.args.seat.now.seat c.start.new.self.local ≡ sends p c.args.seat.now.seat c.args.loan true = c.start.ensures.begun p (told.told c.args.loan refl) told.servers in
    let aim : requests.IsAimed p c.args.seat.now.seat c.start.new.self = c.start.ensures.aimed p (told.told c.args.loan refl) (told.targets c.args.loan refl refl) (λ e. number) in
    let leads : requests.LeadsTo p (placed c.args.seat.now.seat c.start.new.self.local) c.tell.new.seat c.tell.new.self (Some c.in-Some.reply) =
    subst (λ (o : Option RequestReply). requests.LeadsTo p (placed c.args.seat.now.seat c.start.new.self.local) c.tell.new.seat c.tell.new.self o) c.in-Some.is
    (c.tell.ensures.next p (known_at_end p c.args.seat.now.seat c.start.new.self c.start.new.self.local (sym c.is_ending.ensures ∙ c.if-not-is_ending.false) aim)) in
    send_ends p c.args.seat.now c.tell.new.seat c.args.loan c.start.new.self c.tell.new.self c.self.inside.lends c.in-Some.reply c.request_sent.result c.request_sent.ensures begun leads (c.tell.ensures.leaves.busy ∙ ap is_none c.in-Some.is)
