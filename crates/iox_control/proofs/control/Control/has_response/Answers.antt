use Rattle.std.proofs.Common.{ap, ◌∙◌}
use Rattle.std.proofs.lemmas.Option.{same_Some}
use Rattle.iox_lanes.specs.declared.wanted.Label.{Label}
use Rattle.iox_control.proofs.PendingLemmas.{pending_of, response_waits}
use Rattle.iox_control.proofs.WholeLemmas.{response_told}
use Rattle.iox_control.proofs.control.Control.has_response.Goals as goal

pub returns-clause-told : goal.returns-clause-told
returns-clause-told c h there =
    response_waits c.args.self.now.tables h c.in-Some.entry c.label-label.result.lane c.has_waiting.result
    (same_Some _ h (c.in-Some.ensures ∙ there)) (ap (λ (l : Label). l.lane) c.label-label.ensures) c.has_waiting.ensures

pub returns-clause-whole : goal.returns-clause-whole
returns-clause-whole c x =
    response_told x c.args.self.now.tables c.args.node c.args.number c.label-label.result.lane c.has_waiting.result
    (pending_of c.args.self.now.tables c.args.node c.args.number c.requires.pending c.in-Some.entry c.in-Some.ensures)
    (c.requires.order.order.wired.each c.in-Some.entry.port c.requires.pending.port
    (pending_of c.args.self.now.tables c.args.node c.args.number c.requires.pending c.in-Some.entry c.in-Some.ensures).there)
    (ap (λ (l : Label). l.lane) c.label-label.ensures) c.has_waiting.ensures
