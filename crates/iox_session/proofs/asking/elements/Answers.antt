use Rattle.std.specs.Prelude.{true, false}
use Rattle.std.proofs.Common.{sym, ◌∙◌}
use Rattle.iox_nodes.specs.Shown.{service_of}
use Rattle.iox_session.proofs.Payloads.{no_active_request, payload_so}
use Rattle.iox_session.proofs.asking.elements.Goals as goal

pub returns-then-has : goal.returns-then-has
returns-then-has c =
    payload_so (service_of c.args.service.now) c.args.node c.args.number c.args.words.items false
    (sym (no_active_request (service_of c.args.service.now).fixed c.args.node c.args.number (sym c.has.ensures ∙ c.if-has.true)))

pub returns-then-has-2 : goal.returns-then-has-2
returns-then-has-2 c =
    payload_so (service_of c.args.service.now) c.args.node c.args.number c.args.words.items true (sym c.if-has-2.true ∙ c.has-2.ensures)

pub returns : goal.returns
returns c = payload_so (service_of c.args.service.now) c.args.node c.args.number c.args.words.items false (sym c.if-has-2.false ∙ c.has-2.ensures)
