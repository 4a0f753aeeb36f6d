use Rattle.std.proofs.Common.{◌≡◌, ap, sym, subst, ◌∙◌}
use Rattle.iox_model.specs.Messages.{request_way}
use Rattle.iox_wire_seats.specs.SlotEvents.{slot_event}
use Rattle.iox_wire_request_sends.specs.contracts.requesting.Requesting.{the_view}
use Rattle.iox_wire_request_sends.specs.Aims.{IsAimed}
use Rattle.iox_wire_request_sends.specs.RequestDispatches.{RequestDispatch}
use Rattle.iox_wire_request_sends.proofs.EventLemmas.{delivers_told, empties_told}
use Rattle.iox_wire_request_sends.proofs.requesting.Requesting.event.Goals as goal

pub returns-in-Empties : goal.returns-in-Empties
returns-in-Empties c p x =
    let way : c.way-way.result ≡ request_way c.self.inside.loan.port c.self.inside.target.server =
    c.way-way.ensures ∙ ap (λ (r : RequestDispatch). request_way r.loan.port r.target.server) (sym c.self.view_is) in
    subst (λ (r : RequestDispatch). IsAimed p x r → c.return_event.result ≡ slot_event p r.local c.args.seen) c.self.view_is
    (empties_told p x (the_view c.self.inside) c.self.inside.at _ c.way-way.result c.return_event.result c.args.seen c.in-Empties.is way c.return_event.ensures)

pub returns-in-Looks : goal.returns-in-Looks
returns-in-Looks c p x =
    let way : c.way-way.result ≡ request_way c.self.inside.loan.port c.self.inside.target.server =
    c.way-way.ensures ∙ ap (λ (r : RequestDispatch). request_way r.loan.port r.target.server) (sym c.self.view_is) in
    subst (λ (r : RequestDispatch). IsAimed p x r → c.message_event.result ≡ slot_event p r.local c.args.seen) c.self.view_is
    (delivers_told p x (the_view c.self.inside) c.self.inside.at _ c.way-way.result c.message_event.result c.args.seen c.in-Looks.is way c.message_event.ensures)
