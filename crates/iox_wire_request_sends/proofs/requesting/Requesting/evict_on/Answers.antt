use Rattle.std.proofs.Common.{◌≡◌, Some, ap, sym, subst, ◌∙◌}
use Rattle.iox_model.specs.Messages.{request_way}
use Rattle.iox_model.specs.declared.way.Way.{Way}
use Rattle.iox_wire_locals.specs.Courses.{delivering, placed}
use Rattle.iox_wire_locals.specs.Steps.{accessed, next, tells}
use Rattle.iox_wire_locals.specs.declared.local.Local.{Local}
use Rattle.iox_wire_locals.specs.declared.local.Local.TheVariants.{SendEvicts}
use Rattle.iox_wire_request_sends.proofs.LeadLemmas.{leads_as}
use Rattle.iox_wire_request_sends.proofs.PlaceLemmas.{it_evicts}
use Rattle.iox_wire_request_sends.proofs.StepLemmas.{is_evict, next_by, not_evict, tells_by, too_late}
use Rattle.iox_wire_request_sends.specs.Aims.{AreAimed, IsAimed, IsEvicting, Knows, LeadsTo}
use Rattle.iox_wire_request_sends.specs.RequestDispatches.{RequestDispatch, delivery_to}
use Rattle.iox_wire_request_sends.specs.Targets.{ways_to, with_room}
use Rattle.iox_wire_request_sends.specs.contracts.requesting.Requesting.{the_view}
use Rattle.iox_wire_seats.specs.Keeps.{counted}
use Rattle.iox_wire_seats.specs.Seats.{Placed}
use Rattle.iox_wire_request_sends.proofs.requesting.Requesting.evict_on.Goals as goal

pub returns-clause-next : goal.returns-clause-next
returns-clause-next c p aim =
    let local : (the_view c.self.inside).local ≡ SendEvicts (delivery_to c.self.inside.loan c.self.inside.copied c.self.inside.targets.all) (request_way c.self.inside.loan.port c.self.inside.target.server) c.self.inside.pusher (ways_to c.self.inside.loan.port (with_room c.self.inside.full.items c.self.inside.targets.left)) c.self.inside.count = it_evicts c.self.inside.at _ (subst (λ (r : RequestDispatch). IsEvicting r.local) (sym c.self.view_is) c.requires.there) in
    let aimed : AreAimed p c.args.seat.now.seat (SendEvicts (delivery_to c.self.inside.loan c.self.inside.copied c.self.inside.targets.all) (request_way c.self.inside.loan.port c.self.inside.target.server) c.self.inside.pusher (ways_to c.self.inside.loan.port (with_room c.self.inside.full.items c.self.inside.targets.left)) c.self.inside.count) (the_view c.self.inside) =
    subst (λ (l : Local). AreAimed p c.args.seat.now.seat l (the_view c.self.inside)) local (subst (IsAimed p c.args.seat.now.seat) (sym c.self.view_is) aim) in
    let seat : c.count_access.new.self ≡ counted c.args.seat.now = c.count_access.ensures in
    let knows : Knows p c.count_access.new.self.seat (the_view (record (c.self.inside) { pusher = c.advance.new.self; last = Some c.way.result })) =
    subst (λ (y : Placed). Knows p y.seat (the_view (record (c.self.inside) { pusher = c.advance.new.self; last = Some c.way.result }))) (sym seat)
    (record { told = aimed.0.told; targets = aimed.0.targets; left = aimed.0.left; number = aimed.0.number }) in
    let leads : LeadsTo p (delivering (accessed c.args.seat.now.seat) (delivery_to c.self.inside.loan c.self.inside.copied c.self.inside.targets.all) (Some (request_way c.self.inside.loan.port c.self.inside.target.server)) (ways_to c.self.inside.loan.port (with_room c.self.inside.full.items c.self.inside.targets.left)) c.self.inside.count) c.deliver_next.new.seat c.deliver_next.new.self c.deliver_next.result =
    leads_as p _ _ _ _ _ (ap (λ (y : Placed). delivering y.seat (delivery_to c.self.inside.loan c.self.inside.copied c.self.inside.targets.all) (Some (request_way c.self.inside.loan.port c.self.inside.target.server)) (ways_to c.self.inside.loan.port (with_room c.self.inside.full.items c.self.inside.targets.left)) c.self.inside.count) (sym seat)
    ∙ ap (λ (w : Way). delivering c.count_access.new.self.seat (delivery_to c.self.inside.loan c.self.inside.copied c.self.inside.targets.all) (Some w) (ways_to c.self.inside.loan.port (with_room c.self.inside.full.items c.self.inside.targets.left)) c.self.inside.count) (sym c.way.ensures)) (c.deliver_next.ensures.next p knows) in
    next_by p c.args.seat.now.seat (delivering (accessed c.args.seat.now.seat) (delivery_to c.self.inside.loan c.self.inside.copied c.self.inside.targets.all) (Some (request_way c.self.inside.loan.port c.self.inside.target.server)) (ways_to c.self.inside.loan.port (with_room c.self.inside.full.items c.self.inside.targets.left)) c.self.inside.count) (SendEvicts (delivery_to c.self.inside.loan c.self.inside.copied c.self.inside.targets.all) (request_way c.self.inside.loan.port c.self.inside.target.server) c.self.inside.pusher (ways_to c.self.inside.loan.port (with_room c.self.inside.full.items c.self.inside.targets.left)) c.self.inside.count) c.args.seen c.deliver_next.new.seat c.deliver_next.new.self c.deliver_next.result
    (too_late p c.args.seat.now.seat (delivery_to c.self.inside.loan c.self.inside.copied c.self.inside.targets.all) (request_way c.self.inside.loan.port c.self.inside.target.server) c.self.inside.pusher (ways_to c.self.inside.loan.port (with_room c.self.inside.full.items c.self.inside.targets.left)) c.self.inside.count c.self.inside.site c.args.seen aimed.1 (ap is_evict (sym c.advance.ensures.event) ∙ not_evict c.advance.result c.in_default.not-Evict)) leads
    ∙ ap (λ (l : Local). next p (placed c.args.seat.now.seat l) c.args.seen) (sym local ∙ ap (λ (r : RequestDispatch). r.local) c.self.view_is)

pub returns-clause-over : goal.returns-clause-over
returns-clause-over c p aim =
    let local : (the_view c.self.inside).local ≡ SendEvicts (delivery_to c.self.inside.loan c.self.inside.copied c.self.inside.targets.all) (request_way c.self.inside.loan.port c.self.inside.target.server) c.self.inside.pusher (ways_to c.self.inside.loan.port (with_room c.self.inside.full.items c.self.inside.targets.left)) c.self.inside.count = it_evicts c.self.inside.at _ (subst (λ (r : RequestDispatch). IsEvicting r.local) (sym c.self.view_is) c.requires.there) in
    let aimed : AreAimed p c.args.seat.now.seat (SendEvicts (delivery_to c.self.inside.loan c.self.inside.copied c.self.inside.targets.all) (request_way c.self.inside.loan.port c.self.inside.target.server) c.self.inside.pusher (ways_to c.self.inside.loan.port (with_room c.self.inside.full.items c.self.inside.targets.left)) c.self.inside.count) (the_view c.self.inside) =
    subst (λ (l : Local). AreAimed p c.args.seat.now.seat l (the_view c.self.inside)) local (subst (IsAimed p c.args.seat.now.seat) (sym c.self.view_is) aim) in
    let seat : c.count_access.new.self ≡ counted c.args.seat.now = c.count_access.ensures in
    let knows : Knows p c.count_access.new.self.seat (the_view (record (c.self.inside) { pusher = c.advance.new.self; last = Some c.way.result })) =
    subst (λ (y : Placed). Knows p y.seat (the_view (record (c.self.inside) { pusher = c.advance.new.self; last = Some c.way.result }))) (sym seat)
    (record { told = aimed.0.told; targets = aimed.0.targets; left = aimed.0.left; number = aimed.0.number }) in
    let leads : LeadsTo p (delivering (accessed c.args.seat.now.seat) (delivery_to c.self.inside.loan c.self.inside.copied c.self.inside.targets.all) (Some (request_way c.self.inside.loan.port c.self.inside.target.server)) (ways_to c.self.inside.loan.port (with_room c.self.inside.full.items c.self.inside.targets.left)) c.self.inside.count) c.deliver_next.new.seat c.deliver_next.new.self c.deliver_next.result =
    leads_as p _ _ _ _ _ (ap (λ (y : Placed). delivering y.seat (delivery_to c.self.inside.loan c.self.inside.copied c.self.inside.targets.all) (Some (request_way c.self.inside.loan.port c.self.inside.target.server)) (ways_to c.self.inside.loan.port (with_room c.self.inside.full.items c.self.inside.targets.left)) c.self.inside.count) (sym seat)
    ∙ ap (λ (w : Way). delivering c.count_access.new.self.seat (delivery_to c.self.inside.loan c.self.inside.copied c.self.inside.targets.all) (Some w) (ways_to c.self.inside.loan.port (with_room c.self.inside.full.items c.self.inside.targets.left)) c.self.inside.count) (sym c.way.ensures)) (c.deliver_next.ensures.next p knows) in
    ap (λ (l : Local). tells p (placed c.args.seat.now.seat l) c.args.seen) (ap (λ (r : RequestDispatch). r.local) (sym c.self.view_is) ∙ local)
    ∙ tells_by p c.args.seat.now.seat (delivering (accessed c.args.seat.now.seat) (delivery_to c.self.inside.loan c.self.inside.copied c.self.inside.targets.all) (Some (request_way c.self.inside.loan.port c.self.inside.target.server)) (ways_to c.self.inside.loan.port (with_room c.self.inside.full.items c.self.inside.targets.left)) c.self.inside.count) (SendEvicts (delivery_to c.self.inside.loan c.self.inside.copied c.self.inside.targets.all) (request_way c.self.inside.loan.port c.self.inside.target.server) c.self.inside.pusher (ways_to c.self.inside.loan.port (with_room c.self.inside.full.items c.self.inside.targets.left)) c.self.inside.count) c.args.seen c.deliver_next.new.seat c.deliver_next.new.self c.deliver_next.result
    (too_late p c.args.seat.now.seat (delivery_to c.self.inside.loan c.self.inside.copied c.self.inside.targets.all) (request_way c.self.inside.loan.port c.self.inside.target.server) c.self.inside.pusher (ways_to c.self.inside.loan.port (with_room c.self.inside.full.items c.self.inside.targets.left)) c.self.inside.count c.self.inside.site c.args.seen aimed.1 (ap is_evict (sym c.advance.ensures.event) ∙ not_evict c.advance.result c.in_default.not-Evict)) leads

pub returns-clause-aimed : goal.returns-clause-aimed
returns-clause-aimed c p aim =
    let local : (the_view c.self.inside).local ≡ SendEvicts (delivery_to c.self.inside.loan c.self.inside.copied c.self.inside.targets.all) (request_way c.self.inside.loan.port c.self.inside.target.server) c.self.inside.pusher (ways_to c.self.inside.loan.port (with_room c.self.inside.full.items c.self.inside.targets.left)) c.self.inside.count = it_evicts c.self.inside.at _ (subst (λ (r : RequestDispatch). IsEvicting r.local) (sym c.self.view_is) c.requires.there) in
    let aimed : AreAimed p c.args.seat.now.seat (SendEvicts (delivery_to c.self.inside.loan c.self.inside.copied c.self.inside.targets.all) (request_way c.self.inside.loan.port c.self.inside.target.server) c.self.inside.pusher (ways_to c.self.inside.loan.port (with_room c.self.inside.full.items c.self.inside.targets.left)) c.self.inside.count) (the_view c.self.inside) =
    subst (λ (l : Local). AreAimed p c.args.seat.now.seat l (the_view c.self.inside)) local (subst (IsAimed p c.args.seat.now.seat) (sym c.self.view_is) aim) in
    let seat : c.count_access.new.self ≡ counted c.args.seat.now = c.count_access.ensures in
    let knows : Knows p c.count_access.new.self.seat (the_view (record (c.self.inside) { pusher = c.advance.new.self; last = Some c.way.result })) =
    subst (λ (y : Placed). Knows p y.seat (the_view (record (c.self.inside) { pusher = c.advance.new.self; last = Some c.way.result }))) (sym seat)
    (record { told = aimed.0.told; targets = aimed.0.targets; left = aimed.0.left; number = aimed.0.number }) in
    let leads : LeadsTo p (delivering (accessed c.args.seat.now.seat) (delivery_to c.self.inside.loan c.self.inside.copied c.self.inside.targets.all) (Some (request_way c.self.inside.loan.port c.self.inside.target.server)) (ways_to c.self.inside.loan.port (with_room c.self.inside.full.items c.self.inside.targets.left)) c.self.inside.count) c.deliver_next.new.seat c.deliver_next.new.self c.deliver_next.result =
    leads_as p _ _ _ _ _ (ap (λ (y : Placed). delivering y.seat (delivery_to c.self.inside.loan c.self.inside.copied c.self.inside.targets.all) (Some (request_way c.self.inside.loan.port c.self.inside.target.server)) (ways_to c.self.inside.loan.port (with_room c.self.inside.full.items c.self.inside.targets.left)) c.self.inside.count) (sym seat)
    ∙ ap (λ (w : Way). delivering c.count_access.new.self.seat (delivery_to c.self.inside.loan c.self.inside.copied c.self.inside.targets.all) (Some w) (ways_to c.self.inside.loan.port (with_room c.self.inside.full.items c.self.inside.targets.left)) c.self.inside.count) (sym c.way.ensures)) (c.deliver_next.ensures.next p knows) in
    leads.aimed
