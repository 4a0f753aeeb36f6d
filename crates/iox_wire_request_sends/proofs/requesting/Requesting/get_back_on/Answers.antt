use Rattle.std.proofs.Common.{◌≡◌, true, None, ap, ap₂, sym, subst, ◌∙◌}
use Rattle.iox_model.specs.Messages.{request_way}
use Rattle.iox_model.specs.declared.way.Way.{Way}
use Rattle.iox_wire_loans.proofs.LoanLemmas.{lends_after_got_back, lends_counted}
use Rattle.iox_wire_locals.specs.Courses.{delivering, placed}
use Rattle.iox_wire_locals.specs.Desks.{at_desk, gets_back}
use Rattle.iox_wire_locals.specs.Steps.{accessed, next, tells}
use Rattle.iox_wire_locals.specs.declared.local.Local.{Local}
use Rattle.iox_wire_locals.specs.declared.local.Local.TheVariants.{SendGetsBack}
use Rattle.iox_wire_request_sends.proofs.LeadLemmas.{leads_as}
use Rattle.iox_wire_request_sends.proofs.PlaceLemmas.{it_gets_back}
use Rattle.iox_wire_request_sends.proofs.StepLemmas.{learned, next_by, tells_by}
use Rattle.iox_wire_request_sends.specs.Aims.{AreAimed, IsAimed, IsGettingBack, Knows, LeadsTo}
use Rattle.iox_wire_request_sends.specs.RequestDispatches.{RequestDispatch, delivery_to}
use Rattle.iox_wire_request_sends.specs.Targets.{ways_to, with_room}
use Rattle.iox_wire_request_sends.specs.contracts.requesting.Requesting.{the_view}
use Rattle.iox_wire_seats.specs.Keeps.{counted, got_back}
use Rattle.iox_wire_seats.specs.Lends.{MayLend}
use Rattle.iox_wire_seats.specs.Seats.{Placed}
use Rattle.iox_wire_request_sends.proofs.requesting.Requesting.get_back_on.Goals as goal

pub returns-clause-next : goal.returns-clause-next
returns-clause-next c p aim =
    let local : (the_view c.self.inside).local ≡ SendGetsBack (delivery_to c.self.inside.loan c.self.inside.copied c.self.inside.targets.all) (request_way c.self.inside.loan.port c.self.inside.target.server) c.self.inside.pusher (ways_to c.self.inside.loan.port (with_room c.self.inside.full.items c.self.inside.targets.left)) c.self.inside.count = it_gets_back c.self.inside.at _ (subst (λ (r : RequestDispatch). IsGettingBack r.local) (sym c.self.view_is) c.requires.there) in
    let aimed : AreAimed p c.args.seat.now.seat (SendGetsBack (delivery_to c.self.inside.loan c.self.inside.copied c.self.inside.targets.all) (request_way c.self.inside.loan.port c.self.inside.target.server) c.self.inside.pusher (ways_to c.self.inside.loan.port (with_room c.self.inside.full.items c.self.inside.targets.left)) c.self.inside.count) (the_view c.self.inside) =
    subst (λ (l : Local). AreAimed p c.args.seat.now.seat l (the_view c.self.inside)) local (subst (IsAimed p c.args.seat.now.seat) (sym c.self.view_is) aim) in
    let seat : c.get_back.new.self ≡ got_back (counted c.args.seat.now) c.self.inside.loan.port (request_way c.self.inside.loan.port c.self.inside.target.server) c.in-Learn.slot = c.get_back.ensures ∙ ap₂ (λ (y : Placed) (w : Way). got_back y c.self.inside.loan.port w c.in-Learn.slot) c.count_access.ensures c.way.ensures in
    let knows : Knows p c.get_back.new.self.seat (the_view (record (c.self.inside) { pusher = c.advance.new.self; last = None })) =
    subst (λ (y : Placed). Knows p y.seat (the_view (record (c.self.inside) { pusher = c.advance.new.self; last = None }))) (sym seat)
    (record { told = aimed.0.told; targets = aimed.0.targets; left = aimed.0.left; number = aimed.0.number }) in
    let leads : LeadsTo p (delivering (at_desk (accessed c.args.seat.now.seat) c.self.inside.loan.port (gets_back (request_way c.self.inside.loan.port c.self.inside.target.server) c.in-Learn.slot)) (delivery_to c.self.inside.loan c.self.inside.copied c.self.inside.targets.all) None (ways_to c.self.inside.loan.port (with_room c.self.inside.full.items c.self.inside.targets.left)) c.self.inside.count) c.deliver_next.new.seat c.deliver_next.new.self c.deliver_next.result =
    leads_as p _ _ _ _ _ (ap (λ (y : Placed). delivering y.seat (delivery_to c.self.inside.loan c.self.inside.copied c.self.inside.targets.all) None (ways_to c.self.inside.loan.port (with_room c.self.inside.full.items c.self.inside.targets.left)) c.self.inside.count) (sym seat)) (c.deliver_next.ensures.next p knows) in
    next_by p c.args.seat.now.seat (delivering (at_desk (accessed c.args.seat.now.seat) c.self.inside.loan.port (gets_back (request_way c.self.inside.loan.port c.self.inside.target.server) c.in-Learn.slot)) (delivery_to c.self.inside.loan c.self.inside.copied c.self.inside.targets.all) None (ways_to c.self.inside.loan.port (with_room c.self.inside.full.items c.self.inside.targets.left)) c.self.inside.count) (SendGetsBack (delivery_to c.self.inside.loan c.self.inside.copied c.self.inside.targets.all) (request_way c.self.inside.loan.port c.self.inside.target.server) c.self.inside.pusher (ways_to c.self.inside.loan.port (with_room c.self.inside.full.items c.self.inside.targets.left)) c.self.inside.count) c.args.seen c.deliver_next.new.seat c.deliver_next.new.self c.deliver_next.result
    (learned p c.args.seat.now.seat (delivery_to c.self.inside.loan c.self.inside.copied c.self.inside.targets.all) (request_way c.self.inside.loan.port c.self.inside.target.server) c.self.inside.pusher (ways_to c.self.inside.loan.port (with_room c.self.inside.full.items c.self.inside.targets.left)) c.self.inside.count c.self.inside.site c.args.seen c.in-Learn.slot aimed.1 (sym c.advance.ensures.event ∙ c.in-Learn.is)) leads
    ∙ ap (λ (l : Local). next p (placed c.args.seat.now.seat l) c.args.seen) (sym local ∙ ap (λ (r : RequestDispatch). r.local) c.self.view_is)

pub returns-clause-over : goal.returns-clause-over
returns-clause-over c p aim =
    let local : (the_view c.self.inside).local ≡ SendGetsBack (delivery_to c.self.inside.loan c.self.inside.copied c.self.inside.targets.all) (request_way c.self.inside.loan.port c.self.inside.target.server) c.self.inside.pusher (ways_to c.self.inside.loan.port (with_room c.self.inside.full.items c.self.inside.targets.left)) c.self.inside.count = it_gets_back c.self.inside.at _ (subst (λ (r : RequestDispatch). IsGettingBack r.local) (sym c.self.view_is) c.requires.there) in
    let aimed : AreAimed p c.args.seat.now.seat (SendGetsBack (delivery_to c.self.inside.loan c.self.inside.copied c.self.inside.targets.all) (request_way c.self.inside.loan.port c.self.inside.target.server) c.self.inside.pusher (ways_to c.self.inside.loan.port (with_room c.self.inside.full.items c.self.inside.targets.left)) c.self.inside.count) (the_view c.self.inside) =
    subst (λ (l : Local). AreAimed p c.args.seat.now.seat l (the_view c.self.inside)) local (subst (IsAimed p c.args.seat.now.seat) (sym c.self.view_is) aim) in
    let seat : c.get_back.new.self ≡ got_back (counted c.args.seat.now) c.self.inside.loan.port (request_way c.self.inside.loan.port c.self.inside.target.server) c.in-Learn.slot = c.get_back.ensures ∙ ap₂ (λ (y : Placed) (w : Way). got_back y c.self.inside.loan.port w c.in-Learn.slot) c.count_access.ensures c.way.ensures in
    let knows : Knows p c.get_back.new.self.seat (the_view (record (c.self.inside) { pusher = c.advance.new.self; last = None })) =
    subst (λ (y : Placed). Knows p y.seat (the_view (record (c.self.inside) { pusher = c.advance.new.self; last = None }))) (sym seat)
    (record { told = aimed.0.told; targets = aimed.0.targets; left = aimed.0.left; number = aimed.0.number }) in
    let leads : LeadsTo p (delivering (at_desk (accessed c.args.seat.now.seat) c.self.inside.loan.port (gets_back (request_way c.self.inside.loan.port c.self.inside.target.server) c.in-Learn.slot)) (delivery_to c.self.inside.loan c.self.inside.copied c.self.inside.targets.all) None (ways_to c.self.inside.loan.port (with_room c.self.inside.full.items c.self.inside.targets.left)) c.self.inside.count) c.deliver_next.new.seat c.deliver_next.new.self c.deliver_next.result =
    leads_as p _ _ _ _ _ (ap (λ (y : Placed). delivering y.seat (delivery_to c.self.inside.loan c.self.inside.copied c.self.inside.targets.all) None (ways_to c.self.inside.loan.port (with_room c.self.inside.full.items c.self.inside.targets.left)) c.self.inside.count) (sym seat)) (c.deliver_next.ensures.next p knows) in
    ap (λ (l : Local). tells p (placed c.args.seat.now.seat l) c.args.seen) (ap (λ (r : RequestDispatch). r.local) (sym c.self.view_is) ∙ local)
    ∙ tells_by p c.args.seat.now.seat (delivering (at_desk (accessed c.args.seat.now.seat) c.self.inside.loan.port (gets_back (request_way c.self.inside.loan.port c.self.inside.target.server) c.in-Learn.slot)) (delivery_to c.self.inside.loan c.self.inside.copied c.self.inside.targets.all) None (ways_to c.self.inside.loan.port (with_room c.self.inside.full.items c.self.inside.targets.left)) c.self.inside.count) (SendGetsBack (delivery_to c.self.inside.loan c.self.inside.copied c.self.inside.targets.all) (request_way c.self.inside.loan.port c.self.inside.target.server) c.self.inside.pusher (ways_to c.self.inside.loan.port (with_room c.self.inside.full.items c.self.inside.targets.left)) c.self.inside.count) c.args.seen c.deliver_next.new.seat c.deliver_next.new.self c.deliver_next.result
    (learned p c.args.seat.now.seat (delivery_to c.self.inside.loan c.self.inside.copied c.self.inside.targets.all) (request_way c.self.inside.loan.port c.self.inside.target.server) c.self.inside.pusher (ways_to c.self.inside.loan.port (with_room c.self.inside.full.items c.self.inside.targets.left)) c.self.inside.count c.self.inside.site c.args.seen c.in-Learn.slot aimed.1 (sym c.advance.ensures.event ∙ c.in-Learn.is)) leads

pub returns-clause-aimed : goal.returns-clause-aimed
returns-clause-aimed c p aim =
    let local : (the_view c.self.inside).local ≡ SendGetsBack (delivery_to c.self.inside.loan c.self.inside.copied c.self.inside.targets.all) (request_way c.self.inside.loan.port c.self.inside.target.server) c.self.inside.pusher (ways_to c.self.inside.loan.port (with_room c.self.inside.full.items c.self.inside.targets.left)) c.self.inside.count = it_gets_back c.self.inside.at _ (subst (λ (r : RequestDispatch). IsGettingBack r.local) (sym c.self.view_is) c.requires.there) in
    let aimed : AreAimed p c.args.seat.now.seat (SendGetsBack (delivery_to c.self.inside.loan c.self.inside.copied c.self.inside.targets.all) (request_way c.self.inside.loan.port c.self.inside.target.server) c.self.inside.pusher (ways_to c.self.inside.loan.port (with_room c.self.inside.full.items c.self.inside.targets.left)) c.self.inside.count) (the_view c.self.inside) =
    subst (λ (l : Local). AreAimed p c.args.seat.now.seat l (the_view c.self.inside)) local (subst (IsAimed p c.args.seat.now.seat) (sym c.self.view_is) aim) in
    let seat : c.get_back.new.self ≡ got_back (counted c.args.seat.now) c.self.inside.loan.port (request_way c.self.inside.loan.port c.self.inside.target.server) c.in-Learn.slot = c.get_back.ensures ∙ ap₂ (λ (y : Placed) (w : Way). got_back y c.self.inside.loan.port w c.in-Learn.slot) c.count_access.ensures c.way.ensures in
    let knows : Knows p c.get_back.new.self.seat (the_view (record (c.self.inside) { pusher = c.advance.new.self; last = None })) =
    subst (λ (y : Placed). Knows p y.seat (the_view (record (c.self.inside) { pusher = c.advance.new.self; last = None }))) (sym seat)
    (record { told = aimed.0.told; targets = aimed.0.targets; left = aimed.0.left; number = aimed.0.number }) in
    let leads : LeadsTo p (delivering (at_desk (accessed c.args.seat.now.seat) c.self.inside.loan.port (gets_back (request_way c.self.inside.loan.port c.self.inside.target.server) c.in-Learn.slot)) (delivery_to c.self.inside.loan c.self.inside.copied c.self.inside.targets.all) None (ways_to c.self.inside.loan.port (with_room c.self.inside.full.items c.self.inside.targets.left)) c.self.inside.count) c.deliver_next.new.seat c.deliver_next.new.self c.deliver_next.result =
    leads_as p _ _ _ _ _ (ap (λ (y : Placed). delivering y.seat (delivery_to c.self.inside.loan c.self.inside.copied c.self.inside.targets.all) None (ways_to c.self.inside.loan.port (with_room c.self.inside.full.items c.self.inside.targets.left)) c.self.inside.count) (sym seat)) (c.deliver_next.ensures.next p knows) in
    leads.aimed

pub deliver_next-requires-clause-made : goal.deliver_next-requires-clause-made
deliver_next-requires-clause-made c own =
    subst (λ (y : Placed). MayLend y c.self.inside.loan.number c.self.inside.loan.port) (sym c.get_back.ensures)
    (lends_after_got_back c.count_access.new.self c.self.inside.loan.port c.way.result c.in-Learn.slot c.self.inside.loan.number c.self.inside.loan.port
    (subst (λ (y : Placed). MayLend y c.self.inside.loan.number c.self.inside.loan.port) (sym c.count_access.ensures)
    (lends_counted c.args.seat.now c.self.inside.loan.number c.self.inside.loan.port (subst (λ (r : RequestDispatch). r.copied ≡ true → MayLend c.args.seat.now r.loan.number r.loan.port) (sym c.self.view_is) c.requires.may.made own))))
