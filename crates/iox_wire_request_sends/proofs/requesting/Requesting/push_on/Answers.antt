use Rattle.std.proofs.Common.{◌≡◌, ◌+◌, true, None, Some, ap, ap₂, sym, subst, ◌∙◌}
use Rattle.iox_model.specs.Messages.{request_way}
use Rattle.iox_model.specs.declared.way.Way.{Way}
use Rattle.iox_wire_loans.proofs.LoanLemmas.{lends_counted}
use Rattle.iox_wire_locals.specs.Courses.{delivering, placed}
use Rattle.iox_wire_locals.specs.Desks.{at_desk, delivers}
use Rattle.iox_wire_locals.specs.Steps.{accessed, next, tells}
use Rattle.iox_wire_locals.specs.declared.local.Local.{Local}
use Rattle.iox_wire_locals.specs.declared.local.Local.TheVariants.{SendPushes}
use Rattle.iox_wire_request_sends.proofs.LeadLemmas.{leads_as, lends_after_delivered}
use Rattle.iox_wire_request_sends.proofs.PlaceLemmas.{it_pushes}
use Rattle.iox_wire_request_sends.proofs.StepLemmas.{next_by, published, tells_by}
use Rattle.iox_wire_request_sends.specs.Aims.{AreAimed, IsAimed, IsPushing, Knows, LeadsTo}
use Rattle.iox_wire_request_sends.specs.RequestDispatches.{RequestDispatch, delivery_to}
use Rattle.iox_wire_request_sends.specs.Targets.{ways_to, with_room}
use Rattle.iox_wire_request_sends.specs.contracts.requesting.Requesting.{the_view}
use Rattle.iox_wire_seats.specs.Keeps.{counted, delivered}
use Rattle.iox_wire_seats.specs.Lends.{MayLend}
use Rattle.iox_wire_seats.specs.Seats.{Placed}
use Rattle.std.specs.Prelude.{Option, if◌then◌else◌}
use Rattle.iox_wire_request_sends.specs.declared.at.RequestAt.TheVariants as names
use Rattle.iox_wire_request_sends.proofs.requesting.Requesting.push_on.Goals as goal

pub returns-then-is_at_rest-clause-next : goal.returns-then-is_at_rest-clause-next
returns-then-is_at_rest-clause-next c p aim =
    let local : (the_view c.self.inside).local ≡ SendPushes (delivery_to c.self.inside.loan c.self.inside.copied c.self.inside.targets.all) c.self.inside.last (request_way c.self.inside.loan.port c.self.inside.target.server) c.self.inside.pusher (ways_to c.self.inside.loan.port (with_room c.self.inside.full.items c.self.inside.targets.left)) c.self.inside.count = it_pushes c.self.inside.at _ (subst (λ (r : RequestDispatch). IsPushing r.local) (sym c.self.view_is) c.requires.there) in
    let aimed : AreAimed p c.args.seat.now.seat (SendPushes (delivery_to c.self.inside.loan c.self.inside.copied c.self.inside.targets.all) c.self.inside.last (request_way c.self.inside.loan.port c.self.inside.target.server) c.self.inside.pusher (ways_to c.self.inside.loan.port (with_room c.self.inside.full.items c.self.inside.targets.left)) c.self.inside.count) (the_view c.self.inside) =
    subst (λ (l : Local). AreAimed p c.args.seat.now.seat l (the_view c.self.inside)) local (subst (IsAimed p c.args.seat.now.seat) (sym c.self.view_is) aim) in
    let seat : c.deliver.new.self ≡ delivered (counted c.args.seat.now) c.self.inside.loan.port (request_way c.self.inside.loan.port c.self.inside.target.server) c.in-Publish.slot = c.deliver.ensures ∙ ap₂ (λ (y : Placed) (w : Way). delivered y c.self.inside.loan.port w c.in-Publish.slot) c.count_access.ensures c.way.ensures in
    let knows : Knows p c.deliver.new.self.seat (the_view (record (c.self.inside) { at = names.Evicts; pusher = c.advance.new.self; count = c.self.inside.count + 1; last = c.may_evict-self-inside.result })) =
    subst (λ (y : Placed). Knows p y.seat (the_view (record (c.self.inside) { at = names.Evicts; pusher = c.advance.new.self; count = c.self.inside.count + 1; last = c.may_evict-self-inside.result }))) (sym seat)
    (record { told = aimed.0.told; targets = aimed.0.targets; left = aimed.0.left; number = aimed.0.number }) in
    let leads : LeadsTo p (delivering (at_desk (accessed c.args.seat.now.seat) c.self.inside.loan.port (delivers (request_way c.self.inside.loan.port c.self.inside.target.server) c.in-Publish.slot)) (delivery_to c.self.inside.loan c.self.inside.copied c.self.inside.targets.all) (if c.self.inside.terms.overflow then Some (request_way c.self.inside.loan.port c.self.inside.target.server) else None) (ways_to c.self.inside.loan.port (with_room c.self.inside.full.items c.self.inside.targets.left)) (c.self.inside.count + 1)) c.deliver_next.new.seat c.deliver_next.new.self c.deliver_next.result =
    leads_as p _ _ _ _ _ (ap (λ (y : Placed). delivering y.seat (delivery_to c.self.inside.loan c.self.inside.copied c.self.inside.targets.all) (if c.self.inside.terms.overflow then Some (request_way c.self.inside.loan.port c.self.inside.target.server) else None) (ways_to c.self.inside.loan.port (with_room c.self.inside.full.items c.self.inside.targets.left)) (c.self.inside.count + 1)) (sym seat)
    ∙ ap (λ (last : Option Way). delivering c.deliver.new.self.seat (delivery_to c.self.inside.loan c.self.inside.copied c.self.inside.targets.all) last (ways_to c.self.inside.loan.port (with_room c.self.inside.full.items c.self.inside.targets.left)) (c.self.inside.count + 1)) (sym c.may_evict-self-inside.ensures)) (c.deliver_next.ensures.next p knows) in
    next_by p c.args.seat.now.seat (delivering (at_desk (accessed c.args.seat.now.seat) c.self.inside.loan.port (delivers (request_way c.self.inside.loan.port c.self.inside.target.server) c.in-Publish.slot)) (delivery_to c.self.inside.loan c.self.inside.copied c.self.inside.targets.all) (if c.self.inside.terms.overflow then Some (request_way c.self.inside.loan.port c.self.inside.target.server) else None) (ways_to c.self.inside.loan.port (with_room c.self.inside.full.items c.self.inside.targets.left)) (c.self.inside.count + 1)) (SendPushes (delivery_to c.self.inside.loan c.self.inside.copied c.self.inside.targets.all) c.self.inside.last (request_way c.self.inside.loan.port c.self.inside.target.server) c.self.inside.pusher (ways_to c.self.inside.loan.port (with_room c.self.inside.full.items c.self.inside.targets.left)) c.self.inside.count) c.args.seen c.deliver_next.new.seat c.deliver_next.new.self c.deliver_next.result
    (published p c.args.seat.now.seat (delivery_to c.self.inside.loan c.self.inside.copied c.self.inside.targets.all) c.self.inside.last (request_way c.self.inside.loan.port c.self.inside.target.server) c.self.inside.pusher c.advance.new.self (ways_to c.self.inside.loan.port (with_room c.self.inside.full.items c.self.inside.targets.left)) c.self.inside.count c.self.inside.site c.args.seen c.in-Publish.slot c.self.inside.terms.overflow aimed.1 (sym c.advance.ensures.event ∙ c.in-Publish.is) c.advance.ensures.place (sym c.is_at_rest.ensures ∙ c.if-is_at_rest.true) (aimed.0.told.overflow (at_desk (accessed c.args.seat.now.seat) c.self.inside.loan.port (delivers (request_way c.self.inside.loan.port c.self.inside.target.server) c.in-Publish.slot)))) leads
    ∙ ap (λ (l : Local). next p (placed c.args.seat.now.seat l) c.args.seen) (sym local ∙ ap (λ (r : RequestDispatch). r.local) c.self.view_is)

pub returns-then-is_at_rest-clause-over : goal.returns-then-is_at_rest-clause-over
returns-then-is_at_rest-clause-over c p aim =
    let local : (the_view c.self.inside).local ≡ SendPushes (delivery_to c.self.inside.loan c.self.inside.copied c.self.inside.targets.all) c.self.inside.last (request_way c.self.inside.loan.port c.self.inside.target.server) c.self.inside.pusher (ways_to c.self.inside.loan.port (with_room c.self.inside.full.items c.self.inside.targets.left)) c.self.inside.count = it_pushes c.self.inside.at _ (subst (λ (r : RequestDispatch). IsPushing r.local) (sym c.self.view_is) c.requires.there) in
    let aimed : AreAimed p c.args.seat.now.seat (SendPushes (delivery_to c.self.inside.loan c.self.inside.copied c.self.inside.targets.all) c.self.inside.last (request_way c.self.inside.loan.port c.self.inside.target.server) c.self.inside.pusher (ways_to c.self.inside.loan.port (with_room c.self.inside.full.items c.self.inside.targets.left)) c.self.inside.count) (the_view c.self.inside) =
    subst (λ (l : Local). AreAimed p c.args.seat.now.seat l (the_view c.self.inside)) local (subst (IsAimed p c.args.seat.now.seat) (sym c.self.view_is) aim) in
    let seat : c.deliver.new.self ≡ delivered (counted c.args.seat.now) c.self.inside.loan.port (request_way c.self.inside.loan.port c.self.inside.target.server) c.in-Publish.slot = c.deliver.ensures ∙ ap₂ (λ (y : Placed) (w : Way). delivered y c.self.inside.loan.port w c.in-Publish.slot) c.count_access.ensures c.way.ensures in
    let knows : Knows p c.deliver.new.self.seat (the_view (record (c.self.inside) { at = names.Evicts; pusher = c.advance.new.self; count = c.self.inside.count + 1; last = c.may_evict-self-inside.result })) =
    subst (λ (y : Placed). Knows p y.seat (the_view (record (c.self.inside) { at = names.Evicts; pusher = c.advance.new.self; count = c.self.inside.count + 1; last = c.may_evict-self-inside.result }))) (sym seat)
    (record { told = aimed.0.told; targets = aimed.0.targets; left = aimed.0.left; number = aimed.0.number }) in
    let leads : LeadsTo p (delivering (at_desk (accessed c.args.seat.now.seat) c.self.inside.loan.port (delivers (request_way c.self.inside.loan.port c.self.inside.target.server) c.in-Publish.slot)) (delivery_to c.self.inside.loan c.self.inside.copied c.self.inside.targets.all) (if c.self.inside.terms.overflow then Some (request_way c.self.inside.loan.port c.self.inside.target.server) else None) (ways_to c.self.inside.loan.port (with_room c.self.inside.full.items c.self.inside.targets.left)) (c.self.inside.count + 1)) c.deliver_next.new.seat c.deliver_next.new.self c.deliver_next.result =
    leads_as p _ _ _ _ _ (ap (λ (y : Placed). delivering y.seat (delivery_to c.self.inside.loan c.self.inside.copied c.self.inside.targets.all) (if c.self.inside.terms.overflow then Some (request_way c.self.inside.loan.port c.self.inside.target.server) else None) (ways_to c.self.inside.loan.port (with_room c.self.inside.full.items c.self.inside.targets.left)) (c.self.inside.count + 1)) (sym seat)
    ∙ ap (λ (last : Option Way). delivering c.deliver.new.self.seat (delivery_to c.self.inside.loan c.self.inside.copied c.self.inside.targets.all) last (ways_to c.self.inside.loan.port (with_room c.self.inside.full.items c.self.inside.targets.left)) (c.self.inside.count + 1)) (sym c.may_evict-self-inside.ensures)) (c.deliver_next.ensures.next p knows) in
    ap (λ (l : Local). tells p (placed c.args.seat.now.seat l) c.args.seen) (ap (λ (r : RequestDispatch). r.local) (sym c.self.view_is) ∙ local)
    ∙ tells_by p c.args.seat.now.seat (delivering (at_desk (accessed c.args.seat.now.seat) c.self.inside.loan.port (delivers (request_way c.self.inside.loan.port c.self.inside.target.server) c.in-Publish.slot)) (delivery_to c.self.inside.loan c.self.inside.copied c.self.inside.targets.all) (if c.self.inside.terms.overflow then Some (request_way c.self.inside.loan.port c.self.inside.target.server) else None) (ways_to c.self.inside.loan.port (with_room c.self.inside.full.items c.self.inside.targets.left)) (c.self.inside.count + 1)) (SendPushes (delivery_to c.self.inside.loan c.self.inside.copied c.self.inside.targets.all) c.self.inside.last (request_way c.self.inside.loan.port c.self.inside.target.server) c.self.inside.pusher (ways_to c.self.inside.loan.port (with_room c.self.inside.full.items c.self.inside.targets.left)) c.self.inside.count) c.args.seen c.deliver_next.new.seat c.deliver_next.new.self c.deliver_next.result
    (published p c.args.seat.now.seat (delivery_to c.self.inside.loan c.self.inside.copied c.self.inside.targets.all) c.self.inside.last (request_way c.self.inside.loan.port c.self.inside.target.server) c.self.inside.pusher c.advance.new.self (ways_to c.self.inside.loan.port (with_room c.self.inside.full.items c.self.inside.targets.left)) c.self.inside.count c.self.inside.site c.args.seen c.in-Publish.slot c.self.inside.terms.overflow aimed.1 (sym c.advance.ensures.event ∙ c.in-Publish.is) c.advance.ensures.place (sym c.is_at_rest.ensures ∙ c.if-is_at_rest.true) (aimed.0.told.overflow (at_desk (accessed c.args.seat.now.seat) c.self.inside.loan.port (delivers (request_way c.self.inside.loan.port c.self.inside.target.server) c.in-Publish.slot)))) leads

pub returns-then-is_at_rest-clause-aimed : goal.returns-then-is_at_rest-clause-aimed
returns-then-is_at_rest-clause-aimed c p aim =
    let local : (the_view c.self.inside).local ≡ SendPushes (delivery_to c.self.inside.loan c.self.inside.copied c.self.inside.targets.all) c.self.inside.last (request_way c.self.inside.loan.port c.self.inside.target.server) c.self.inside.pusher (ways_to c.self.inside.loan.port (with_room c.self.inside.full.items c.self.inside.targets.left)) c.self.inside.count = it_pushes c.self.inside.at _ (subst (λ (r : RequestDispatch). IsPushing r.local) (sym c.self.view_is) c.requires.there) in
    let aimed : AreAimed p c.args.seat.now.seat (SendPushes (delivery_to c.self.inside.loan c.self.inside.copied c.self.inside.targets.all) c.self.inside.last (request_way c.self.inside.loan.port c.self.inside.target.server) c.self.inside.pusher (ways_to c.self.inside.loan.port (with_room c.self.inside.full.items c.self.inside.targets.left)) c.self.inside.count) (the_view c.self.inside) =
    subst (λ (l : Local). AreAimed p c.args.seat.now.seat l (the_view c.self.inside)) local (subst (IsAimed p c.args.seat.now.seat) (sym c.self.view_is) aim) in
    let seat : c.deliver.new.self ≡ delivered (counted c.args.seat.now) c.self.inside.loan.port (request_way c.self.inside.loan.port c.self.inside.target.server) c.in-Publish.slot = c.deliver.ensures ∙ ap₂ (λ (y : Placed) (w : Way). delivered y c.self.inside.loan.port w c.in-Publish.slot) c.count_access.ensures c.way.ensures in
    let knows : Knows p c.deliver.new.self.seat (the_view (record (c.self.inside) { at = names.Evicts; pusher = c.advance.new.self; count = c.self.inside.count + 1; last = c.may_evict-self-inside.result })) =
    subst (λ (y : Placed). Knows p y.seat (the_view (record (c.self.inside) { at = names.Evicts; pusher = c.advance.new.self; count = c.self.inside.count + 1; last = c.may_evict-self-inside.result }))) (sym seat)
    (record { told = aimed.0.told; targets = aimed.0.targets; left = aimed.0.left; number = aimed.0.number }) in
    let leads : LeadsTo p (delivering (at_desk (accessed c.args.seat.now.seat) c.self.inside.loan.port (delivers (request_way c.self.inside.loan.port c.self.inside.target.server) c.in-Publish.slot)) (delivery_to c.self.inside.loan c.self.inside.copied c.self.inside.targets.all) (if c.self.inside.terms.overflow then Some (request_way c.self.inside.loan.port c.self.inside.target.server) else None) (ways_to c.self.inside.loan.port (with_room c.self.inside.full.items c.self.inside.targets.left)) (c.self.inside.count + 1)) c.deliver_next.new.seat c.deliver_next.new.self c.deliver_next.result =
    leads_as p _ _ _ _ _ (ap (λ (y : Placed). delivering y.seat (delivery_to c.self.inside.loan c.self.inside.copied c.self.inside.targets.all) (if c.self.inside.terms.overflow then Some (request_way c.self.inside.loan.port c.self.inside.target.server) else None) (ways_to c.self.inside.loan.port (with_room c.self.inside.full.items c.self.inside.targets.left)) (c.self.inside.count + 1)) (sym seat)
    ∙ ap (λ (last : Option Way). delivering c.deliver.new.self.seat (delivery_to c.self.inside.loan c.self.inside.copied c.self.inside.targets.all) last (ways_to c.self.inside.loan.port (with_room c.self.inside.full.items c.self.inside.targets.left)) (c.self.inside.count + 1)) (sym c.may_evict-self-inside.ensures)) (c.deliver_next.ensures.next p knows) in
    leads.aimed

pub deliver_next-requires-clause-made : goal.deliver_next-requires-clause-made
deliver_next-requires-clause-made c own =
    subst (λ (y : Placed). MayLend y c.self.inside.loan.number c.self.inside.loan.port) (sym c.deliver.ensures)
    (lends_after_delivered c.count_access.new.self c.self.inside.loan.port c.way.result c.in-Publish.slot c.self.inside.loan.number c.self.inside.loan.port
    (subst (λ (y : Placed). MayLend y c.self.inside.loan.number c.self.inside.loan.port) (sym c.count_access.ensures)
    (lends_counted c.args.seat.now c.self.inside.loan.number c.self.inside.loan.port (subst (λ (r : RequestDispatch). r.copied ≡ true → MayLend c.args.seat.now r.loan.number r.loan.port) (sym c.self.view_is) c.requires.may.made own))))
