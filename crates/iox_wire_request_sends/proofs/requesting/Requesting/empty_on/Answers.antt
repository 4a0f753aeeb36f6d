use Rattle.std.proofs.Common.{◌≡◌, ap, sym, subst, ◌∙◌}
use Rattle.iox_model.specs.Messages.{request_way}
use Rattle.iox_wire_locals.specs.Courses.{emptying, placed}
use Rattle.iox_wire_locals.specs.Steps.{accessed, next, tells}
use Rattle.iox_wire_locals.specs.declared.local.Local.{Local}
use Rattle.iox_wire_locals.specs.declared.local.Local.TheVariants.{SendEmpties}
use Rattle.iox_wire_request_sends.proofs.LeadLemmas.{leads_as}
use Rattle.iox_wire_request_sends.proofs.PlaceLemmas.{it_empties}
use Rattle.iox_wire_request_sends.proofs.StepLemmas.{emptied, next_by, tells_by}
use Rattle.iox_wire_request_sends.specs.Aims.{AreAimed, IsAimed, IsEmptying, Knows, LeadsTo}
use Rattle.iox_wire_request_sends.specs.RequestDispatches.{RequestDispatch, delivery_to}
use Rattle.iox_wire_request_sends.specs.Targets.{ways_to}
use Rattle.iox_wire_request_sends.specs.contracts.requesting.Requesting.{the_view}
use Rattle.iox_wire_seats.specs.Keeps.{counted}
use Rattle.iox_wire_seats.specs.Seats.{Placed}
use Rattle.iox_wire_request_sends.proofs.requesting.Requesting.empty_on.Goals as goal

pub returns-in-SeesEmpty-clause-next : goal.returns-in-SeesEmpty-clause-next
returns-in-SeesEmpty-clause-next c p aim =
    let local : (the_view c.self.inside).local ≡ SendEmpties (delivery_to c.self.inside.loan c.self.inside.copied c.self.inside.targets.all) (request_way c.self.inside.loan.port c.self.inside.target.server) c.self.inside.popper (ways_to c.self.inside.loan.port c.self.inside.targets.left) = it_empties c.self.inside.at _ (subst (λ (r : RequestDispatch). IsEmptying r.local) (sym c.self.view_is) c.requires.there) in
    let aimed : AreAimed p c.args.seat.now.seat (SendEmpties (delivery_to c.self.inside.loan c.self.inside.copied c.self.inside.targets.all) (request_way c.self.inside.loan.port c.self.inside.target.server) c.self.inside.popper (ways_to c.self.inside.loan.port c.self.inside.targets.left)) (the_view c.self.inside) =
    subst (λ (l : Local). AreAimed p c.args.seat.now.seat l (the_view c.self.inside)) local (subst (IsAimed p c.args.seat.now.seat) (sym c.self.view_is) aim) in
    let seat : c.count_access.new.self ≡ counted c.args.seat.now = c.count_access.ensures in
    let knows : Knows p c.count_access.new.self.seat (the_view (record (c.self.inside) { popper = c.advance.new.self })) =
    subst (λ (y : Placed). Knows p y.seat (the_view (record (c.self.inside) { popper = c.advance.new.self }))) (sym seat)
    (record { told = aimed.0.told; targets = aimed.0.targets; left = aimed.0.left; number = aimed.0.number }) in
    let leads : LeadsTo p (emptying p (accessed c.args.seat.now.seat) (delivery_to c.self.inside.loan c.self.inside.copied c.self.inside.targets.all) (ways_to c.self.inside.loan.port c.self.inside.targets.left)) c.empty_next.new.seat c.empty_next.new.self c.empty_next.result =
    leads_as p _ _ _ _ _ (ap (λ (y : Placed). emptying p y.seat (delivery_to c.self.inside.loan c.self.inside.copied c.self.inside.targets.all) (ways_to c.self.inside.loan.port c.self.inside.targets.left)) (sym seat)) (c.empty_next.ensures.next p knows) in
    next_by p c.args.seat.now.seat (emptying p (accessed c.args.seat.now.seat) (delivery_to c.self.inside.loan c.self.inside.copied c.self.inside.targets.all) (ways_to c.self.inside.loan.port c.self.inside.targets.left)) (SendEmpties (delivery_to c.self.inside.loan c.self.inside.copied c.self.inside.targets.all) (request_way c.self.inside.loan.port c.self.inside.target.server) c.self.inside.popper (ways_to c.self.inside.loan.port c.self.inside.targets.left)) c.args.seen c.empty_next.new.seat c.empty_next.new.self c.empty_next.result
    (emptied p c.args.seat.now.seat (delivery_to c.self.inside.loan c.self.inside.copied c.self.inside.targets.all) (request_way c.self.inside.loan.port c.self.inside.target.server) c.self.inside.popper (ways_to c.self.inside.loan.port c.self.inside.targets.left) c.self.inside.site c.args.seen aimed.1 (sym c.advance.ensures.event ∙ c.in-SeesEmpty.is)) leads
    ∙ ap (λ (l : Local). next p (placed c.args.seat.now.seat l) c.args.seen) (sym local ∙ ap (λ (r : RequestDispatch). r.local) c.self.view_is)

pub returns-in-SeesEmpty-clause-over : goal.returns-in-SeesEmpty-clause-over
returns-in-SeesEmpty-clause-over c p aim =
    let local : (the_view c.self.inside).local ≡ SendEmpties (delivery_to c.self.inside.loan c.self.inside.copied c.self.inside.targets.all) (request_way c.self.inside.loan.port c.self.inside.target.server) c.self.inside.popper (ways_to c.self.inside.loan.port c.self.inside.targets.left) = it_empties c.self.inside.at _ (subst (λ (r : RequestDispatch). IsEmptying r.local) (sym c.self.view_is) c.requires.there) in
    let aimed : AreAimed p c.args.seat.now.seat (SendEmpties (delivery_to c.self.inside.loan c.self.inside.copied c.self.inside.targets.all) (request_way c.self.inside.loan.port c.self.inside.target.server) c.self.inside.popper (ways_to c.self.inside.loan.port c.self.inside.targets.left)) (the_view c.self.inside) =
    subst (λ (l : Local). AreAimed p c.args.seat.now.seat l (the_view c.self.inside)) local (subst (IsAimed p c.args.seat.now.seat) (sym c.self.view_is) aim) in
    let seat : c.count_access.new.self ≡ counted c.args.seat.now = c.count_access.ensures in
    let knows : Knows p c.count_access.new.self.seat (the_view (record (c.self.inside) { popper = c.advance.new.self })) =
    subst (λ (y : Placed). Knows p y.seat (the_view (record (c.self.inside) { popper = c.advance.new.self }))) (sym seat)
    (record { told = aimed.0.told; targets = aimed.0.targets; left = aimed.0.left; number = aimed.0.number }) in
    let leads : LeadsTo p (emptying p (accessed c.args.seat.now.seat) (delivery_to c.self.inside.loan c.self.inside.copied c.self.inside.targets.all) (ways_to c.self.inside.loan.port c.self.inside.targets.left)) c.empty_next.new.seat c.empty_next.new.self c.empty_next.result =
    leads_as p _ _ _ _ _ (ap (λ (y : Placed). emptying p y.seat (delivery_to c.self.inside.loan c.self.inside.copied c.self.inside.targets.all) (ways_to c.self.inside.loan.port c.self.inside.targets.left)) (sym seat)) (c.empty_next.ensures.next p knows) in
    ap (λ (l : Local). tells p (placed c.args.seat.now.seat l) c.args.seen) (ap (λ (r : RequestDispatch). r.local) (sym c.self.view_is) ∙ local)
    ∙ tells_by p c.args.seat.now.seat (emptying p (accessed c.args.seat.now.seat) (delivery_to c.self.inside.loan c.self.inside.copied c.self.inside.targets.all) (ways_to c.self.inside.loan.port c.self.inside.targets.left)) (SendEmpties (delivery_to c.self.inside.loan c.self.inside.copied c.self.inside.targets.all) (request_way c.self.inside.loan.port c.self.inside.target.server) c.self.inside.popper (ways_to c.self.inside.loan.port c.self.inside.targets.left)) c.args.seen c.empty_next.new.seat c.empty_next.new.self c.empty_next.result
    (emptied p c.args.seat.now.seat (delivery_to c.self.inside.loan c.self.inside.copied c.self.inside.targets.all) (request_way c.self.inside.loan.port c.self.inside.target.server) c.self.inside.popper (ways_to c.self.inside.loan.port c.self.inside.targets.left) c.self.inside.site c.args.seen aimed.1 (sym c.advance.ensures.event ∙ c.in-SeesEmpty.is)) leads

pub returns-in-SeesEmpty-clause-aimed : goal.returns-in-SeesEmpty-clause-aimed
returns-in-SeesEmpty-clause-aimed c p aim =
    let local : (the_view c.self.inside).local ≡ SendEmpties (delivery_to c.self.inside.loan c.self.inside.copied c.self.inside.targets.all) (request_way c.self.inside.loan.port c.self.inside.target.server) c.self.inside.popper (ways_to c.self.inside.loan.port c.self.inside.targets.left) = it_empties c.self.inside.at _ (subst (λ (r : RequestDispatch). IsEmptying r.local) (sym c.self.view_is) c.requires.there) in
    let aimed : AreAimed p c.args.seat.now.seat (SendEmpties (delivery_to c.self.inside.loan c.self.inside.copied c.self.inside.targets.all) (request_way c.self.inside.loan.port c.self.inside.target.server) c.self.inside.popper (ways_to c.self.inside.loan.port c.self.inside.targets.left)) (the_view c.self.inside) =
    subst (λ (l : Local). AreAimed p c.args.seat.now.seat l (the_view c.self.inside)) local (subst (IsAimed p c.args.seat.now.seat) (sym c.self.view_is) aim) in
    let seat : c.count_access.new.self ≡ counted c.args.seat.now = c.count_access.ensures in
    let knows : Knows p c.count_access.new.self.seat (the_view (record (c.self.inside) { popper = c.advance.new.self })) =
    subst (λ (y : Placed). Knows p y.seat (the_view (record (c.self.inside) { popper = c.advance.new.self }))) (sym seat)
    (record { told = aimed.0.told; targets = aimed.0.targets; left = aimed.0.left; number = aimed.0.number }) in
    let leads : LeadsTo p (emptying p (accessed c.args.seat.now.seat) (delivery_to c.self.inside.loan c.self.inside.copied c.self.inside.targets.all) (ways_to c.self.inside.loan.port c.self.inside.targets.left)) c.empty_next.new.seat c.empty_next.new.self c.empty_next.result =
    leads_as p _ _ _ _ _ (ap (λ (y : Placed). emptying p y.seat (delivery_to c.self.inside.loan c.self.inside.copied c.self.inside.targets.all) (ways_to c.self.inside.loan.port c.self.inside.targets.left)) (sym seat)) (c.empty_next.ensures.next p knows) in
    leads.aimed
