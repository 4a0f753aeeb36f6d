use Rattle.std.proofs.Common.{◌≡◌, true, ap, sym, subst, ◌∙◌}
use Rattle.iox_model.specs.Messages.{response_way}
use Rattle.iox_wire_locals.specs.Courses.{opening, placed}
use Rattle.iox_wire_locals.specs.Steps.{accessed, next, tells}
use Rattle.iox_wire_locals.specs.declared.local.Local.{Local}
use Rattle.iox_wire_locals.specs.declared.local.Local.TheVariants.{SendOpens}
use Rattle.iox_wire_request_sends.proofs.LeadLemmas.{leads_as}
use Rattle.iox_wire_request_sends.proofs.PlaceLemmas.{ending_known, ending_stays, ends_there, it_opens, opens_there}
use Rattle.iox_wire_request_sends.proofs.StepLemmas.{next_by, opened, tells_by}
use Rattle.iox_wire_request_sends.specs.Aims.{AreAimed, IsAimed, Knows, LeadsTo, is_ending}
use Rattle.iox_wire_request_sends.specs.RequestDispatches.{RequestDispatch, delivery_to}
use Rattle.iox_wire_request_sends.specs.Targets.{full_ways, states_to}
use Rattle.iox_wire_request_sends.specs.contracts.requesting.Requesting.{the_view}
use Rattle.iox_wire_seats.specs.Keeps.{counted}
use Rattle.iox_wire_seats.specs.Seats.{Placed}
use Rattle.iox_wire_request_sends.proofs.requesting.Requesting.go_on.Goals as goal

pub returns-in-Opens-clause-next : goal.returns-in-Opens-clause-next
returns-in-Opens-clause-next c p aim =
    let local : (the_view c.self.inside).local ≡ SendOpens (delivery_to c.self.inside.loan c.self.inside.copied c.self.inside.targets.all) (response_way c.self.inside.loan.port c.self.inside.loan.lane c.self.inside.target.server) (states_to c.self.inside.loan.port c.self.inside.loan.lane c.self.inside.targets.left) (full_ways c.self.inside.loan.port c.self.inside.full.items) = it_opens c.self.inside.at _ (opens_there c.self.inside.at _ c.in-Opens.is) in
    let aimed : AreAimed p c.args.seat.now.seat (SendOpens (delivery_to c.self.inside.loan c.self.inside.copied c.self.inside.targets.all) (response_way c.self.inside.loan.port c.self.inside.loan.lane c.self.inside.target.server) (states_to c.self.inside.loan.port c.self.inside.loan.lane c.self.inside.targets.left) (full_ways c.self.inside.loan.port c.self.inside.full.items)) (the_view c.self.inside) =
    subst (λ (l : Local). AreAimed p c.args.seat.now.seat l (the_view c.self.inside)) local (subst (IsAimed p c.args.seat.now.seat) (sym c.self.view_is) aim) in
    let seat : c.count_access-in-Opens.new.self ≡ counted c.args.seat.now = c.count_access-in-Opens.ensures in
    let knows : Knows p c.count_access-in-Opens.new.self.seat (the_view c.self.inside) =
    subst (λ (y : Placed). Knows p y.seat (the_view c.self.inside)) (sym seat)
    (record { told = aimed.0.told; targets = aimed.0.targets; left = aimed.0.left; number = aimed.0.number }) in
    let leads : LeadsTo p (opening p (accessed c.args.seat.now.seat) (delivery_to c.self.inside.loan c.self.inside.copied c.self.inside.targets.all) (states_to c.self.inside.loan.port c.self.inside.loan.lane c.self.inside.targets.left) (full_ways c.self.inside.loan.port c.self.inside.full.items)) c.open_next.new.seat c.open_next.new.self c.open_next.result =
    leads_as p _ _ _ _ _ (ap (λ (y : Placed). opening p y.seat (delivery_to c.self.inside.loan c.self.inside.copied c.self.inside.targets.all) (states_to c.self.inside.loan.port c.self.inside.loan.lane c.self.inside.targets.left) (full_ways c.self.inside.loan.port c.self.inside.full.items)) (sym seat)
    ∙ ap (λ (r : RequestDispatch). opening p c.count_access-in-Opens.new.self.seat (delivery_to r.loan r.copied r.targets) (states_to r.loan.port r.loan.lane r.left) (full_ways r.loan.port r.full)) c.self.view_is)
    (c.open_next.ensures.next p (subst (Knows p c.count_access-in-Opens.new.self.seat) c.self.view_is knows)) in
    next_by p c.args.seat.now.seat (opening p (accessed c.args.seat.now.seat) (delivery_to c.self.inside.loan c.self.inside.copied c.self.inside.targets.all) (states_to c.self.inside.loan.port c.self.inside.loan.lane c.self.inside.targets.left) (full_ways c.self.inside.loan.port c.self.inside.full.items)) (SendOpens (delivery_to c.self.inside.loan c.self.inside.copied c.self.inside.targets.all) (response_way c.self.inside.loan.port c.self.inside.loan.lane c.self.inside.target.server) (states_to c.self.inside.loan.port c.self.inside.loan.lane c.self.inside.targets.left) (full_ways c.self.inside.loan.port c.self.inside.full.items)) c.args.seen c.open_next.new.seat c.open_next.new.self c.open_next.result
    (opened p c.args.seat.now.seat (delivery_to c.self.inside.loan c.self.inside.copied c.self.inside.targets.all) (response_way c.self.inside.loan.port c.self.inside.loan.lane c.self.inside.target.server) (states_to c.self.inside.loan.port c.self.inside.loan.lane c.self.inside.targets.left) (full_ways c.self.inside.loan.port c.self.inside.full.items) c.args.seen) leads
    ∙ ap (λ (l : Local). next p (placed c.args.seat.now.seat l) c.args.seen) (sym local ∙ ap (λ (r : RequestDispatch). r.local) c.self.view_is)

pub returns-in-Opens-clause-over : goal.returns-in-Opens-clause-over
returns-in-Opens-clause-over c p aim =
    let local : (the_view c.self.inside).local ≡ SendOpens (delivery_to c.self.inside.loan c.self.inside.copied c.self.inside.targets.all) (response_way c.self.inside.loan.port c.self.inside.loan.lane c.self.inside.target.server) (states_to c.self.inside.loan.port c.self.inside.loan.lane c.self.inside.targets.left) (full_ways c.self.inside.loan.port c.self.inside.full.items) = it_opens c.self.inside.at _ (opens_there c.self.inside.at _ c.in-Opens.is) in
    let aimed : AreAimed p c.args.seat.now.seat (SendOpens (delivery_to c.self.inside.loan c.self.inside.copied c.self.inside.targets.all) (response_way c.self.inside.loan.port c.self.inside.loan.lane c.self.inside.target.server) (states_to c.self.inside.loan.port c.self.inside.loan.lane c.self.inside.targets.left) (full_ways c.self.inside.loan.port c.self.inside.full.items)) (the_view c.self.inside) =
    subst (λ (l : Local). AreAimed p c.args.seat.now.seat l (the_view c.self.inside)) local (subst (IsAimed p c.args.seat.now.seat) (sym c.self.view_is) aim) in
    let seat : c.count_access-in-Opens.new.self ≡ counted c.args.seat.now = c.count_access-in-Opens.ensures in
    let knows : Knows p c.count_access-in-Opens.new.self.seat (the_view c.self.inside) =
    subst (λ (y : Placed). Knows p y.seat (the_view c.self.inside)) (sym seat)
    (record { told = aimed.0.told; targets = aimed.0.targets; left = aimed.0.left; number = aimed.0.number }) in
    let leads : LeadsTo p (opening p (accessed c.args.seat.now.seat) (delivery_to c.self.inside.loan c.self.inside.copied c.self.inside.targets.all) (states_to c.self.inside.loan.port c.self.inside.loan.lane c.self.inside.targets.left) (full_ways c.self.inside.loan.port c.self.inside.full.items)) c.open_next.new.seat c.open_next.new.self c.open_next.result =
    leads_as p _ _ _ _ _ (ap (λ (y : Placed). opening p y.seat (delivery_to c.self.inside.loan c.self.inside.copied c.self.inside.targets.all) (states_to c.self.inside.loan.port c.self.inside.loan.lane c.self.inside.targets.left) (full_ways c.self.inside.loan.port c.self.inside.full.items)) (sym seat)
    ∙ ap (λ (r : RequestDispatch). opening p c.count_access-in-Opens.new.self.seat (delivery_to r.loan r.copied r.targets) (states_to r.loan.port r.loan.lane r.left) (full_ways r.loan.port r.full)) c.self.view_is)
    (c.open_next.ensures.next p (subst (Knows p c.count_access-in-Opens.new.self.seat) c.self.view_is knows)) in
    ap (λ (l : Local). tells p (placed c.args.seat.now.seat l) c.args.seen) (ap (λ (r : RequestDispatch). r.local) (sym c.self.view_is) ∙ local)
    ∙ tells_by p c.args.seat.now.seat (opening p (accessed c.args.seat.now.seat) (delivery_to c.self.inside.loan c.self.inside.copied c.self.inside.targets.all) (states_to c.self.inside.loan.port c.self.inside.loan.lane c.self.inside.targets.left) (full_ways c.self.inside.loan.port c.self.inside.full.items)) (SendOpens (delivery_to c.self.inside.loan c.self.inside.copied c.self.inside.targets.all) (response_way c.self.inside.loan.port c.self.inside.loan.lane c.self.inside.target.server) (states_to c.self.inside.loan.port c.self.inside.loan.lane c.self.inside.targets.left) (full_ways c.self.inside.loan.port c.self.inside.full.items)) c.args.seen c.open_next.new.seat c.open_next.new.self c.open_next.result
    (opened p c.args.seat.now.seat (delivery_to c.self.inside.loan c.self.inside.copied c.self.inside.targets.all) (response_way c.self.inside.loan.port c.self.inside.loan.lane c.self.inside.target.server) (states_to c.self.inside.loan.port c.self.inside.loan.lane c.self.inside.targets.left) (full_ways c.self.inside.loan.port c.self.inside.full.items) c.args.seen) leads

pub returns-in-Opens-clause-aimed : goal.returns-in-Opens-clause-aimed
returns-in-Opens-clause-aimed c p aim =
    let local : (the_view c.self.inside).local ≡ SendOpens (delivery_to c.self.inside.loan c.self.inside.copied c.self.inside.targets.all) (response_way c.self.inside.loan.port c.self.inside.loan.lane c.self.inside.target.server) (states_to c.self.inside.loan.port c.self.inside.loan.lane c.self.inside.targets.left) (full_ways c.self.inside.loan.port c.self.inside.full.items) = it_opens c.self.inside.at _ (opens_there c.self.inside.at _ c.in-Opens.is) in
    let aimed : AreAimed p c.args.seat.now.seat (SendOpens (delivery_to c.self.inside.loan c.self.inside.copied c.self.inside.targets.all) (response_way c.self.inside.loan.port c.self.inside.loan.lane c.self.inside.target.server) (states_to c.self.inside.loan.port c.self.inside.loan.lane c.self.inside.targets.left) (full_ways c.self.inside.loan.port c.self.inside.full.items)) (the_view c.self.inside) =
    subst (λ (l : Local). AreAimed p c.args.seat.now.seat l (the_view c.self.inside)) local (subst (IsAimed p c.args.seat.now.seat) (sym c.self.view_is) aim) in
    let seat : c.count_access-in-Opens.new.self ≡ counted c.args.seat.now = c.count_access-in-Opens.ensures in
    let knows : Knows p c.count_access-in-Opens.new.self.seat (the_view c.self.inside) =
    subst (λ (y : Placed). Knows p y.seat (the_view c.self.inside)) (sym seat)
    (record { told = aimed.0.told; targets = aimed.0.targets; left = aimed.0.left; number = aimed.0.number }) in
    let leads : LeadsTo p (opening p (accessed c.args.seat.now.seat) (delivery_to c.self.inside.loan c.self.inside.copied c.self.inside.targets.all) (states_to c.self.inside.loan.port c.self.inside.loan.lane c.self.inside.targets.left) (full_ways c.self.inside.loan.port c.self.inside.full.items)) c.open_next.new.seat c.open_next.new.self c.open_next.result =
    leads_as p _ _ _ _ _ (ap (λ (y : Placed). opening p y.seat (delivery_to c.self.inside.loan c.self.inside.copied c.self.inside.targets.all) (states_to c.self.inside.loan.port c.self.inside.loan.lane c.self.inside.targets.left) (full_ways c.self.inside.loan.port c.self.inside.full.items)) (sym seat)
    ∙ ap (λ (r : RequestDispatch). opening p c.count_access-in-Opens.new.self.seat (delivery_to r.loan r.copied r.targets) (states_to r.loan.port r.loan.lane r.left) (full_ways r.loan.port r.full)) c.self.view_is)
    (c.open_next.ensures.next p (subst (Knows p c.count_access-in-Opens.new.self.seat) c.self.view_is knows)) in
    leads.aimed

pub returns-in-Refuses-clause-next : goal.returns-in-Refuses-clause-next
returns-in-Refuses-clause-next c p aim =
    let ending : is_ending (the_view c.self.inside).local ≡ true = ends_there c.self.inside.at _ c.in-Refuses.is in
    let knows : Knows p c.args.seat.now.seat (the_view c.self.inside) = ending_known p c.args.seat.now.seat (the_view c.self.inside) c.self.inside.at _ ending (subst (IsAimed p c.args.seat.now.seat) (sym c.self.view_is) aim) in
    let leads : LeadsTo p (placed (accessed c.args.seat.now.seat) (the_view c.self.inside).local) c.tell.new.seat c.tell.new.self c.tell.result =
    leads_as p _ _ _ _ _ (ap (λ (y : Placed). placed y.seat (the_view c.self.inside).local) (sym c.count_access.ensures)
    ∙ ap (λ (r : RequestDispatch). placed c.count_access.new.self.seat r.local) c.self.view_is)
    (c.tell.ensures.next p (subst (Knows p c.count_access.new.self.seat) c.self.view_is
    (subst (λ (y : Placed). Knows p y.seat (the_view c.self.inside)) (sym c.count_access.ensures)
    (record { told = knows.told; targets = knows.targets; left = knows.left; number = knows.number })))) in
    next_by p c.args.seat.now.seat (placed (accessed c.args.seat.now.seat) (the_view c.self.inside).local) (the_view c.self.inside).local c.args.seen c.tell.new.seat c.tell.new.self c.tell.result
    (ending_stays p c.args.seat.now.seat c.args.seen c.self.inside.at _ ending) leads
    ∙ ap (λ (r : RequestDispatch). next p (placed c.args.seat.now.seat r.local) c.args.seen) c.self.view_is

pub returns-in-Refuses-clause-over : goal.returns-in-Refuses-clause-over
returns-in-Refuses-clause-over c p aim =
    let ending : is_ending (the_view c.self.inside).local ≡ true = ends_there c.self.inside.at _ c.in-Refuses.is in
    let knows : Knows p c.args.seat.now.seat (the_view c.self.inside) = ending_known p c.args.seat.now.seat (the_view c.self.inside) c.self.inside.at _ ending (subst (IsAimed p c.args.seat.now.seat) (sym c.self.view_is) aim) in
    let leads : LeadsTo p (placed (accessed c.args.seat.now.seat) (the_view c.self.inside).local) c.tell.new.seat c.tell.new.self c.tell.result =
    leads_as p _ _ _ _ _ (ap (λ (y : Placed). placed y.seat (the_view c.self.inside).local) (sym c.count_access.ensures)
    ∙ ap (λ (r : RequestDispatch). placed c.count_access.new.self.seat r.local) c.self.view_is)
    (c.tell.ensures.next p (subst (Knows p c.count_access.new.self.seat) c.self.view_is
    (subst (λ (y : Placed). Knows p y.seat (the_view c.self.inside)) (sym c.count_access.ensures)
    (record { told = knows.told; targets = knows.targets; left = knows.left; number = knows.number })))) in
    ap (λ (r : RequestDispatch). tells p (placed c.args.seat.now.seat r.local) c.args.seen) (sym c.self.view_is)
    ∙ tells_by p c.args.seat.now.seat (placed (accessed c.args.seat.now.seat) (the_view c.self.inside).local) (the_view c.self.inside).local c.args.seen c.tell.new.seat c.tell.new.self c.tell.result
    (ending_stays p c.args.seat.now.seat c.args.seen c.self.inside.at _ ending) leads
