use Rattle.std.proofs.Common.{◌≡◌, ◌∷◌, [], List, None, refl, ap, sym, subst, ◌∙◌}
use Rattle.iox_model.specs.Messages.{response_way}
use Rattle.iox_wire_locals.specs.Courses.{delivering, opening}
use Rattle.iox_wire_locals.specs.declared.local.Local.TheVariants.{SendOpens}
use Rattle.iox_wire_request_sends.proofs.LeadLemmas.{leads_as, open_leads}
use Rattle.iox_wire_request_sends.proofs.RoundLemmas.{all_opened}
use Rattle.iox_wire_request_sends.specs.Aims.{Knows}
use Rattle.iox_wire_request_sends.specs.RequestDispatches.{RequestDispatch, delivery_to}
use Rattle.iox_wire_request_sends.specs.Targets.{AreTargets, Round, full_ways, states_to, ways_to, with_room}
use Rattle.iox_wire_request_sends.specs.contracts.requesting.Requesting.{the_view}
use Rattle.iox_wire_request_sends.specs.declared.target.Target.{Target}
use Rattle.iox_wire_request_sends.proofs.requesting.Requesting.open_next.Goals as goal

pub returns-clause-next : goal.returns-clause-next
returns-clause-next c p knew =
    let k : Knows p c.args.seat.now.seat (the_view c.self.inside) = subst (Knows p c.args.seat.now.seat) (sym c.self.view_is) knew in
    let left : c.self.inside.targets.left ≡ c.in-Some.target ∷ c.next.new.self.left = c.in-Some.ensures.taken in
    let ways : AreTargets p c.self.inside.terms c.self.inside.loan (c.in-Some.target ∷ c.next.new.self.left) = subst (AreTargets p c.self.inside.terms c.self.inside.loan) left k.left in
    let all : c.next.new.self.all ≡ c.self.inside.targets.all = c.next.ensures.all in
    leads_as p _ _ _ _ _
    (sym (ap (λ (r : RequestDispatch). opening p c.args.seat.now.seat (delivery_to r.loan r.copied r.targets) (states_to r.loan.port r.loan.lane r.left) (full_ways r.loan.port r.full)) c.self.view_is)
    ∙ ap (λ (ts : List Target). opening p c.args.seat.now.seat (delivery_to c.self.inside.loan c.self.inside.copied c.self.inside.targets.all) (states_to c.self.inside.loan.port c.self.inside.loan.lane ts) (full_ways c.self.inside.loan.port c.self.inside.full.items)) left)
    (open_leads p c.args.seat.now _ (delivery_to c.self.inside.loan c.self.inside.copied c.self.inside.targets.all) (response_way c.self.inside.loan.port c.self.inside.loan.lane c.in-Some.target.server) (states_to c.self.inside.loan.port c.self.inside.loan.lane c.next.new.self.left) (full_ways c.self.inside.loan.port c.self.inside.full.items)
    (ap (λ (ts : List Target). SendOpens (delivery_to c.self.inside.loan c.self.inside.copied ts) (response_way c.self.inside.loan.port c.self.inside.loan.lane c.in-Some.target.server) (states_to c.self.inside.loan.port c.self.inside.loan.lane c.next.new.self.left) (full_ways c.self.inside.loan.port c.self.inside.full.items)) all)
    (record { told = k.told; targets = subst (AreTargets p c.self.inside.terms c.self.inside.loan) (sym all) k.targets; left = ways.1; number = k.number })
    (c.state-self-inside.ensures ∙ ways.0.state))

pub returns-in_default-clause-next : goal.returns-in_default-clause-next
returns-in_default-clause-next c p knew =
    let k : Knows p c.args.seat.now.seat (the_view c.self.inside) = subst (Knows p c.args.seat.now.seat) (sym c.self.view_is) knew in
    let round : c.restart.new.self ≡ record { all = c.self.inside.targets.all; left = c.self.inside.targets.all; room = c.next.new.self.room } =
    c.restart.ensures ∙ ap (λ (ts : List Target). record { all = ts; left = ts; room = c.next.new.self.room }) c.next.ensures.all in
    let none : c.self.inside.targets.left ≡ [] = c.in_default.ensures.none refl in
    leads_as p _ _ _ _ _
    (sym (ap (λ (r : RequestDispatch). opening p c.args.seat.now.seat (delivery_to r.loan r.copied r.targets) (states_to r.loan.port r.loan.lane r.left) (full_ways r.loan.port r.full)) c.self.view_is)
    ∙ ap (λ (ts : List Target). opening p c.args.seat.now.seat (delivery_to c.self.inside.loan c.self.inside.copied c.self.inside.targets.all) (states_to c.self.inside.loan.port c.self.inside.loan.lane ts) (full_ways c.self.inside.loan.port c.self.inside.full.items)) none
    ∙ all_opened p c.args.seat.now.seat c.self.inside.loan c.self.inside.copied c.self.inside.targets.all c.self.inside.full.items c.self.invariant.0
    ∙ ap (λ (r : Round). delivering c.args.seat.now.seat (delivery_to c.self.inside.loan c.self.inside.copied r.all) None (ways_to c.self.inside.loan.port (with_room c.self.inside.full.items r.left)) 0) (sym round))
    (c.deliver_next.ensures.next p (record { told = k.told; targets = subst (λ (r : Round). AreTargets p c.self.inside.terms c.self.inside.loan r.all) (sym round) k.targets; left = subst (λ (r : Round). AreTargets p c.self.inside.terms c.self.inside.loan r.left) (sym round) k.targets; number = k.number }))
