use Rattle.std.proofs.Common.{◌≡◌, ◌∷◌, [], ℕ, true, false, List, refl, ap, sym, subst, ◌∙◌}
use Rattle.iox_model.specs.Messages.{request_way}
use Rattle.iox_wire_locals.specs.Courses.{emptying, looking, opening}
use Rattle.iox_wire_locals.specs.declared.local.Local.TheVariants.{SendEmpties}
use Rattle.iox_wire_request_sends.proofs.LeadLemmas.{empty_leads, knows_same, leads_as}
use Rattle.iox_wire_request_sends.proofs.RoundLemmas.{all_emptied}
use Rattle.iox_wire_request_sends.specs.Aims.{Knows}
use Rattle.iox_wire_request_sends.specs.RequestDispatches.{RequestDispatch, delivery_to}
use Rattle.iox_wire_request_sends.specs.Targets.{AreTargets, Round, full_ways, states_to, ways_to}
use Rattle.iox_wire_request_sends.specs.contracts.requesting.Requesting.{the_view}
use Rattle.iox_wire_request_sends.specs.declared.target.Target.{Target}
use Rattle.iox_steps.specs.declared.pop.Pop.TheVariants.{LoadsRead}
use Rattle.iox_steps.specs.declared.side.Popping.TheVariants.{Pops}
use Rattle.iox_wire_request_sends.proofs.requesting.Requesting.empty_next.Goals as goal

pub returns-clause-next : goal.returns-clause-next
returns-clause-next c p knew =
    let k : Knows p c.args.seat.now.seat (the_view c.self.inside) = subst (Knows p c.args.seat.now.seat) (sym c.self.view_is) knew in
    let left : c.self.inside.targets.left ≡ c.in-Some.target ∷ c.next.new.self.left = c.in-Some.ensures.taken in
    let ways : AreTargets p c.self.inside.terms c.self.inside.loan (c.in-Some.target ∷ c.next.new.self.left) = subst (AreTargets p c.self.inside.terms c.self.inside.loan) left k.left in
    let all : c.next.new.self.all ≡ c.self.inside.targets.all = c.next.ensures.all in
    leads_as p _ _ _ _ _
    (sym (ap (λ (r : RequestDispatch). emptying p c.args.seat.now.seat (delivery_to r.loan r.copied r.targets) (ways_to r.loan.port r.left)) c.self.view_is)
    ∙ ap (λ (ts : List Target). emptying p c.args.seat.now.seat (delivery_to c.self.inside.loan c.self.inside.copied c.self.inside.targets.all) (ways_to c.self.inside.loan.port ts)) left)
    (empty_leads p c.args.seat.now c.empty.new.self (delivery_to c.self.inside.loan c.self.inside.copied c.self.inside.targets.all) (request_way c.self.inside.loan.port c.in-Some.target.server) (ways_to c.self.inside.loan.port c.next.new.self.left)
    (c.empty.ensures.local ∙ ap (λ (ts : List Target). SendEmpties (delivery_to c.self.inside.loan c.self.inside.copied ts) (request_way c.self.inside.loan.port c.in-Some.target.server) (Pops LoadsRead) (ways_to c.self.inside.loan.port c.next.new.self.left)) all)
    (knows_same p c.args.seat.now.seat (the_view (record (c.self.inside) { targets = c.next.new.self })) c.empty.new.self c.empty.ensures.same c.empty.ensures.left
    (record { told = k.told; targets = subst (AreTargets p c.self.inside.terms c.self.inside.loan) (sym all) k.targets; left = ways.1; number = k.number }))
    (c.empty.ensures.site ∙ ways.0.returning))

pub returns-then-self-clause-next : goal.returns-then-self-clause-next
returns-then-self-clause-next c p knew =
    let k : Knows p c.args.seat.now.seat (the_view c.self.inside) = subst (Knows p c.args.seat.now.seat) (sym c.self.view_is) knew in
    let round : c.restart.new.self ≡ record { all = c.self.inside.targets.all; left = c.self.inside.targets.all; room = c.next.new.self.room } =
    c.restart.ensures ∙ ap (λ (ts : List Target). record { all = ts; left = ts; room = c.next.new.self.room }) c.next.ensures.all in
    let none : c.self.inside.targets.left ≡ [] = c.in_default.ensures.none refl in
    leads_as p _ _ _ _ _
    (sym (ap (λ (r : RequestDispatch). emptying p c.args.seat.now.seat (delivery_to r.loan r.copied r.targets) (ways_to r.loan.port r.left)) c.self.view_is)
    ∙ ap (λ (ts : List Target). emptying p c.args.seat.now.seat (delivery_to c.self.inside.loan c.self.inside.copied c.self.inside.targets.all) (ways_to c.self.inside.loan.port ts)) none
    ∙ all_emptied p c.args.seat.now.seat c.self.inside.loan c.self.inside.copied c.self.inside.targets.all c.self.inside.terms true c.self.invariant.0 k.told c.if-self.true
    ∙ ap (λ (fs : List ℕ). opening p c.args.seat.now.seat (delivery_to c.self.inside.loan c.self.inside.copied c.self.inside.targets.all) (states_to c.self.inside.loan.port c.self.inside.loan.lane c.self.inside.targets.all) (full_ways c.self.inside.loan.port fs)) (sym c.clear.ensures.items)
    ∙ ap (λ (r : Round). opening p c.args.seat.now.seat (delivery_to c.self.inside.loan c.self.inside.copied r.all) (states_to c.self.inside.loan.port c.self.inside.loan.lane r.left) (full_ways c.self.inside.loan.port c.clear.new.self.items)) (sym round))
    (c.open_next.ensures.next p (record { told = k.told; targets = subst (λ (r : Round). AreTargets p c.self.inside.terms c.self.inside.loan r.all) (sym round) k.targets; left = subst (λ (r : Round). AreTargets p c.self.inside.terms c.self.inside.loan r.left) (sym round) k.targets; number = k.number }))

pub returns-in_default-clause-next : goal.returns-in_default-clause-next
returns-in_default-clause-next c p knew =
    let k : Knows p c.args.seat.now.seat (the_view c.self.inside) = subst (Knows p c.args.seat.now.seat) (sym c.self.view_is) knew in
    let round : c.restart.new.self ≡ record { all = c.self.inside.targets.all; left = c.self.inside.targets.all; room = c.next.new.self.room } =
    c.restart.ensures ∙ ap (λ (ts : List Target). record { all = ts; left = ts; room = c.next.new.self.room }) c.next.ensures.all in
    let none : c.self.inside.targets.left ≡ [] = c.in_default.ensures.none refl in
    leads_as p _ _ _ _ _
    (sym (ap (λ (r : RequestDispatch). emptying p c.args.seat.now.seat (delivery_to r.loan r.copied r.targets) (ways_to r.loan.port r.left)) c.self.view_is)
    ∙ ap (λ (ts : List Target). emptying p c.args.seat.now.seat (delivery_to c.self.inside.loan c.self.inside.copied c.self.inside.targets.all) (ways_to c.self.inside.loan.port ts)) none
    ∙ all_emptied p c.args.seat.now.seat c.self.inside.loan c.self.inside.copied c.self.inside.targets.all c.self.inside.terms false c.self.invariant.0 k.told c.if-self.false
    ∙ ap (λ (fs : List ℕ). looking p c.args.seat.now.seat (delivery_to c.self.inside.loan c.self.inside.copied c.self.inside.targets.all) (ways_to c.self.inside.loan.port c.self.inside.targets.all) (full_ways c.self.inside.loan.port fs)) (sym c.clear.ensures.items)
    ∙ ap (λ (r : Round). looking p c.args.seat.now.seat (delivery_to c.self.inside.loan c.self.inside.copied r.all) (ways_to c.self.inside.loan.port r.left) (full_ways c.self.inside.loan.port c.clear.new.self.items)) (sym round))
    (c.look_next.ensures.next p (record { told = k.told; targets = subst (λ (r : Round). AreTargets p c.self.inside.terms c.self.inside.loan r.all) (sym round) k.targets; left = subst (λ (r : Round). AreTargets p c.self.inside.terms c.self.inside.loan r.left) (sym round) k.targets; number = k.number }))
