use Rattle.std.proofs.Common.{◌≡◌, ◌∷◌, [], true, false, List, refl, ap, ap₂, sym, subst, ◌∙◌}
use Rattle.iox_model.specs.Messages.{request_way}
use Rattle.iox_steps.specs.declared.side.Pushing.{Pushing}
use Rattle.iox_wire_locals.specs.Courses.{looking, opening}
use Rattle.iox_wire_locals.specs.declared.local.Local.TheVariants.{SendLooks}
use Rattle.iox_wire_request_sends.proofs.EndLemmas.{refused_leads}
use Rattle.iox_wire_request_sends.proofs.LeadLemmas.{leads_as, look_leads}
use Rattle.iox_wire_request_sends.proofs.RoomLemmas.{full_says}
use Rattle.iox_wire_request_sends.proofs.RoundLemmas.{all_looked}
use Rattle.iox_wire_request_sends.specs.Aims.{Knows}
use Rattle.iox_wire_request_sends.specs.RequestDispatches.{RequestDispatch, delivery_to}
use Rattle.iox_wire_request_sends.specs.Targets.{AreTargets, Round, full_ways, states_to, ways_to}
use Rattle.iox_wire_request_sends.specs.contracts.requesting.Requesting.{the_view}
use Rattle.iox_wire_request_sends.specs.declared.target.Target.{Target}
use Rattle.iox_model.specs.Requests.{fails_at}
use Rattle.iox_wire_locals.specs.Known.{known}
use Rattle.iox_wire_locals.specs.declared.local.CallRefusal.TheVariants.{UnableToDeliver}
use Rattle.iox_wire_request_sends.specs.declared.at.RequestReply.TheVariants as request_replies
use Rattle.iox_wire_request_sends.proofs.requesting.Requesting.look_next.Goals as goal

pub returns-clause-next : goal.returns-clause-next
returns-clause-next c p knew =
    let k : Knows p c.args.seat.now.seat (the_view c.self.inside) = subst (Knows p c.args.seat.now.seat) (sym c.self.view_is) knew in
    let left : c.self.inside.targets.left ≡ c.in-Some.target ∷ c.next.new.self.left = c.in-Some.ensures.taken in
    let ways : AreTargets p c.self.inside.terms c.self.inside.loan (c.in-Some.target ∷ c.next.new.self.left) = subst (AreTargets p c.self.inside.terms c.self.inside.loan) left k.left in
    let all : c.next.new.self.all ≡ c.self.inside.targets.all = c.next.ensures.all in
    leads_as p _ _ _ _ _
    (sym (ap (λ (r : RequestDispatch). looking p c.args.seat.now.seat (delivery_to r.loan r.copied r.targets) (ways_to r.loan.port r.left) (full_ways r.loan.port r.full)) c.self.view_is)
    ∙ ap (λ (ts : List Target). looking p c.args.seat.now.seat (delivery_to c.self.inside.loan c.self.inside.copied c.self.inside.targets.all) (ways_to c.self.inside.loan.port ts) (full_ways c.self.inside.loan.port c.self.inside.full.items)) left)
    (look_leads p c.args.seat.now _ (delivery_to c.self.inside.loan c.self.inside.copied c.self.inside.targets.all) (request_way c.self.inside.loan.port c.in-Some.target.server) (ways_to c.self.inside.loan.port c.next.new.self.left) (full_ways c.self.inside.loan.port c.self.inside.full.items)
    (ap₂ (λ (ts : List Target) (place : Pushing). SendLooks (delivery_to c.self.inside.loan c.self.inside.copied ts) (request_way c.self.inside.loan.port c.in-Some.target.server) place (ways_to c.self.inside.loan.port c.next.new.self.left) (full_ways c.self.inside.loan.port c.self.inside.full.items)) all c.look.ensures)
    (record { told = k.told; targets = subst (AreTargets p c.self.inside.terms c.self.inside.loan) (sym all) k.targets; left = ways.1; number = k.number })
    (c.messages-self-inside.ensures ∙ ways.0.messages))

pub returns-then-fails-clause-next : goal.returns-then-fails-clause-next
returns-then-fails-clause-next c p knew =
    let k : Knows p c.args.seat.now.seat (the_view c.self.inside) = subst (Knows p c.args.seat.now.seat) (sym c.self.view_is) knew in
    let none : c.self.inside.targets.left ≡ [] = c.in_default.ensures.none refl in
    leads_as p _ _ _ _ _
    (sym (ap (λ (r : RequestDispatch). looking p c.args.seat.now.seat (delivery_to r.loan r.copied r.targets) (ways_to r.loan.port r.left) (full_ways r.loan.port r.full)) c.self.view_is)
    ∙ ap (λ (ts : List Target). looking p c.args.seat.now.seat (delivery_to c.self.inside.loan c.self.inside.copied c.self.inside.targets.all) (ways_to c.self.inside.loan.port ts) (full_ways c.self.inside.loan.port c.self.inside.full.items)) none
    ∙ all_looked p c.args.seat.now.seat c.self.inside.loan c.self.inside.copied c.self.inside.targets.all (full_ways c.self.inside.loan.port c.self.inside.full.items) true c.self.invariant.0
    (full_says c.self.inside.loan.port (fails_at (known p c.args.seat.now.seat)) c.self.inside.terms.fails c.self.inside.full.items (λ s. k.told.fails c.args.seat.now.seat s) ∙ sym c.fails.ensures ∙ c.if-fails.true))
    (refused_leads p c.args.seat.now.seat c.fail.new.seat c.fail.new.self c.fail.result c.self.inside.loan c.self.inside.copied UnableToDeliver request_replies.UnableToDeliver refl
    c.fail.ensures.seat c.fail.ensures.over c.fail.ensures.reply)

pub returns-in_default-clause-next : goal.returns-in_default-clause-next
returns-in_default-clause-next c p knew =
    let k : Knows p c.args.seat.now.seat (the_view c.self.inside) = subst (Knows p c.args.seat.now.seat) (sym c.self.view_is) knew in
    let none : c.self.inside.targets.left ≡ [] = c.in_default.ensures.none refl in
    let round : c.restart.new.self ≡ record { all = c.self.inside.targets.all; left = c.self.inside.targets.all; room = c.next.new.self.room } =
    c.restart.ensures ∙ ap (λ (ts : List Target). record { all = ts; left = ts; room = c.next.new.self.room }) c.next.ensures.all in
    leads_as p _ _ _ _ _
    (sym (ap (λ (r : RequestDispatch). looking p c.args.seat.now.seat (delivery_to r.loan r.copied r.targets) (ways_to r.loan.port r.left) (full_ways r.loan.port r.full)) c.self.view_is)
    ∙ ap (λ (ts : List Target). looking p c.args.seat.now.seat (delivery_to c.self.inside.loan c.self.inside.copied c.self.inside.targets.all) (ways_to c.self.inside.loan.port ts) (full_ways c.self.inside.loan.port c.self.inside.full.items)) none
    ∙ all_looked p c.args.seat.now.seat c.self.inside.loan c.self.inside.copied c.self.inside.targets.all (full_ways c.self.inside.loan.port c.self.inside.full.items) false c.self.invariant.0
    (full_says c.self.inside.loan.port (fails_at (known p c.args.seat.now.seat)) c.self.inside.terms.fails c.self.inside.full.items (λ s. k.told.fails c.args.seat.now.seat s) ∙ sym c.fails.ensures ∙ c.if-fails.false)
    ∙ ap (λ (r : Round). opening p c.args.seat.now.seat (delivery_to c.self.inside.loan c.self.inside.copied r.all) (states_to c.self.inside.loan.port c.self.inside.loan.lane r.left) (full_ways c.self.inside.loan.port c.self.inside.full.items)) (sym round))
    (c.open_next.ensures.next p (record { told = k.told; targets = subst (λ (r : Round). AreTargets p c.self.inside.terms c.self.inside.loan r.all) (sym round) k.targets; left = subst (λ (r : Round). AreTargets p c.self.inside.terms c.self.inside.loan r.left) (sym round) k.targets; number = k.number }))
