use Rattle.std.proofs.Common.{◌≡◌, ◌+◌, ◌≤◌, ◌∷◌, [], ℕ, List, length, refl, ap, ap₂, sym, subst, ◌∙◌, arith}
use Rattle.iox_model.specs.Messages.{request_way}
use Rattle.iox_steps.specs.declared.side.Pushing.{Pushing}
use Rattle.iox_wire_locals.specs.Courses.{delivering}
use Rattle.iox_wire_locals.specs.declared.local.Local.TheVariants.{SendPushes}
use Rattle.iox_wire_request_sends.proofs.EndLemmas.{sent_leads}
use Rattle.iox_wire_request_sends.proofs.LeadLemmas.{leads_as, push_leads}
use Rattle.iox_wire_request_sends.proofs.PlaceLemmas.{count_less, seen_less}
use Rattle.iox_wire_request_sends.specs.Aims.{Knows}
use Rattle.iox_wire_request_sends.specs.RequestDispatches.{RequestDispatch, delivery_to}
use Rattle.iox_wire_request_sends.specs.Targets.{AreTargets, AreWithin, IsTarget, ways_to, with_room}
use Rattle.iox_wire_request_sends.specs.contracts.requesting.Requesting.{the_view}
use Rattle.iox_wire_request_sends.specs.declared.target.Target.{Target}
use Rattle.iox_wire_seats.specs.Aims.{IsInMemory}
use Rattle.iox_wire_request_sends.proofs.requesting.Requesting.deliver_next.Goals as goal

pub invariant_of-self : goal.invariant_of-self
invariant_of-self c =
    let all : c.next_with_room.new.self.all ≡ c.self.inside.targets.all = c.next_with_room.ensures.all in
    let same : length c.next_with_room.new.self.all ≡ length c.self.inside.targets.all = ap length all in (
      c.self.invariant.0,
      c.self.invariant.1,
      c.self.invariant.2,
      subst (AreWithin c.self.inside.terms) (sym all) c.self.invariant.3,
      c.next_with_room.ensures.rest_within c.self.inside.terms c.self.invariant.4,
      omega (arith, same, c.self.invariant.5),
      seen_less c.self.inside.at _ _ _ _ _ c.next_with_room.ensures.shorter same c.self.invariant.6,
      count_less c.self.inside.at _ _ _ _ _ c.next_with_room.ensures.shorter same c.self.invariant.7,
      let room : c.next_with_room.new.self.room ≡ c.self.inside.targets.room = c.next_with_room.ensures.room in omega (arith, room, c.self.invariant.8),
    )

pub invariant_of-self-2 : goal.invariant_of-self-2
invariant_of-self-2 c =
    let all : c.next_with_room.new.self.all ≡ c.self.inside.targets.all = c.next_with_room.ensures.all in
    let same : length c.next_with_room.new.self.all ≡ length c.self.inside.targets.all = ap length all in
    let count : c.self.inside.count + length c.self.inside.targets.left ≤ length c.self.inside.targets.all =
    subst (λ (r : RequestDispatch). r.count + length r.left ≤ length r.targets) (sym c.self.view_is) c.requires.count in (
      c.self.invariant.0,
      c.self.invariant.1,
      subst IsInMemory (sym c.messages-self-inside.ensures) (c.in-Some.ensures.within c.self.inside.terms c.self.invariant.4).messages,
      subst (AreWithin c.self.inside.terms) (sym all) c.self.invariant.3,
      c.next_with_room.ensures.rest_within c.self.inside.terms c.self.invariant.4,
      omega (arith, same, c.self.invariant.5),
      tt,
      omega (arith, same, count, c.in-Some.ensures.fewer),
      let room : c.next_with_room.new.self.room ≡ c.self.inside.targets.room = c.next_with_room.ensures.room in omega (arith, room, c.self.invariant.8),
    )

pub returns-clause-next : goal.returns-clause-next
returns-clause-next c p knew =
    let k : Knows p c.args.seat.now.seat (the_view c.self.inside) = subst (Knows p c.args.seat.now.seat) (sym c.self.view_is) knew in
    let there : IsTarget p c.self.inside.terms c.self.inside.loan c.in-Some.target = c.in-Some.ensures.there p c.self.inside.terms c.self.inside.loan k.left in
    let all : c.next_with_room.new.self.all ≡ c.self.inside.targets.all = c.next_with_room.ensures.all in
    let taken : with_room c.self.inside.full.items c.self.inside.targets.left ≡ c.in-Some.target ∷ with_room c.self.inside.full.items c.next_with_room.new.self.left =
    subst (λ (fs : List ℕ). with_room fs c.self.inside.targets.left ≡ c.in-Some.target ∷ with_room fs c.next_with_room.new.self.left) c.deref.ensures.value c.in-Some.ensures.taken in
    leads_as p _ _ _ _ _
    (sym (ap (λ (r : RequestDispatch). delivering c.args.seat.now.seat (delivery_to r.loan r.copied r.targets) r.last (ways_to r.loan.port (with_room r.full r.left)) r.count) c.self.view_is)
    ∙ ap (λ (ts : List Target). delivering c.args.seat.now.seat (delivery_to c.self.inside.loan c.self.inside.copied c.self.inside.targets.all) c.self.inside.last (ways_to c.self.inside.loan.port ts) c.self.inside.count) taken)
    (push_leads p c.args.seat.now _ (delivery_to c.self.inside.loan c.self.inside.copied c.self.inside.targets.all) c.self.inside.last (request_way c.self.inside.loan.port c.in-Some.target.server) (ways_to c.self.inside.loan.port (with_room c.self.inside.full.items c.next_with_room.new.self.left)) c.self.inside.count
    (ap₂ (λ (ts : List Target) (place : Pushing). SendPushes (delivery_to c.self.inside.loan c.self.inside.copied ts) c.self.inside.last (request_way c.self.inside.loan.port c.in-Some.target.server) place (ways_to c.self.inside.loan.port (with_room c.self.inside.full.items c.next_with_room.new.self.left)) c.self.inside.count) all c.push.ensures)
    (record { told = k.told; targets = subst (AreTargets p c.self.inside.terms c.self.inside.loan) (sym all) k.targets; left = c.next_with_room.ensures.rest p c.self.inside.terms c.self.inside.loan k.left; number = k.number })
    (c.messages-self-inside.ensures ∙ there.messages))

pub returns-in_default-clause-next : goal.returns-in_default-clause-next
returns-in_default-clause-next c p knew =
    let k : Knows p c.args.seat.now.seat (the_view c.self.inside) = subst (Knows p c.args.seat.now.seat) (sym c.self.view_is) knew in
    let none : with_room c.self.inside.full.items c.self.inside.targets.left ≡ [] =
    subst (λ (fs : List ℕ). with_room fs c.self.inside.targets.left ≡ []) c.deref.ensures.value (c.in_default.ensures.none refl) in
    leads_as p _ _ _ _ _
    (sym (ap (λ (r : RequestDispatch). delivering c.args.seat.now.seat (delivery_to r.loan r.copied r.targets) r.last (ways_to r.loan.port (with_room r.full r.left)) r.count) c.self.view_is)
    ∙ ap (λ (ts : List Target). delivering c.args.seat.now.seat (delivery_to c.self.inside.loan c.self.inside.copied c.self.inside.targets.all) c.self.inside.last (ways_to c.self.inside.loan.port ts) c.self.inside.count) none)
    (sent_leads p c.args.seat.now.seat c.finish.new.seat c.finish.new.self c.finish.result c.self.inside.loan c.self.inside.copied c.self.inside.targets.all c.self.inside.last c.self.inside.count c.self.invariant.0 k.number
    c.finish.ensures.seat c.finish.ensures.over c.finish.ensures.reply)
