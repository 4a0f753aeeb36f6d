use Rattle.std.proofs.Common.{◌≡◌, [], None, refl, sym, subst, ap, ap₂, ◌∙◌}
use Rattle.iox_wire_locals.specs.declared.local.Local.{Local}
use Rattle.iox_wire_locals.specs.declared.local.Local.TheVariants.{SendPushes}
use Rattle.iox_wire_locals.specs.declared.seat.Seat.{Seat}
use Rattle.iox_wire_locals.specs.Courses.{placed}
use Rattle.iox_wire_locals.specs.Settlements.{sends_away}
use Rattle.iox_wire_locals.specs.Steps.{next}
use Rattle.iox_wire_locals.specs.Tables.{state_in}
use Rattle.iox_wire_seats.specs.Desks.{IsUsed, MayCount, MayDeliver}
use Rattle.iox_wire_seats.specs.Keeps.{delivered}
use Rattle.iox_wire_seats.specs.Seats.{Placed}
use Rattle.iox_wire_locals.specs.Desks.{delivers}
use Rattle.iox_model.specs.declared.way.Way.{Way}
use Rattle.iox_wire_loans.proofs.LoanLemmas.{count_kept}
use Rattle.iox_wire_sends.specs.contracts.responding.Responding.{the_view}
use Rattle.iox_wire_sends.specs.Aims.{FindsAt, FindsUsed, IsAimed, IsPushing, MayCountMade}
use Rattle.iox_wire_sends.specs.Dispatches.{Dispatch, delivery_to}
use Rattle.iox_wire_sends.proofs.DeliverLemmas.{delivered_next, still_used}
use Rattle.iox_wire_sends.proofs.PlaceLemmas.{it_pushes}
use Rattle.iox_wire_sends.proofs.responding.Responding.push_on.Goals as goal

pub finish-requires-clause-counts : goal.finish-requires-clause-counts
finish-requires-clause-counts c is =
    let counts : MayCount c.self.inside.loan.port c.args.seat.now.seat.desks =
    subst (λ (r : Dispatch). MayCountMade c.args.seat.now r) (sym c.self.view_is) c.requires.counts is in
    subst (λ (y : Placed). MayCount c.self.inside.loan.port y.seat.desks)
    (ap₂ (λ (y : Placed) (w : Way). delivered y c.self.inside.loan.port w c.in-Publish.slot) (sym c.count_access.ensures) (sym c.way.ensures) ∙ sym c.deliver.ensures)
    (count_kept c.self.inside.loan.port c.self.inside.loan.port (delivers (state_in c.self.inside.loan) c.in-Publish.slot) c.args.seat.now.seat.desks (λ d. refl) (λ d. refl) counts)

pub finish-requires-clause-used : goal.finish-requires-clause-used
finish-requires-clause-used c =
    let local : (the_view c.self.inside).local ≡ SendPushes (delivery_to c.self.inside.loan c.self.inside.copied) None (state_in c.self.inside.loan) c.self.inside.pusher [] 0 =
    it_pushes c.self.inside.at _ (subst (λ (r : Dispatch). IsPushing r.local) (sym c.self.view_is) c.requires.there) in
    let finds : FindsAt c.args.seat.now.seat c.self.inside.terms (SendPushes (delivery_to c.self.inside.loan c.self.inside.copied) None (state_in c.self.inside.loan) c.self.inside.pusher [] 0) c.args.seen =
    subst (λ (l : Local). FindsAt c.args.seat.now.seat c.self.inside.terms l c.args.seen) local
    (subst (λ (r : Dispatch). FindsUsed c.args.seat.now r c.args.seen) (sym c.self.view_is) c.requires.finds) in
    let may : MayDeliver c.self.inside.loan.port (state_in c.self.inside.loan) c.in-Publish.slot c.args.seat.now.seat.desks =
    finds c.in-Publish.slot (sym c.advance.ensures.event ∙ c.in-Publish.is) in
    let used : IsUsed c.self.inside.loan.port c.self.inside.loan.slot c.args.seat.now.seat.desks =
    subst (λ (r : Dispatch). IsUsed r.loan.port r.loan.slot c.args.seat.now.seat.desks) (sym c.self.view_is) c.requires.used in
    subst (λ (y : Placed). IsUsed c.self.inside.loan.port c.self.inside.loan.slot y.seat.desks)
    (ap₂ (λ (y : Placed) w. delivered y c.self.inside.loan.port w c.in-Publish.slot) (sym c.count_access.ensures) (sym c.way.ensures) ∙ sym c.deliver.ensures)
    (still_used c.self.inside.loan.port c.in-Publish.slot c.self.inside.loan.slot (state_in c.self.inside.loan) c.args.seat.now.seat.desks may used)

pub returns-then-is_at_rest-clause-next : goal.returns-then-is_at_rest-clause-next
returns-then-is_at_rest-clause-next c p aim =
    let local : (the_view c.self.inside).local ≡ SendPushes (delivery_to c.self.inside.loan c.self.inside.copied) None (state_in c.self.inside.loan) c.self.inside.pusher [] 0 =
    it_pushes c.self.inside.at _ (subst (λ (r : Dispatch). IsPushing r.local) (sym c.self.view_is) c.requires.there) in
    ap₂ (λ (y : Seat) (l : Local). placed y l)
    (c.finish.ensures.seat
    ∙ ap (λ (y : Placed). sends_away y.seat c.self.inside.loan c.self.inside.copied)
    (c.deliver.ensures ∙ ap₂ (λ (y : Placed) w. delivered y c.self.inside.loan.port w c.in-Publish.slot) c.count_access.ensures c.way.ensures))
    c.finish.ensures.over
    ∙ delivered_next p c.args.seat.now.seat c.self.inside.loan c.self.inside.copied c.self.inside.terms c.self.inside.pusher c.advance.new.self c.args.seen c.in-Publish.slot c.self.invariant.2
    (subst (IsAimed p) (sym c.self.view_is) aim) (sym c.advance.ensures.event ∙ c.in-Publish.is) c.advance.ensures.place
    (sym c.is_at_rest.ensures ∙ c.if-is_at_rest.true)
    ∙ ap (λ (l : Local). next p (placed c.args.seat.now.seat l) c.args.seen) (sym local ∙ ap (λ (r : Dispatch). r.local) c.self.view_is)
