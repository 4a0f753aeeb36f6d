use Rattle.std.proofs.Common.{◌≡◌, [], true, false, sym, subst, ap, ap₂, ◌∙◌}
use Rattle.iox_steps.specs.declared.side.Pushing.{Pushing}
use Rattle.iox_wire_locals.specs.declared.local.Local.{Local}
use Rattle.iox_wire_locals.specs.declared.local.Local.TheVariants.{SendEmpties}
use Rattle.iox_wire_locals.specs.Courses.{placed}
use Rattle.iox_wire_locals.specs.Steps.{next}
use Rattle.iox_wire_locals.specs.Tables.{state_in}
use Rattle.iox_wire_seats.specs.Seats.{Placed}
use Rattle.iox_wire_sends.specs.contracts.responding.Responding.{the_view}
use Rattle.iox_wire_sends.specs.Aims.{IsAimed, IsEmptying}
use Rattle.iox_wire_sends.specs.Dispatches.{Dispatch, delivery_to}
use Rattle.iox_wire_sends.proofs.PlaceLemmas.{it_empties}
use Rattle.iox_wire_sends.proofs.SendLemmas.{empty_next, looks, pushes}
use Rattle.iox_wire_sends.proofs.responding.Responding.empty_on.Goals as goal

pub returns-then-self-clause-next : goal.returns-then-self-clause-next
returns-then-self-clause-next c p aim =
    let local : (the_view c.self.inside).local ≡ SendEmpties (delivery_to c.self.inside.loan c.self.inside.copied) (state_in c.self.inside.loan) c.self.inside.popper [] =
    it_empties c.self.inside.at _ (subst (λ (r : Dispatch). IsEmptying r.local) (sym c.self.view_is) c.requires.there) in
    ap₂ (λ (y : Placed) (place : Pushing). pushes y.seat c.self.inside.loan c.self.inside.copied place) c.count_access.ensures c.push.ensures
    ∙ empty_next p c.args.seat.now.seat c.self.inside.loan c.self.inside.copied c.self.inside.terms c.self.inside.popper c.args.seen true c.self.invariant.2
    (subst (IsAimed p) (sym c.self.view_is) aim) (sym c.advance.ensures.event ∙ c.in-SeesEmpty.is) c.if-self.true
    ∙ ap (λ (l : Local). next p (placed c.args.seat.now.seat l) c.args.seen) (sym local ∙ ap (λ (r : Dispatch). r.local) c.self.view_is)

pub returns-else-self-clause-next : goal.returns-else-self-clause-next
returns-else-self-clause-next c p aim =
    let local : (the_view c.self.inside).local ≡ SendEmpties (delivery_to c.self.inside.loan c.self.inside.copied) (state_in c.self.inside.loan) c.self.inside.popper [] =
    it_empties c.self.inside.at _ (subst (λ (r : Dispatch). IsEmptying r.local) (sym c.self.view_is) c.requires.there) in
    ap₂ (λ (y : Placed) (place : Pushing). looks y.seat c.self.inside.loan c.self.inside.copied place) c.count_access.ensures c.look.ensures
    ∙ empty_next p c.args.seat.now.seat c.self.inside.loan c.self.inside.copied c.self.inside.terms c.self.inside.popper c.args.seen false c.self.invariant.2
    (subst (IsAimed p) (sym c.self.view_is) aim) (sym c.advance.ensures.event ∙ c.in-SeesEmpty.is) c.if-self.false
    ∙ ap (λ (l : Local). next p (placed c.args.seat.now.seat l) c.args.seen) (sym local ∙ ap (λ (r : Dispatch). r.local) c.self.view_is)
