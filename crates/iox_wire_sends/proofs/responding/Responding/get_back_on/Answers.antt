use Rattle.std.proofs.Common.{◌≡◌, [], refl, sym, subst, ap₂, ◌∙◌}
use Rattle.iox_wire_locals.specs.declared.local.Local.{Local}
use Rattle.iox_wire_locals.specs.declared.local.Local.TheVariants.{SendGetsBack}
use Rattle.iox_wire_locals.specs.Tables.{state_in}
use Rattle.iox_wire_seats.specs.Desks.{IsUsed, MayCount}
use Rattle.iox_wire_seats.specs.Keeps.{got_back}
use Rattle.iox_wire_seats.specs.Seats.{Placed}
use Rattle.iox_wire_locals.specs.Desks.{gets_back}
use Rattle.iox_model.specs.declared.way.Way.{Way}
use Rattle.iox_wire_loans.proofs.LoanLemmas.{count_kept}
use Rattle.iox_wire_sends.specs.contracts.responding.Responding.{the_view}
use Rattle.iox_wire_sends.specs.Aims.{FindsAt, FindsUsed, IsGettingBack, MayCountMade}
use Rattle.iox_wire_sends.specs.Dispatches.{Dispatch, delivery_to}
use Rattle.iox_wire_sends.proofs.PlaceLemmas.{it_gets_back}
use Rattle.iox_wire_sends.proofs.responding.Responding.get_back_on.Goals as goal

pub finish-requires-clause-counts : goal.finish-requires-clause-counts
finish-requires-clause-counts c is =
    let counts : MayCount c.self.inside.loan.port c.args.seat.now.seat.desks =
    subst (λ (r : Dispatch). MayCountMade c.args.seat.now r) (sym c.self.view_is) c.requires.counts is in
    subst (λ (y : Placed). MayCount c.self.inside.loan.port y.seat.desks)
    (ap₂ (λ (y : Placed) (w : Way). got_back y c.self.inside.loan.port w c.in-Learn.slot) (sym c.count_access.ensures) (sym c.way.ensures) ∙ sym c.get_back.ensures)
    (count_kept c.self.inside.loan.port c.self.inside.loan.port (gets_back (state_in c.self.inside.loan) c.in-Learn.slot) c.args.seat.now.seat.desks (λ d. refl) (λ d. refl) counts)

pub get_back-requires-clause-used : goal.get_back-requires-clause-used
get_back-requires-clause-used c =
    let local : (the_view c.self.inside).local ≡ SendGetsBack (delivery_to c.self.inside.loan c.self.inside.copied) (state_in c.self.inside.loan) c.self.inside.pusher [] 1 =
    it_gets_back c.self.inside.at _ (subst (λ (r : Dispatch). IsGettingBack r.local) (sym c.self.view_is) c.requires.there) in
    let finds : FindsAt c.args.seat.now.seat c.self.inside.terms (SendGetsBack (delivery_to c.self.inside.loan c.self.inside.copied) (state_in c.self.inside.loan) c.self.inside.pusher [] 1) c.args.seen =
    subst (λ (l : Local). FindsAt c.args.seat.now.seat c.self.inside.terms l c.args.seen) local
    (subst (λ (r : Dispatch). FindsUsed c.args.seat.now r c.args.seen) (sym c.self.view_is) c.requires.finds) in
    subst (λ (y : Placed). IsUsed c.self.inside.loan.port c.in-Learn.slot y.seat.desks) (sym c.count_access.ensures)
    (finds c.in-Learn.slot (sym c.advance.ensures.event ∙ c.in-Learn.is)).0
