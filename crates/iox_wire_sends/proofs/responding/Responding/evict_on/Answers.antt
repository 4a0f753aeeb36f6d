use Rattle.std.proofs.Common.{◌≡◌, [], sym, subst, ap, ap₂, ◌∙◌}
use Rattle.std.specs.Prelude.{option_map}
use Rattle.iox_wire_locals.specs.declared.local.Local.{Local}
use Rattle.iox_wire_locals.specs.declared.local.Local.TheVariants.{SendEvicts}
use Rattle.iox_wire_locals.specs.declared.seat.Seat.{Seat}
use Rattle.iox_wire_locals.specs.Courses.{placed}
use Rattle.iox_wire_locals.specs.Settlements.{sends_away}
use Rattle.iox_wire_locals.specs.Steps.{next, tells}
use Rattle.iox_wire_locals.specs.Tables.{state_in}
use Rattle.iox_wire_seats.specs.Seats.{Placed}
use Rattle.iox_wire_sends.specs.contracts.responding.Responding.{the_view}
use Rattle.iox_wire_sends.specs.Aims.{IsAimed, IsEvicting}
use Rattle.iox_wire_sends.specs.Dispatches.{Dispatch, delivery_to, reply_in}
use Rattle.iox_wire_sends.proofs.DeliverLemmas.{evicted_next, evicted_over}
use Rattle.iox_wire_sends.proofs.PlaceLemmas.{it_evicts}
use Rattle.iox_wire_sends.proofs.responding.Responding.evict_on.Goals as goal

pub returns-clause-next : goal.returns-clause-next
returns-clause-next c p aim =
    let local : (the_view c.self.inside).local ≡ SendEvicts (delivery_to c.self.inside.loan c.self.inside.copied) (state_in c.self.inside.loan) c.self.inside.pusher [] 1 =
    it_evicts c.self.inside.at _ (subst (λ (r : Dispatch). IsEvicting r.local) (sym c.self.view_is) c.requires.there) in
    ap₂ (λ (y : Seat) (l : Local). placed y l)
    (c.finish.ensures.seat ∙ ap (λ (y : Placed). sends_away y.seat c.self.inside.loan c.self.inside.copied) c.count_access.ensures)
    c.finish.ensures.over
    ∙ evicted_next p c.args.seat.now.seat c.self.inside.loan c.self.inside.copied c.self.inside.terms c.self.inside.pusher c.args.seen c.self.invariant.2
    (subst (IsAimed p) (sym c.self.view_is) aim) (λ is. c.in_default.not-Evict (c.advance.ensures.event ∙ is))
    ∙ ap (λ (l : Local). next p (placed c.args.seat.now.seat l) c.args.seen) (sym local ∙ ap (λ (r : Dispatch). r.local) c.self.view_is)

pub returns-clause-over : goal.returns-clause-over
returns-clause-over c p aim =
    let local : (the_view c.self.inside).local ≡ SendEvicts (delivery_to c.self.inside.loan c.self.inside.copied) (state_in c.self.inside.loan) c.self.inside.pusher [] 1 =
    it_evicts c.self.inside.at _ (subst (λ (r : Dispatch). IsEvicting r.local) (sym c.self.view_is) c.requires.there) in
    ap (λ (l : Local). tells p (placed c.args.seat.now.seat l) c.args.seen) (ap (λ (r : Dispatch). r.local) (sym c.self.view_is) ∙ local)
    ∙ evicted_over p c.args.seat.now.seat c.self.inside.loan c.self.inside.copied c.self.inside.terms c.self.inside.pusher c.args.seen c.self.invariant.2
    (subst (IsAimed p) (sym c.self.view_is) aim) (λ is. c.in_default.not-Evict (c.advance.ensures.event ∙ is))
    ∙ sym (ap (option_map reply_in) c.finish.ensures.reply)
