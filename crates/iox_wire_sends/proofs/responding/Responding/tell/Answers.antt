use Rattle.std.proofs.Common.{◌≡◌, true, sym, subst, ap, ap₂, ◌∙◌}
use Rattle.std.specs.Prelude.{is_some}
use Rattle.iox_wire_locals.specs.declared.local.Local.{Local}
use Rattle.iox_wire_locals.specs.declared.seat.Seat.{Seat}
use Rattle.iox_wire_locals.specs.Courses.{placed}
use Rattle.iox_wire_locals.specs.Settlements.{sends_away}
use Rattle.iox_wire_locals.specs.Steps.{ending_at}
use Rattle.iox_wire_loans.specs.Aims.{after, answered}
use Rattle.iox_wire_sends.specs.Dispatches.{Dispatch}
use Rattle.iox_wire_sends.proofs.EndLemmas.{told_nobody, tells_nobody}
use Rattle.iox_wire_sends.proofs.responding.Responding.tell.Goals as goal

pub returns-clause-next : goal.returns-clause-next
returns-clause-next c p =
    ap₂ (λ (y : Seat) (l : Local). placed y l)
    (c.let_go.ensures.seat ∙ ap (λ (r : Dispatch). sends_away c.args.seat.now.seat r.loan r.copied) (sym c.self.view_is)) c.let_go.ensures.over
    ∙ tells_nobody p c.args.seat.now.seat c.self.inside.at _ (subst (λ (r : Dispatch). is_some (ending_at r.local) ≡ true) (sym c.self.view_is) c.requires.there) c.self.invariant.2
    ∙ ap (λ (r : Dispatch). after p (placed c.args.seat.now.seat r.local)) c.self.view_is

pub returns-clause-reply : goal.returns-clause-reply
returns-clause-reply c p =
    ap (λ (r : Dispatch). answered p (placed c.args.seat.now.seat r.local)) (sym c.self.view_is)
    ∙ told_nobody p c.args.seat.now.seat c.self.inside.at _ (subst (λ (r : Dispatch). is_some (ending_at r.local) ≡ true) (sym c.self.view_is) c.requires.there) c.self.invariant.2
