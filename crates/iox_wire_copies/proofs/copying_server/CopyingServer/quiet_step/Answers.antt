use Rattle.std.proofs.Common.{◌≡◌, refl, sym, subst, ap, ◌∙◌}
use Rattle.iox_wire_locals.specs.declared.local.Local.{Local}
use Rattle.iox_wire_locals.specs.declared.table.Entry.{Entry}
use Rattle.iox_wire_locals.specs.Courses.{placed}
use Rattle.iox_wire_seats.specs.QuietSteps.{StepsQuietly}
use Rattle.iox_wire_seats.specs.Seats.{Placed}
use Rattle.iox_wire_request_sends.specs.Order.{Order}
use Rattle.iox_wire_copies.specs.contracts.copying_server.CopyingServer.{the_view}
use Rattle.iox_wire_copies.specs.declared.at.CopierAt.{CopierAt}
use Rattle.iox_wire_copies.specs.declared.at.CopierAt.TheVariants as at
use Rattle.iox_wire_copies.specs.CopyAims as copies
use Rattle.iox_wire_copies.specs.Copiers.{SendsLoan, local_of}
use Rattle.iox_wire_copies.specs.ResponseCopies.{AreAimed, ResponseCopy, IsAimed, LendsResponse, StaysAimed}
use Rattle.iox_wire_copies.proofs.RespondLemmas.{Lends, lends_aimed}
use Rattle.iox_wire_copies.proofs.copying_server.CopyingServer.quiet_step.Goals as goal

pub returns-in_ok-seen-in-Lends-clause-quiet : goal.returns-in_ok-seen-in-Lends-clause-quiet
returns-in_ok-seen-in-Lends-clause-quiet c p aim =
    let before : (the_view c.self.inside).local ≡ c.self.inside.lends.local = ap (λ (a : CopierAt). local_of a c.self.inside.lends.local c.self.inside.sends.local) c.in-Lends.is in
    let after : local_of c.self.inside.at c.quiet_step.new.self.local c.self.inside.sends.local ≡ c.quiet_step.new.self.local = ap (λ (a : CopierAt). local_of a c.quiet_step.new.self.local c.self.inside.sends.local) c.in-Lends.is in
    let known : AreAimed p c.args.seat.now.seat at.Lends (the_view c.self.inside) = subst (λ (a : CopierAt). AreAimed p c.args.seat.now.seat a (the_view c.self.inside)) c.in-Lends.is
    (subst (IsAimed p c.args.seat.now.seat) (sym c.self.view_is) aim) in
    subst (λ (r : ResponseCopy). StepsQuietly p (placed c.args.seat.now.seat r.local) c.args.words.now.items c.in_ok-seen-in-Lends.seen (placed c.quiet_step.new.seat.seat (local_of c.self.inside.at c.quiet_step.new.self.local c.self.inside.sends.local)) c.quiet_step.new.words.items) c.self.view_is
    (subst (λ (l : Local). StepsQuietly p (placed c.args.seat.now.seat l) c.args.words.now.items c.in_ok-seen-in-Lends.seen (placed c.quiet_step.new.seat.seat (local_of c.self.inside.at c.quiet_step.new.self.local c.self.inside.sends.local)) c.quiet_step.new.words.items) (sym before)
    (subst (λ (l : Local). StepsQuietly p (placed c.args.seat.now.seat c.self.inside.lends.local) c.args.words.now.items c.in_ok-seen-in-Lends.seen (placed c.quiet_step.new.seat.seat l) c.quiet_step.new.words.items) (sym after) (c.in_ok-seen-in-Lends.ensures.quiet p known.0)))

pub returns-in_ok-seen-in-Sends-clause-quiet : goal.returns-in_ok-seen-in-Sends-clause-quiet
returns-in_ok-seen-in-Sends-clause-quiet c p aim =
    let before : (the_view c.self.inside).local ≡ c.self.inside.sends.local = ap (λ (a : CopierAt). local_of a c.self.inside.lends.local c.self.inside.sends.local) c.in-Sends.is in
    let after : local_of c.self.inside.at c.self.inside.lends.local c.quiet_step-in-Sends.new.self.local ≡ c.quiet_step-in-Sends.new.self.local = ap (λ (a : CopierAt). local_of a c.self.inside.lends.local c.quiet_step-in-Sends.new.self.local) c.in-Sends.is in
    let known : AreAimed p c.args.seat.now.seat at.Sends (the_view c.self.inside) = subst (λ (a : CopierAt). AreAimed p c.args.seat.now.seat a (the_view c.self.inside)) c.in-Sends.is
    (subst (IsAimed p c.args.seat.now.seat) (sym c.self.view_is) aim) in
    subst (λ (r : ResponseCopy). StepsQuietly p (placed c.args.seat.now.seat r.local) c.args.words.now.items c.in_ok-seen-in-Sends.seen (placed c.quiet_step-in-Sends.new.seat.seat (local_of c.self.inside.at c.self.inside.lends.local c.quiet_step-in-Sends.new.self.local)) c.quiet_step-in-Sends.new.words.items) c.self.view_is
    (subst (λ (l : Local). StepsQuietly p (placed c.args.seat.now.seat l) c.args.words.now.items c.in_ok-seen-in-Sends.seen (placed c.quiet_step-in-Sends.new.seat.seat (local_of c.self.inside.at c.self.inside.lends.local c.quiet_step-in-Sends.new.self.local)) c.quiet_step-in-Sends.new.words.items) (sym before)
    (subst (λ (l : Local). StepsQuietly p (placed c.args.seat.now.seat c.self.inside.sends.local) c.args.words.now.items c.in_ok-seen-in-Sends.seen (placed c.quiet_step-in-Sends.new.seat.seat l) c.quiet_step-in-Sends.new.words.items) (sym after) (c.in_ok-seen-in-Sends.ensures.quiet p known)))

pub returns-in_ok-seen-in-Lends-clause-aimed : goal.returns-in_ok-seen-in-Lends-clause-aimed
returns-in_ok-seen-in-Lends-clause-aimed c =
    let lends : Lends (the_view c.self.inside) = record { at = c.in-Lends.is; local = ap (λ (a : CopierAt). local_of a c.self.inside.lends.local c.self.inside.sends.local) c.in-Lends.is } in
    let new : ResponseCopy = record { at = c.self.inside.at; local = local_of c.self.inside.at c.quiet_step.new.self.local c.self.inside.sends.local; lends = c.quiet_step.new.self; sends = c.self.inside.sends } in
    subst (λ (r : ResponseCopy). StaysAimed c.args.seat.now r c.quiet_step.new.seat new) c.self.view_is
    (lends_aimed c.args.seat.now c.quiet_step.new.seat (the_view c.self.inside) new lends c.in-Lends.is
    (ap (λ (a : CopierAt). local_of a c.quiet_step.new.self.local c.self.inside.sends.local) c.in-Lends.is) refl
    c.quiet_step.ensures.aimed c.quiet_step.ensures.same)

pub invariant_of-self-in-Lends : goal.invariant_of-self-in-Lends
invariant_of-self-in-Lends c = (
  c.quiet_step.ensures.busy ∙ c.self.invariant.0,
  c.self.invariant.1,
  subst (λ (o : Order). LendsResponse c.self.inside.at o) (sym c.quiet_step.ensures.same.order) c.self.invariant.2,
  subst (λ (o : Order). SendsLoan c.self.inside.at o c.self.inside.sends.loan) (sym c.quiet_step.ensures.same.order) c.self.invariant.3,
)

pub invariant_of-self-in-Sends : goal.invariant_of-self-in-Sends
invariant_of-self-in-Sends c = (
  c.self.invariant.0,
  c.quiet_step-in-Sends.ensures.busy ∙ c.self.invariant.1,
  c.self.invariant.2,
  subst (λ (e : Entry). SendsLoan c.self.inside.at c.self.inside.lends.lending.order e) (sym c.quiet_step-in-Sends.ensures.same.loan) c.self.invariant.3,
)
