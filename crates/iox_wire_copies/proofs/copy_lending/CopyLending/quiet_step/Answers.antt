use Rattle.std.proofs.Common.{◌≡◌, false, length, sym, subst, ap, ◌∙◌}
use Rattle.iox_wire_locals.specs.Begins.{is_busy}
use Rattle.iox_wire_locals.specs.Courses.{placed}
use Rattle.iox_wire_seats.specs.QuietSteps.{StepsQuietly}
use Rattle.iox_wire_request_sends.specs.WireLoansAims.{HasNextWord, is_storing}
use Rattle.iox_wire_copies.specs.contracts.copy_lending.CopyLending.{the_view}
use Rattle.iox_wire_copies.specs.Copies.{CopyLoan, HasMade, HasSlots, local_of, with_payload}
use Rattle.iox_wire_copies.specs.CopyAims.{IsAimed}
use Rattle.iox_wire_copies.specs.declared.at.CopyAt.{CopyAt}
use Rattle.iox_wire_copies.proofs.LendLemmas.{Lends, aimed_loan}
use Rattle.iox_wire_copies.proofs.QuietLemmas.{ahead_busy, busy_alike, empties_alike, next_word, stores_alike}
use Rattle.iox_wire_copies.proofs.copy_lending.CopyLending.quiet_step.Goals as goal

pub returns-then-is_storing-clause-quiet : goal.returns-then-is_storing-clause-quiet
returns-then-is_storing-clause-quiet c p aim =
    let old : CopyLoan = the_view c.self.inside in
    let new : CopyLoan = record old { lending = c.quiet_store.new.self; local = local_of c.self.inside.at c.quiet_store.new.self c.self.inside.payload.items c.self.inside.loan.slot c.self.inside.next } in
    let lends : Lends old = record { at = c.in-Lends.is; local = ap (λ (a : CopyAt). local_of a c.self.inside.lending c.self.inside.payload.items c.self.inside.loan.slot c.self.inside.next) c.in-Lends.is } in
    let local : new.local ≡ with_payload old.payload c.quiet_store.new.self.local = ap (λ (a : CopyAt). local_of a c.quiet_store.new.self c.self.inside.payload.items c.self.inside.loan.slot c.self.inside.next) c.in-Lends.is in
    let word : HasNextWord c.self.inside.lending.local (length c.self.inside.lending.words) = next_word c.self.inside.lending.local (length c.self.inside.lending.words) c.is_storing.result c.is_storing.ensures.told c.is_storing.ensures.within in
    let here : IsAimed p c.args.seat.now.seat old = subst (IsAimed p c.args.seat.now.seat) (sym c.self.view_is) aim in
    let known = (aimed_loan p c.args.seat.now.seat old lends here).0 in
    subst (λ (r : CopyLoan). StepsQuietly p (placed c.args.seat.now.seat r.local) c.args.words.now.items c.in_ok-seen-in-Lends.seen (placed c.count_access.new.self.seat new.local) c.quiet_store.new.words.items) c.self.view_is
    (stores_alike p c.args.seat.now c.count_access.new.self old new c.in_ok-seen-in-Lends.seen c.args.words.now.items c.quiet_store.new.words.items lends c.count_access.ensures local c.is_storing.ensures.place word
    c.in_ok-seen-in-Lends.ensures.next here (c.in_ok-seen-in-Lends.ensures.finds p c.args.seat.now.seat known) (c.in_ok-seen-in-Lends.ensures.leaves p c.args.seat.now.seat known))

pub returns-in_ok-seen-in-Lends-2-clause-quiet : goal.returns-in_ok-seen-in-Lends-2-clause-quiet
returns-in_ok-seen-in-Lends-2-clause-quiet c p aim =
    let old : CopyLoan = the_view c.self.inside in
    let new : CopyLoan = record old { lending = c.quiet_step.new.self; local = local_of c.self.inside.at c.quiet_step.new.self c.self.inside.payload.items c.self.inside.loan.slot c.self.inside.next } in
    let lends : Lends old = record { at = c.in-Lends.is; local = ap (λ (a : CopyAt). local_of a c.self.inside.lending c.self.inside.payload.items c.self.inside.loan.slot c.self.inside.next) c.in-Lends.is } in
    let local : new.local ≡ with_payload old.payload c.quiet_step.new.self.local = ap (λ (a : CopyAt). local_of a c.quiet_step.new.self c.self.inside.payload.items c.self.inside.loan.slot c.self.inside.next) c.in-Lends.is in
    let word : HasNextWord c.self.inside.lending.local (length c.self.inside.lending.words) = next_word c.self.inside.lending.local (length c.self.inside.lending.words) c.is_storing.result c.is_storing.ensures.told c.is_storing.ensures.within in
    let here : IsAimed p c.args.seat.now.seat old = subst (IsAimed p c.args.seat.now.seat) (sym c.self.view_is) aim in
    let before : is_storing c.self.inside.lending.local ≡ false = sym c.is_storing.ensures.told ∙ c.if-is_storing.false in
    subst (λ (r : CopyLoan). StepsQuietly p (placed c.args.seat.now.seat r.local) c.args.words.now.items c.in_ok-seen-in-Lends-2.seen (placed c.quiet_step.new.seat.seat new.local) c.quiet_step.new.words.items) c.self.view_is
    (empties_alike c.args.seat.now c.quiet_step.new.seat old new c.in_ok-seen-in-Lends-2.seen c.args.words.now.items c.quiet_step.new.words.items lends local c.is_storing.ensures.place word before
    c.in_ok-seen-in-Lends-2.ensures.quiet p here)

pub invariant_of-self-in-Lends : goal.invariant_of-self-in-Lends
invariant_of-self-in-Lends c = (
  c.self.invariant.0,
  c.self.invariant.1,
  c.self.invariant.2,
  c.quiet_step.ensures.busy ∙ c.self.invariant.3,
  subst (λ (a : CopyAt). HasSlots a c.self.inside.slots c.quiet_step.new.self) (sym c.in-Lends.is)
      (subst (λ (a : CopyAt). HasSlots a c.self.inside.slots c.self.inside.lending) c.in-Lends.is c.self.invariant.4 ∙ sym c.quiet_step.ensures.same.places),
  c.self.invariant.5,
  subst (λ (a : CopyAt). HasMade a c.quiet_step.new.self.order c.self.inside.loan) (sym c.in-Lends.is) tt,
  c.self.invariant.7,
)

pub returns-then-is_storing-clause-busy : goal.returns-then-is_storing-clause-busy
returns-then-is_storing-clause-busy c =
    ap is_busy (ap (λ (a : CopyAt). local_of a c.quiet_store.new.self c.self.inside.payload.items c.self.inside.loan.slot c.self.inside.next) c.in-Lends.is)
    ∙ busy_alike c.self.inside.payload.items c.self.inside.lending.local c.quiet_store.new.self.local (ahead_busy c.self.inside.lending.local c.quiet_store.new.self.local (length c.self.inside.lending.words) c.in_ok-seen-in-Lends.ensures.next)
    ∙ ap is_busy (sym (ap (λ (a : CopyAt). local_of a c.self.inside.lending c.self.inside.payload.items c.self.inside.loan.slot c.self.inside.next) c.in-Lends.is) ∙ ap (λ (r : CopyLoan). r.local) c.self.view_is)

pub returns-in_ok-seen-in-Lends-2-clause-busy : goal.returns-in_ok-seen-in-Lends-2-clause-busy
returns-in_ok-seen-in-Lends-2-clause-busy c =
    ap is_busy (ap (λ (a : CopyAt). local_of a c.quiet_step.new.self c.self.inside.payload.items c.self.inside.loan.slot c.self.inside.next) c.in-Lends.is)
    ∙ busy_alike c.self.inside.payload.items c.self.inside.lending.local c.quiet_step.new.self.local c.quiet_step.ensures.busy
    ∙ ap is_busy (sym (ap (λ (a : CopyAt). local_of a c.self.inside.lending c.self.inside.payload.items c.self.inside.loan.slot c.self.inside.next) c.in-Lends.is) ∙ ap (λ (r : CopyLoan). r.local) c.self.view_is)
