use Rattle.std.proofs.Common.{◌≡◌, None, Some, refl, sym, subst, ap, ◌∙◌}
use Rattle.std.specs.Prelude.{Option}
use Rattle.iox_wire_locals.specs.declared.table.Entry.{Entry}
use Rattle.iox_wire_locals.specs.Courses.{placed}
use Rattle.iox_wire_locals.specs.NewLoans.{entry_in}
use Rattle.iox_wire_locals.specs.Steps.{next, tells}
use Rattle.iox_wire_request_sends.specs.Order.{Order}
use Rattle.iox_wire_request_sends.specs.Orders.{loan_of}
use Rattle.iox_wire_copies.specs.contracts.copying_client.CopyingClient.{the_view}
use Rattle.iox_wire_copies.specs.declared.at.CopierAt.{CopierAt}
use Rattle.iox_wire_copies.specs.declared.at.CopierAt.TheVariants as at
use Rattle.iox_wire_copies.specs.declared.at.CopyLent.{CopyLent}
use Rattle.iox_wire_copies.specs.declared.at.CopyLent.TheVariants.{Made}
use Rattle.iox_wire_copies.specs.CopyAims as copies
use Rattle.iox_wire_copies.specs.Copiers.{IsLending, local_of}
use Rattle.iox_wire_copies.specs.CopyCalls.{Answers, CopyCall, IsAimed, LeadsTo, LendsRequest, SendsTo, StaysAimed}
use Rattle.iox_wire_copies.proofs.CopierLemmas.{copier_lends}
use Rattle.iox_wire_copies.proofs.SendLemmas.{Lends, lends_aimed, lends_over, made_leads, made_next, made_over}
use Rattle.iox_wire_copies.proofs.copying_client.CopyingClient.lend_on.Goals as goal

pub returns-in-None-clause-over : goal.returns-in-None-clause-over
returns-in-None-clause-over c =
    let at' : c.self.inside.at ≡ at.Lends = copier_lends c.self.inside.at (subst (λ (r : CopyCall). IsLending r.at) (sym c.self.view_is) c.requires.there) in
    let lends : Lends (the_view c.self.inside) = record { at = at'; local = ap (λ (a : CopierAt). local_of a c.self.inside.lends.local c.self.inside.sends.local) at' } in
    subst (λ (r : CopyCall). Answers c.args.seat.now r c.args.seen None) c.self.view_is
    (lends_over c.args.seat.now c.go_on.new.seat (the_view c.self.inside) c.go_on.new.self c.args.seen lends
    (subst (λ (o : Option CopyLent). copies.GoesOn c.args.seat.now c.self.inside.lends c.args.seen c.go_on.new.seat c.go_on.new.self o) c.in-None.is c.go_on.ensures.next))

pub returns-in-None-clause-aimed : goal.returns-in-None-clause-aimed
returns-in-None-clause-aimed c =
    let at' : c.self.inside.at ≡ at.Lends = copier_lends c.self.inside.at (subst (λ (r : CopyCall). IsLending r.at) (sym c.self.view_is) c.requires.there) in
    let lends : Lends (the_view c.self.inside) = record { at = at'; local = ap (λ (a : CopierAt). local_of a c.self.inside.lends.local c.self.inside.sends.local) at' } in
    let new : CopyCall = record { at = c.self.inside.at; local = local_of c.self.inside.at c.go_on.new.self.local c.self.inside.sends.local; lends = c.go_on.new.self; sends = c.self.inside.sends } in
    subst (λ (r : CopyCall). StaysAimed c.args.seat.now r c.go_on.new.seat new) c.self.view_is
    (lends_aimed c.args.seat.now c.go_on.new.seat (the_view c.self.inside) new lends at'
    (ap (λ (a : CopierAt). local_of a c.go_on.new.self.local c.self.inside.sends.local) at') refl
    c.go_on.ensures.aimed c.go_on.ensures.peers c.go_on.ensures.same
    (ap (λ (o : Order). o.kind) c.go_on.ensures.same.order
    ∙ (subst (λ (a : CopierAt). LendsRequest a c.self.inside.lends.lending.order) at' c.self.invariant.2).0)
    c.place.ensures.order)

pub returns-in-Some-Made-clause-next : goal.returns-in-Some-Made-clause-next
returns-in-Some-Made-clause-next c p aimed =
    let at' : c.self.inside.at ≡ at.Lends = copier_lends c.self.inside.at (subst (λ (r : CopyCall). IsLending r.at) (sym c.self.view_is) c.requires.there) in
    let lends : Lends (the_view c.self.inside) = record { at = at'; local = ap (λ (a : CopierAt). local_of a c.self.inside.lends.local c.self.inside.sends.local) at' } in
    let led : copies.GoesOn c.args.seat.now c.self.inside.lends c.args.seen c.go_on.new.seat c.go_on.new.self (Some Made) =
    subst (λ (o : Option CopyLent). copies.GoesOn c.args.seat.now c.self.inside.lends c.args.seen c.go_on.new.seat c.go_on.new.self o) (c.in-Some-Made.is ∙ ap (λ (l : CopyLent). Some l) c.in-Some-Made.field-0-is) c.go_on.ensures.next in
    let made : c.go_on.new.self.loan ≡ entry_in (loan_of c.go_on.new.self.lending.order) c.go_on.new.self.loan.slot =
    subst (copies.IsLoanOfOrder c.go_on.new.self) (c.in-Some-Made.is ∙ ap (λ (l : CopyLent). Some l) c.in-Some-Made.field-0-is) c.go_on.ensures.made in
    let aim : IsAimed p c.args.seat.now.seat (the_view c.self.inside) = subst (IsAimed p c.args.seat.now.seat) (sym c.self.view_is) aimed in
    let leads : LeadsTo p c.go_on.new.seat.seat c.go_on.new.self.loan c.send.new.seat c.send.new.self c.send.result =
    made_leads p c.args.seat.now c.go_on.new.seat c.send.new.seat (the_view c.self.inside) c.send.new.self c.go_on.new.self c.args.seen c.send.result lends
    led c.go_on.ensures.peers c.go_on.ensures.same made
    (subst (copies.IsMadeAt c.self.inside.lends.local) (c.in-Some-Made.is ∙ ap (λ (l : CopyLent). Some l) c.in-Some-Made.field-0-is) c.go_on.ensures.stored)
    (subst (λ (e : Entry). SendsTo c.go_on.new.seat.seat c.self.inside.sends e c.send.new.seat c.send.new.self c.send.result) c.loan-loan.ensures c.send.ensures.next) aim in
    made_next p c.args.seat.now c.go_on.new.seat c.send.new.seat (the_view c.self.inside) c.send.new.self c.go_on.new.self c.args.seen c.send.result lends led leads aim
    ∙ ap (λ (r : CopyCall). next p (placed c.args.seat.now.seat r.local) c.args.seen) c.self.view_is

pub returns-in-Some-Made-clause-over : goal.returns-in-Some-Made-clause-over
returns-in-Some-Made-clause-over c p aimed =
    let at' : c.self.inside.at ≡ at.Lends = copier_lends c.self.inside.at (subst (λ (r : CopyCall). IsLending r.at) (sym c.self.view_is) c.requires.there) in
    let lends : Lends (the_view c.self.inside) = record { at = at'; local = ap (λ (a : CopierAt). local_of a c.self.inside.lends.local c.self.inside.sends.local) at' } in
    let led : copies.GoesOn c.args.seat.now c.self.inside.lends c.args.seen c.go_on.new.seat c.go_on.new.self (Some Made) =
    subst (λ (o : Option CopyLent). copies.GoesOn c.args.seat.now c.self.inside.lends c.args.seen c.go_on.new.seat c.go_on.new.self o) (c.in-Some-Made.is ∙ ap (λ (l : CopyLent). Some l) c.in-Some-Made.field-0-is) c.go_on.ensures.next in
    let made : c.go_on.new.self.loan ≡ entry_in (loan_of c.go_on.new.self.lending.order) c.go_on.new.self.loan.slot =
    subst (copies.IsLoanOfOrder c.go_on.new.self) (c.in-Some-Made.is ∙ ap (λ (l : CopyLent). Some l) c.in-Some-Made.field-0-is) c.go_on.ensures.made in
    let aim : IsAimed p c.args.seat.now.seat (the_view c.self.inside) = subst (IsAimed p c.args.seat.now.seat) (sym c.self.view_is) aimed in
    let leads : LeadsTo p c.go_on.new.seat.seat c.go_on.new.self.loan c.send.new.seat c.send.new.self c.send.result =
    made_leads p c.args.seat.now c.go_on.new.seat c.send.new.seat (the_view c.self.inside) c.send.new.self c.go_on.new.self c.args.seen c.send.result lends
    led c.go_on.ensures.peers c.go_on.ensures.same made
    (subst (copies.IsMadeAt c.self.inside.lends.local) (c.in-Some-Made.is ∙ ap (λ (l : CopyLent). Some l) c.in-Some-Made.field-0-is) c.go_on.ensures.stored)
    (subst (λ (e : Entry). SendsTo c.go_on.new.seat.seat c.self.inside.sends e c.send.new.seat c.send.new.self c.send.result) c.loan-loan.ensures c.send.ensures.next) aim in
    ap (λ (r : CopyCall). tells p (placed c.args.seat.now.seat r.local) c.args.seen) (sym c.self.view_is)
    ∙ made_over p c.args.seat.now c.go_on.new.seat c.send.new.seat (the_view c.self.inside) c.send.new.self c.go_on.new.self c.args.seen c.send.result lends led leads aim

pub returns-in-Some-Made-clause-aimed : goal.returns-in-Some-Made-clause-aimed
returns-in-Some-Made-clause-aimed c p aimed of_slot =
    let at' : c.self.inside.at ≡ at.Lends = copier_lends c.self.inside.at (subst (λ (r : CopyCall). IsLending r.at) (sym c.self.view_is) c.requires.there) in
    let lends : Lends (the_view c.self.inside) = record { at = at'; local = ap (λ (a : CopierAt). local_of a c.self.inside.lends.local c.self.inside.sends.local) at' } in
    let led : copies.GoesOn c.args.seat.now c.self.inside.lends c.args.seen c.go_on.new.seat c.go_on.new.self (Some Made) =
    subst (λ (o : Option CopyLent). copies.GoesOn c.args.seat.now c.self.inside.lends c.args.seen c.go_on.new.seat c.go_on.new.self o) (c.in-Some-Made.is ∙ ap (λ (l : CopyLent). Some l) c.in-Some-Made.field-0-is) c.go_on.ensures.next in
    let made : c.go_on.new.self.loan ≡ entry_in (loan_of c.go_on.new.self.lending.order) c.go_on.new.self.loan.slot =
    subst (copies.IsLoanOfOrder c.go_on.new.self) (c.in-Some-Made.is ∙ ap (λ (l : CopyLent). Some l) c.in-Some-Made.field-0-is) c.go_on.ensures.made in
    let aim : IsAimed p c.args.seat.now.seat (the_view c.self.inside) = subst (IsAimed p c.args.seat.now.seat) (sym c.self.view_is) aimed in
    let leads : LeadsTo p c.go_on.new.seat.seat c.go_on.new.self.loan c.send.new.seat c.send.new.self c.send.result =
    made_leads p c.args.seat.now c.go_on.new.seat c.send.new.seat (the_view c.self.inside) c.send.new.self c.go_on.new.self c.args.seen c.send.result lends
    led c.go_on.ensures.peers c.go_on.ensures.same made
    (subst (copies.IsMadeAt c.self.inside.lends.local) (c.in-Some-Made.is ∙ ap (λ (l : CopyLent). Some l) c.in-Some-Made.field-0-is) c.go_on.ensures.stored)
    (subst (λ (e : Entry). SendsTo c.go_on.new.seat.seat c.self.inside.sends e c.send.new.seat c.send.new.self c.send.result) c.loan-loan.ensures c.send.ensures.next) aim in
    leads.aimed
