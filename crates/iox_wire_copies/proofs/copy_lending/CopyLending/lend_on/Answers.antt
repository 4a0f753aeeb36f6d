use Rattle.std.proofs.Common.{◌≡◌, false, None, Some, refl, sym, subst, ap, ◌∙◌}
use Rattle.std.specs.Prelude.{is_none}
use Rattle.iox_wire_request_sends.specs.LendReply.{LendReply}
use Rattle.iox_wire_request_sends.specs.WireLoansAims.{Answers, IsLoanAt, is_storing}
use Rattle.iox_wire_copies.specs.contracts.copy_lending.CopyLending.{the_view}
use Rattle.iox_wire_copies.specs.Copies.{CopyLoan, local_of}
use Rattle.iox_wire_copies.specs.CopyAims as copies
use Rattle.iox_wire_copies.specs.CopyAims.{IsAimed, IsLending, KeepsPeers}
use Rattle.iox_wire_copies.specs.declared.at.CopyAt.{CopyAt}
use Rattle.iox_wire_copies.specs.declared.at.CopyAt.TheVariants as at
use Rattle.iox_wire_copies.specs.declared.at.CopyLent.TheVariants.{Refused}
use Rattle.iox_wire_copies.proofs.LendLemmas.{Lends, it_lends, lend_goes_on, lend_refused, lend_peers, lend_aimed}
use Rattle.iox_wire_copies.proofs.copy_lending.CopyLending.lend_on.Goals as goal

pub returns-in-None-clause-next : goal.returns-in-None-clause-next
returns-in-None-clause-next c =
    let at' : c.self.inside.at ≡ at.Lends = it_lends c.self.inside.at (subst (λ (r : CopyLoan). IsLending r.at) (sym c.self.view_is) c.requires.there) in
    let lends : Lends (the_view c.self.inside) = record { at = at'; local = ap (λ (a : CopyAt). local_of a c.self.inside.lending c.self.inside.payload.items c.self.inside.loan.slot c.self.inside.next) at' } in
    let loan : IsLoanAt c.self.inside.lending.order c.self.inside.lending.local = subst (λ (r : CopyLoan). IsLoanAt r.lending.order r.lending.local) (sym c.self.view_is) c.requires.loan in
    let before : is_storing c.self.inside.lending.local ≡ false = ap (λ (r : CopyLoan). is_storing r.lending.local) c.self.view_is ∙ c.requires.before in
    let new : CopyLoan = record (the_view c.self.inside) { lending = c.go_on.new.self; local = local_of c.self.inside.at c.go_on.new.self c.self.inside.payload.items c.self.inside.loan.slot c.self.inside.next } in
    subst (λ (r : CopyLoan). copies.GoesOn c.args.seat.now r c.args.seen c.go_on.new.seat new None) c.self.view_is
    (lend_goes_on c.args.seat.now c.go_on.new.seat (the_view c.self.inside) new c.args.seen lends
    (ap (λ (a : CopyAt). local_of a c.go_on.new.self c.self.inside.payload.items c.self.inside.loan.slot c.self.inside.next) at')
    loan before c.go_on.ensures.next
    (subst (Answers c.args.seat.now c.self.inside.lending c.args.seen) c.in-None.is c.go_on.ensures.over))

pub returns-in-None-clause-aimed : goal.returns-in-None-clause-aimed
returns-in-None-clause-aimed c p aim told =
    let at' : c.self.inside.at ≡ at.Lends = it_lends c.self.inside.at (subst (λ (r : CopyLoan). IsLending r.at) (sym c.self.view_is) c.requires.there) in
    let lends : Lends (the_view c.self.inside) = record { at = at'; local = ap (λ (a : CopyAt). local_of a c.self.inside.lending c.self.inside.payload.items c.self.inside.loan.slot c.self.inside.next) at' } in
    let new : CopyLoan = record (the_view c.self.inside) { lending = c.go_on.new.self; local = local_of c.self.inside.at c.go_on.new.self c.self.inside.payload.items c.self.inside.loan.slot c.self.inside.next } in
    lend_aimed p c.args.seat.now c.go_on.new.seat (the_view c.self.inside) new lends at'
    (ap (λ (a : CopyAt). local_of a c.go_on.new.self c.self.inside.payload.items c.self.inside.loan.slot c.self.inside.next) at')
    c.go_on.ensures.same.order refl refl c.go_on.ensures.aimed
    (subst (IsAimed p c.args.seat.now.seat) (sym c.self.view_is) aim) told

pub returns-in-None-clause-peers : goal.returns-in-None-clause-peers
returns-in-None-clause-peers c =
    let at' : c.self.inside.at ≡ at.Lends = it_lends c.self.inside.at (subst (λ (r : CopyLoan). IsLending r.at) (sym c.self.view_is) c.requires.there) in
    let lends : Lends (the_view c.self.inside) = record { at = at'; local = ap (λ (a : CopyAt). local_of a c.self.inside.lending c.self.inside.payload.items c.self.inside.loan.slot c.self.inside.next) at' } in
    let loan : IsLoanAt c.self.inside.lending.order c.self.inside.lending.local = subst (λ (r : CopyLoan). IsLoanAt r.lending.order r.lending.local) (sym c.self.view_is) c.requires.loan in
    let before : is_storing c.self.inside.lending.local ≡ false = ap (λ (r : CopyLoan). is_storing r.lending.local) c.self.view_is ∙ c.requires.before in
    subst (λ (r : CopyLoan). KeepsPeers c.args.seat.now r c.go_on.new.seat) c.self.view_is
    (lend_peers c.args.seat.now c.go_on.new.seat (the_view c.self.inside) (record (the_view c.self.inside) { lending = c.go_on.new.self }) c.args.seen lends loan before c.go_on.ensures.next)

pub returns-in-Some-Refused-clause-next : goal.returns-in-Some-Refused-clause-next
returns-in-Some-Refused-clause-next c =
    let at' : c.self.inside.at ≡ at.Lends = it_lends c.self.inside.at (subst (λ (r : CopyLoan). IsLending r.at) (sym c.self.view_is) c.requires.there) in
    let lends : Lends (the_view c.self.inside) = record { at = at'; local = ap (λ (a : CopyAt). local_of a c.self.inside.lending c.self.inside.payload.items c.self.inside.loan.slot c.self.inside.next) at' } in
    let loan : IsLoanAt c.self.inside.lending.order c.self.inside.lending.local = subst (λ (r : CopyLoan). IsLoanAt r.lending.order r.lending.local) (sym c.self.view_is) c.requires.loan in
    let before : is_storing c.self.inside.lending.local ≡ false = ap (λ (r : CopyLoan). is_storing r.lending.local) c.self.view_is ∙ c.requires.before in
    let new : CopyLoan = record (the_view c.self.inside) { at = at.Rest; lending = c.go_on.new.self; local = local_of at.Rest c.go_on.new.self c.self.inside.payload.items c.self.inside.loan.slot c.self.inside.next } in
    subst (λ (r : CopyLoan). copies.GoesOn c.args.seat.now r c.args.seen c.go_on.new.seat new (Some (Refused c.in-Some-Refused.refusal))) c.self.view_is
    (lend_refused c.args.seat.now c.go_on.new.seat (the_view c.self.inside) new c.args.seen c.in-Some-Refused.refusal lends refl
    (c.go_on.ensures.busy ∙ ap is_none (c.in-Some-Refused.is ∙ ap (λ (l : LendReply). Some l) c.in-Some-Refused.field-0-is)) loan before c.go_on.ensures.next
    (subst (Answers c.args.seat.now c.self.inside.lending c.args.seen) (c.in-Some-Refused.is ∙ ap (λ (l : LendReply). Some l) c.in-Some-Refused.field-0-is) c.go_on.ensures.over))

pub returns-in-Some-Refused-clause-peers : goal.returns-in-Some-Refused-clause-peers
returns-in-Some-Refused-clause-peers c =
    let at' : c.self.inside.at ≡ at.Lends = it_lends c.self.inside.at (subst (λ (r : CopyLoan). IsLending r.at) (sym c.self.view_is) c.requires.there) in
    let lends : Lends (the_view c.self.inside) = record { at = at'; local = ap (λ (a : CopyAt). local_of a c.self.inside.lending c.self.inside.payload.items c.self.inside.loan.slot c.self.inside.next) at' } in
    let loan : IsLoanAt c.self.inside.lending.order c.self.inside.lending.local = subst (λ (r : CopyLoan). IsLoanAt r.lending.order r.lending.local) (sym c.self.view_is) c.requires.loan in
    let before : is_storing c.self.inside.lending.local ≡ false = ap (λ (r : CopyLoan). is_storing r.lending.local) c.self.view_is ∙ c.requires.before in
    subst (λ (r : CopyLoan). KeepsPeers c.args.seat.now r c.go_on.new.seat) c.self.view_is
    (lend_peers c.args.seat.now c.go_on.new.seat (the_view c.self.inside) (record (the_view c.self.inside) { lending = c.go_on.new.self }) c.args.seen lends loan before c.go_on.ensures.next)
