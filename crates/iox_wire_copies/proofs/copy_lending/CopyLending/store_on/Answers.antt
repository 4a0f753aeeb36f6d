use Rattle.std.proofs.Common.{◌≡◌, ◌<◌, None, Some, length, refl, sym, subst, ap, arith}
use Rattle.std.specs.Prelude.{Option}
use Rattle.iox_wire_locals.specs.declared.table.Entry.{Entry}
use Rattle.iox_wire_request_sends.specs.WireLoansAims.{IsLoanAt, IsStoring, StoresAhead}
use Rattle.iox_wire_copies.specs.contracts.copy_lending.CopyLending.{the_view}
use Rattle.iox_wire_copies.specs.Copies.{CopyLoan, HasSlots, local_of}
use Rattle.iox_wire_copies.specs.CopyAims.{GoesOn, IsLending, StaysAimed}
use Rattle.iox_wire_copies.specs.declared.at.CopyAt.{CopyAt}
use Rattle.iox_wire_copies.specs.declared.at.CopyAt.TheVariants as at
use Rattle.iox_wire_copies.specs.declared.at.CopyLent.TheVariants.{Made}
use Rattle.iox_wire_copies.proofs.LendLemmas.{Lends, it_lends, stores_alike}
use Rattle.iox_wire_copies.proofs.WriteLemmas.{copy_goes_on, copy_writes, copy_makes, copy_aimed}
use Rattle.iox_wire_copies.proofs.copy_lending.CopyLending.store_on.Goals as goal

pub returns-in_default-clause-next : goal.returns-in_default-clause-next
returns-in_default-clause-next c seen =
    let at' : c.self.inside.at ≡ at.Lends = it_lends c.self.inside.at (subst (λ (r : CopyLoan). IsLending r.at) (sym c.self.view_is) c.requires.there) in
    let lends : Lends (the_view c.self.inside) = record { at = at'; local = ap (λ (a : CopyAt). local_of a c.self.inside.lending c.self.inside.payload.items c.self.inside.loan.slot c.self.inside.next) at' } in
    let loan : IsLoanAt c.self.inside.lending.order c.self.inside.lending.local = subst (λ (r : CopyLoan). IsLoanAt r.lending.order r.lending.local) (sym c.self.view_is) c.requires.loan in
    let ahead : StoresAhead c.self.inside.lending.local (length c.self.inside.lending.words) None c.store_ahead.new.self.local = subst (λ (o : Option Entry). StoresAhead c.self.inside.lending.local (length c.self.inside.lending.words) o c.store_ahead.new.self.local) c.in_default.is c.store_ahead.ensures.next in
    let new : CopyLoan = record (the_view c.self.inside) { lending = c.store_ahead.new.self; local = local_of c.self.inside.at c.store_ahead.new.self c.self.inside.payload.items c.self.inside.loan.slot c.self.inside.next } in
    subst (λ (r : CopyLoan). GoesOn c.args.seat.now r seen c.count_access.new.self new None) c.self.view_is
    (copy_goes_on c.args.seat.now c.count_access.new.self (the_view c.self.inside) new seen lends c.count_access.ensures
    (ap (λ (a : CopyAt). local_of a c.store_ahead.new.self c.self.inside.payload.items c.self.inside.loan.slot c.self.inside.next) at') loan ahead)

pub returns-then-len-eq0-clause-next : goal.returns-then-len-eq0-clause-next
returns-then-len-eq0-clause-next c seen =
    let at' : c.self.inside.at ≡ at.Lends = it_lends c.self.inside.at (subst (λ (r : CopyLoan). IsLending r.at) (sym c.self.view_is) c.requires.there) in
    let lends : Lends (the_view c.self.inside) = record { at = at'; local = ap (λ (a : CopyAt). local_of a c.self.inside.lending c.self.inside.payload.items c.self.inside.loan.slot c.self.inside.next) at' } in
    let loan : IsLoanAt c.self.inside.lending.order c.self.inside.lending.local = subst (λ (r : CopyLoan). IsLoanAt r.lending.order r.lending.local) (sym c.self.view_is) c.requires.loan in
    let ahead : StoresAhead c.self.inside.lending.local (length c.self.inside.lending.words) (Some c.in-Some.loan) c.store_ahead.new.self.local = subst (λ (o : Option Entry). StoresAhead c.self.inside.lending.local (length c.self.inside.lending.words) o c.store_ahead.new.self.local) c.in-Some.is c.store_ahead.ensures.next in
    let made : CopyLoan = record (the_view c.self.inside) { loan = c.in-Some.loan } in
    subst (λ (r : CopyLoan). GoesOn c.args.seat.now r seen c.count_access.new.self made (Some Made)) c.self.view_is
    (copy_makes c.args.seat.now c.count_access.new.self (the_view c.self.inside) made seen c.store_ahead.new.self.local c.in-Some.loan lends c.count_access.ensures
    refl loan ahead (omega (arith, c.len.ensures, c.if-len-eq0.true)))

pub returns-clause-next : goal.returns-clause-next
returns-clause-next c seen =
    let at' : c.self.inside.at ≡ at.Lends = it_lends c.self.inside.at (subst (λ (r : CopyLoan). IsLending r.at) (sym c.self.view_is) c.requires.there) in
    let lends : Lends (the_view c.self.inside) = record { at = at'; local = ap (λ (a : CopyAt). local_of a c.self.inside.lending c.self.inside.payload.items c.self.inside.loan.slot c.self.inside.next) at' } in
    let loan : IsLoanAt c.self.inside.lending.order c.self.inside.lending.local = subst (λ (r : CopyLoan). IsLoanAt r.lending.order r.lending.local) (sym c.self.view_is) c.requires.loan in
    let ahead : StoresAhead c.self.inside.lending.local (length c.self.inside.lending.words) (Some c.in-Some.loan) c.store_ahead.new.self.local = subst (λ (o : Option Entry). StoresAhead c.self.inside.lending.local (length c.self.inside.lending.words) o c.store_ahead.new.self.local) c.in-Some.is c.store_ahead.ensures.next in
    let new : CopyLoan = record { at = at.Writes; local = local_of at.Writes c.store_ahead.new.self c.self.inside.payload.items c.in-Some.loan.slot 0; lending = c.store_ahead.new.self; payload = c.self.inside.payload.items; slots = c.self.inside.slots; places = c.self.inside.places; loan = c.in-Some.loan; place = c.place-self-inside.result; payload_room = c.self.inside.longest } in
    let some : 0 < length c.self.inside.payload.items = omega (arith, c.len.ensures, c.if-len-eq0.false) in
    subst (λ (r : CopyLoan). GoesOn c.args.seat.now r seen c.count_access.new.self new None) c.self.view_is
    (copy_writes c.args.seat.now c.count_access.new.self (the_view c.self.inside) new seen c.store_ahead.new.self.local c.in-Some.loan lends c.count_access.ensures
    refl c.store_ahead.ensures.same loan ahead some)

pub returns-clause-aimed : goal.returns-clause-aimed
returns-clause-aimed c =
    let at' : c.self.inside.at ≡ at.Lends = it_lends c.self.inside.at (subst (λ (r : CopyLoan). IsLending r.at) (sym c.self.view_is) c.requires.there) in
    let lends : Lends (the_view c.self.inside) = record { at = at'; local = ap (λ (a : CopyAt). local_of a c.self.inside.lending c.self.inside.payload.items c.self.inside.loan.slot c.self.inside.next) at' } in
    let loan : IsLoanAt c.self.inside.lending.order c.self.inside.lending.local = subst (λ (r : CopyLoan). IsLoanAt r.lending.order r.lending.local) (sym c.self.view_is) c.requires.loan in
    let ahead : StoresAhead c.self.inside.lending.local (length c.self.inside.lending.words) (Some c.in-Some.loan) c.store_ahead.new.self.local = subst (λ (o : Option Entry). StoresAhead c.self.inside.lending.local (length c.self.inside.lending.words) o c.store_ahead.new.self.local) c.in-Some.is c.store_ahead.ensures.next in
    let new : CopyLoan = record { at = at.Writes; local = local_of at.Writes c.store_ahead.new.self c.self.inside.payload.items c.in-Some.loan.slot 0; lending = c.store_ahead.new.self; payload = c.self.inside.payload.items; slots = c.self.inside.slots; places = c.self.inside.places; loan = c.in-Some.loan; place = c.place-self-inside.result; payload_room = c.self.inside.longest } in
    subst (λ (r : CopyLoan). StaysAimed c.args.seat.now r c.count_access.new.self new) c.self.view_is
    (copy_aimed c.args.seat.now c.count_access.new.self (the_view c.self.inside) new c.store_ahead.new.self.local c.in-Some.loan lends c.count_access.ensures
    refl refl refl c.store_ahead.ensures.same loan ahead refl
    (subst (λ (a : CopyAt). HasSlots a c.self.inside.slots c.self.inside.lending) at' c.self.invariant.4) c.place-self-inside.ensures.there)

pub returns-then-len-eq0-clause-stored : goal.returns-then-len-eq0-clause-stored
returns-then-len-eq0-clause-stored c =
    let at' : c.self.inside.at ≡ at.Lends = it_lends c.self.inside.at (subst (λ (r : CopyLoan). IsLending r.at) (sym c.self.view_is) c.requires.there) in
    let storing : IsStoring c.self.inside.lending.local = subst (λ (r : CopyLoan). IsStoring r.lending.local) (sym c.self.view_is) c.requires.storing in
    subst (λ (r : CopyLoan). IsStoring r.local) c.self.view_is
    (subst (λ (a : CopyAt). IsStoring (local_of a c.self.inside.lending c.self.inside.payload.items c.self.inside.loan.slot c.self.inside.next)) (sym at')
    (stores_alike c.self.inside.payload.items c.self.inside.lending.local storing))
