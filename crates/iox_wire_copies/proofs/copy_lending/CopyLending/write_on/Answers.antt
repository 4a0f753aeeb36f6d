use Rattle.std.proofs.Common.{◌≡◌, ◌+◌, ◌<◌, ◌^◌, None, Some, length, refl, sym, subst, ap, arith}
use Rattle.iox_wire_request_sends.specs.WireLoansAims.{IsStoring}
use Rattle.iox_wire_copies.specs.contracts.copy_lending.CopyLending.{the_view}
use Rattle.iox_wire_copies.specs.Copies.{CopyLoan, HasMade, HasWordsLeft, local_of}
use Rattle.iox_wire_copies.specs.CopyAims.{GoesOn, IsWriting, StaysAimed}
use Rattle.iox_wire_copies.specs.declared.at.CopyAt.{CopyAt}
use Rattle.iox_wire_copies.specs.declared.at.CopyAt.TheVariants as at
use Rattle.iox_wire_copies.specs.declared.at.CopyLent.TheVariants.{Made}
use Rattle.iox_wire_copies.proofs.LendLemmas.{it_writes}
use Rattle.iox_wire_copies.proofs.WriteLemmas.{Writes, writes_on, writes_made, writes_aimed}
use Rattle.iox_wire_copies.proofs.copy_lending.CopyLending.write_on.Goals as goal

pub returns-then-self-len-clause-next : goal.returns-then-self-len-clause-next
returns-then-self-len-clause-next c seen =
    let at' : c.self.inside.at ≡ at.Writes = it_writes c.self.inside.at (subst (λ (r : CopyLoan). IsWriting r.at) (sym c.self.view_is) c.requires.there) in
    let writes : Writes (the_view c.self.inside) c.self.inside.next = record {
      at = at';
      local = ap (λ (a : CopyAt). local_of a c.self.inside.lending c.self.inside.payload.items c.self.inside.loan.slot c.self.inside.next) at';
      made = subst (λ (a : CopyAt). HasMade a c.self.inside.lending.order c.self.inside.loan) at' c.self.invariant.6;
    } in
    let new : CopyLoan = record (the_view c.self.inside) { local = (local_of c.self.inside.at c.self.inside.lending c.self.inside.payload.items c.self.inside.loan.slot (c.self.inside.next + 1)) } in
    subst (λ (r : CopyLoan). GoesOn c.args.seat.now r seen c.count_access.new.self new None) c.self.view_is
    (writes_on c.args.seat.now c.count_access.new.self (the_view c.self.inside) new c.self.inside.next seen writes c.count_access.ensures
    (ap (λ (a : CopyAt). local_of a c.self.inside.lending c.self.inside.payload.items c.self.inside.loan.slot (c.self.inside.next + 1)) at')
    (omega (arith, c.len.ensures, c.if-self-len.true)))

pub returns-then-self-len-clause-aimed : goal.returns-then-self-len-clause-aimed
returns-then-self-len-clause-aimed c =
    let at' : c.self.inside.at ≡ at.Writes = it_writes c.self.inside.at (subst (λ (r : CopyLoan). IsWriting r.at) (sym c.self.view_is) c.requires.there) in
    let writes : Writes (the_view c.self.inside) c.self.inside.next = record {
      at = at';
      local = ap (λ (a : CopyAt). local_of a c.self.inside.lending c.self.inside.payload.items c.self.inside.loan.slot c.self.inside.next) at';
      made = subst (λ (a : CopyAt). HasMade a c.self.inside.lending.order c.self.inside.loan) at' c.self.invariant.6;
    } in
    subst (λ (r : CopyLoan). StaysAimed c.args.seat.now r c.count_access.new.self (record (the_view c.self.inside) { local = (local_of c.self.inside.at c.self.inside.lending c.self.inside.payload.items c.self.inside.loan.slot (c.self.inside.next + 1)) })) c.self.view_is
    (writes_aimed c.args.seat.now c.count_access.new.self (the_view c.self.inside) (local_of c.self.inside.at c.self.inside.lending c.self.inside.payload.items c.self.inside.loan.slot (c.self.inside.next + 1)) c.self.inside.next writes c.count_access.ensures)

pub returns-clause-next : goal.returns-clause-next
returns-clause-next c seen =
    let at' : c.self.inside.at ≡ at.Writes = it_writes c.self.inside.at (subst (λ (r : CopyLoan). IsWriting r.at) (sym c.self.view_is) c.requires.there) in
    let writes : Writes (the_view c.self.inside) c.self.inside.next = record {
      at = at';
      local = ap (λ (a : CopyAt). local_of a c.self.inside.lending c.self.inside.payload.items c.self.inside.loan.slot c.self.inside.next) at';
      made = subst (λ (a : CopyAt). HasMade a c.self.inside.lending.order c.self.inside.loan) at' c.self.invariant.6;
    } in
    let left : (c.self.inside.next < length c.self.inside.payload.items) × (c.self.inside.place + length c.self.inside.payload.items < 2 ^ 64) =
    subst (λ (a : CopyAt). HasWordsLeft a c.self.inside.place c.self.inside.next (length c.self.inside.payload.items)) at' c.self.invariant.5 in
    subst (λ (r : CopyLoan). GoesOn c.args.seat.now r seen c.count_access.new.self (the_view c.self.inside) (Some Made)) c.self.view_is
    (writes_made c.args.seat.now c.count_access.new.self (the_view c.self.inside) (the_view c.self.inside) c.self.inside.next seen writes c.count_access.ensures
    refl left.0 (omega (arith, c.len.ensures, c.if-self-len.false)))

pub returns-clause-stored : goal.returns-clause-stored
returns-clause-stored c =
    let at' : c.self.inside.at ≡ at.Writes = it_writes c.self.inside.at (subst (λ (r : CopyLoan). IsWriting r.at) (sym c.self.view_is) c.requires.there) in
    subst (λ (r : CopyLoan). IsStoring r.local) c.self.view_is
    (subst (λ (a : CopyAt). IsStoring (local_of a c.self.inside.lending c.self.inside.payload.items c.self.inside.loan.slot c.self.inside.next)) (sym at') tt)
