use Rattle.std.proofs.Common.{ℕ, List, refl, ap, subst}
use Rattle.iox_wire_locals.specs.declared.local.Ending.TheVariants as endings
use Rattle.iox_wire_locals.specs.declared.local.Local.{Local}
use Rattle.iox_wire_locals.specs.declared.local.Local.TheVariants.{Ends, Idle, LendEmpties, LendStores}
use Rattle.iox_wire_locals.specs.declared.table.NewLoan.{NewLoan}
use Rattle.iox_wire_request_sends.specs.Loans.{Loaned}
use Rattle.iox_wire_request_sends.specs.Order.{Order}
use Rattle.iox_wire_request_sends.specs.WireLoansAims.{IsLoanAt}
use Rattle.iox_wire_copies.specs.declared.at.CopyAt.{CopyAt}
use Rattle.iox_wire_copies.specs.declared.at.CopyAt.TheVariants as at
use Rattle.iox_wire_copies.specs.Copies.{CopyLoan, IsLoanOf, StoresOrder, local_of, with_payload}
use Rattle.iox_wire_copies.proofs.copy_lending.CopyLending.place.Goals as goal

with_it : (order : Order) (payload : List ℕ) (l : Local) → IsLoanAt order l → IsLoanOf order.kind (with_payload payload l)
with_it order payload Idle is = tt
with_it order payload (Ends (endings.Refuses r)) is = tt
with_it order payload (LendEmpties o w place left) is = ap (λ (q : NewLoan). q.kind) is
with_it order payload (LendStores o slot n) is = ap (λ (q : NewLoan). q.kind) is
with_it order payload l is = absurd is

its_loan : (name : CopyAt) (r : Loaned) (payload : List ℕ) (slot n : ℕ) → IsLoanAt r.order r.local → IsLoanOf r.order.kind (local_of name r payload slot n)
its_loan at.Rest r payload slot n is = tt
its_loan at.Lends r payload slot n is = with_it r.order payload r.local is
its_loan at.Writes r payload slot n is = refl

stored_order : (order : Order) (payload : List ℕ) (l : Local) → IsLoanAt order l → StoresOrder order (with_payload payload l)
stored_order order payload Idle is = tt
stored_order order payload (Ends (endings.Refuses r)) is = tt
stored_order order payload (LendEmpties o w place left) is = tt
stored_order order payload (LendStores o slot n) is = (ap (λ (q : NewLoan). q.kind) is, ap (λ (q : NewLoan). q.port) is, ap (λ (q : NewLoan). q.lane) is)
stored_order order payload l is = absurd is

its_order : (name : CopyAt) (r : Loaned) (payload : List ℕ) (slot n : ℕ) → IsLoanAt r.order r.local → StoresOrder r.order (local_of name r payload slot n)
its_order at.Rest r payload slot n is = tt
its_order at.Lends r payload slot n is = stored_order r.order payload r.local is
its_order at.Writes r payload slot n is = (refl, refl, refl)

pub returns-clause-order : goal.returns-clause-order
returns-clause-order c =
    subst (λ (r : CopyLoan). StoresOrder r.lending.order r.local) c.self.view_is
    (its_order c.self.inside.at c.self.inside.lending c.self.inside.payload.items c.self.inside.loan.slot c.self.inside.next c.is_storing-storing.ensures.place)

pub returns-clause-kind : goal.returns-clause-kind
returns-clause-kind c =
    subst (λ (r : CopyLoan). IsLoanOf r.lending.order.kind r.local) c.self.view_is
    (its_loan c.self.inside.at c.self.inside.lending c.self.inside.payload.items c.self.inside.loan.slot c.self.inside.next c.is_storing-storing.ensures.place)
