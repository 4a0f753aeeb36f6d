use Rattle.std.proofs.Common.{◌≡◌, ◌+◌, sym, subst, ap}
use Rattle.iox_wire_locals.specs.declared.local.Local.{Local}
use Rattle.iox_wire_locals.specs.declared.local.Local.TheVariants.{LendStores}
use Rattle.iox_wire_loans.specs.declared.at.LendAt.{LendAt}
use Rattle.iox_wire_loans.specs.declared.at.LendAt.TheVariants as at
use Rattle.iox_wire_loans.specs.contracts.lending.Lending.{the_view}
use Rattle.iox_wire_loans.specs.Aims.{AreAimed, IsAimed, IsStoring}
use Rattle.iox_wire_loans.specs.Loans.{Beside, Loaned, local_of}
use Rattle.iox_wire_loans.specs.Orders.{loan_of}
use Rattle.iox_wire_loans.proofs.QuietLemmas.{it_stores}
use Rattle.iox_wire_loans.proofs.lending.Lending.quiet_store.Goals as goal

pub returns-clause-aimed : goal.returns-clause-aimed
returns-clause-aimed c p x aim =
    let at' : c.self.inside.at ≡ at.Stores = it_stores c.self.inside.at _ (subst (λ (r : Loaned). IsStoring r.local) (sym c.self.view_is) c.requires.there) in
    let beside : Beside = record { order = c.self.inside.order; way = c.self.inside.way; left = c.self.inside.left.left; popping = c.self.inside.popper; slot = c.self.inside.slot; next = c.self.inside.next; refusal = c.self.inside.refusal } in
    let known : AreAimed p x (LendStores (loan_of c.self.inside.order) c.self.inside.slot c.self.inside.next) (the_view c.self.inside) =
    subst (λ (l : Local). AreAimed p x l (the_view c.self.inside)) (ap (λ (a : LendAt). local_of a beside) at')
    (subst (IsAimed p x) (sym c.self.view_is) aim) in
    subst (λ (l : Local). AreAimed p x l (the_view (record (c.self.inside) { next = c.self.inside.next + 1 })))
    (sym (ap (λ (a : LendAt). local_of a (record beside { next = c.self.inside.next + 1 })) at'))
    (record { number = known.0.number; words = known.0.words; slots = known.0.slots }, known.1)
