use Rattle.std.proofs.Common.{◌≡◌, None, length, sym, subst, ap, ◌∙◌}
use Rattle.iox_wire_locals.specs.declared.local.Local.{Local}
use Rattle.iox_wire_locals.specs.declared.local.Local.TheVariants.{LendStores}
use Rattle.iox_wire_locals.specs.Courses.{placed}
use Rattle.iox_steps.specs.Accesses.{seen_at, words_after}
use Rattle.iox_wire_words.specs.Programs.{program_access}
use Rattle.iox_wire_locals.specs.Locals.{program_of}
use Rattle.iox_wire_seats.specs.QuietSteps.{StepsQuietly}
use Rattle.iox_wire_seats.specs.Seats.{Placed}
use Rattle.iox_wire_loans.specs.declared.at.LendAt.{LendAt}
use Rattle.iox_wire_loans.specs.contracts.lending.Lending.{the_view}
use Rattle.iox_wire_loans.specs.Aims.{AreAimed, IsAimed, StoresAhead}
use Rattle.iox_wire_loans.specs.Loans.{Beside, Loaned, local_of}
use Rattle.iox_wire_loans.specs.Orders.{loan_of}
use Rattle.iox_wire_loans.proofs.QuietLemmas.{stores_quietly}
use Rattle.iox_wire_loans.proofs.lending.Lending.quiet_step.Goals as goal

pub returns-in_ok-seen-in-Stores-clause-quiet : goal.returns-in_ok-seen-in-Stores-clause-quiet
returns-in_ok-seen-in-Stores-clause-quiet c p aim =
    let beside : Beside = record { order = c.self.inside.order; way = c.self.inside.way; left = c.self.inside.left.left; popping = c.self.inside.popper; slot = c.self.inside.slot; next = c.self.inside.next; refusal = c.self.inside.refusal } in
    let old : Loaned = the_view c.self.inside in
    let local : old.local ≡ LendStores (loan_of c.self.inside.order) c.self.inside.slot c.self.inside.next = ap (λ (a : LendAt). local_of a beside) c.in-Stores.is in
    let here : IsAimed p c.args.seat.now.seat old = subst (IsAimed p c.args.seat.now.seat) (sym c.self.view_is) aim in
    let known : AreAimed p c.args.seat.now.seat (LendStores (loan_of c.self.inside.order) c.self.inside.slot c.self.inside.next) old =
    subst (λ (l : Local). AreAimed p c.args.seat.now.seat l old) local here in
    let ahead : StoresAhead (LendStores (loan_of c.self.inside.order) c.self.inside.slot c.self.inside.next) (length old.words) None c.quiet_store.new.self.local =
    subst (λ (l : Local). StoresAhead l (length old.words) None c.quiet_store.new.self.local) local
    (subst (λ (r : Loaned). StoresAhead r.local (length r.words) None c.quiet_store.new.self.local) (sym c.self.view_is) c.in_ok-seen-in-Stores.ensures.next) in
    let now : c.args.self.now.local ≡ LendStores (loan_of c.self.inside.order) c.self.inside.slot c.self.inside.next = ap (λ (r : Loaned). r.local) (sym c.self.view_is) ∙ local in
    subst (λ (r : Loaned). StepsQuietly p (placed c.args.seat.now.seat r.local) c.args.words.now.items c.in_ok-seen-in-Stores.seen (placed c.count_access-in-Stores.new.self.seat c.quiet_store.new.self.local) c.quiet_store.new.words.items) c.self.view_is
    (subst (λ (l : Local). StepsQuietly p (placed c.args.seat.now.seat l) c.args.words.now.items c.in_ok-seen-in-Stores.seen (placed c.count_access-in-Stores.new.self.seat c.quiet_store.new.self.local) c.quiet_store.new.words.items) (sym local)
    (subst (λ (y : Placed). StepsQuietly p (placed c.args.seat.now.seat (LendStores (loan_of c.self.inside.order) c.self.inside.slot c.self.inside.next)) c.args.words.now.items c.in_ok-seen-in-Stores.seen (placed y.seat c.quiet_store.new.self.local) c.quiet_store.new.words.items) (sym c.count_access-in-Stores.ensures)
    (stores_quietly p c.args.seat.now.seat old c.self.inside.slot c.self.inside.next c.in_ok-seen-in-Stores.seen c.quiet_store.new.self.local c.args.words.now.items c.quiet_store.new.words.items known.0 ahead
    (c.in_ok-seen-in-Stores.ensures.finds p c.args.seat.now.seat aim ∙ ap (λ (l : Local). seen_at (program_access p.layout (program_of p l)) c.args.words.now.items) now)
    (c.in_ok-seen-in-Stores.ensures.leaves p c.args.seat.now.seat aim ∙ ap (λ (l : Local). words_after (program_access p.layout (program_of p l)) c.args.words.now.items) now))))
