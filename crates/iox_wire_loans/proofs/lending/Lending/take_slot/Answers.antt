use Rattle.std.proofs.Common.{◌≡◌, ◌<◌, ℕ, refl, ap, ap₂, sym, subst, ◌∙◌, arith}
use Rattle.std.specs.Prelude.{drop}
use Rattle.iox_wire_locals.specs.Known.{free_slots}
use Rattle.iox_wire_locals.specs.Lendings.{next_handle}
use Rattle.iox_wire_seats.specs.Lends.{picked}
use Rattle.iox_wire_seats.specs.Seats.{Placed}
use Rattle.iox_wire_loans.specs.contracts.lending.Lending.{the_view}
use Rattle.iox_wire_loans.specs.Aims.{FitsSlots, Knows, LeavesSeat}
use Rattle.iox_wire_loans.specs.Lenders.{word_at}
use Rattle.iox_wire_loans.specs.Loans.{Loaned}
use Rattle.iox_wire_loans.specs.Orders.{loan_of}
use Rattle.iox_wire_loans.proofs.LoanLemmas.{leaves_picked}
use Rattle.iox_wire_loans.proofs.lending.Lending.take_slot.Goals as goal

pub invariant_of-self : goal.invariant_of-self
invariant_of-self c =
    let fits : FitsSlots c.self.inside.words.items c.self.inside.places = subst (λ (r : Loaned). FitsSlots r.words r.places) (sym c.self.view_is) c.requires.fits in
    (c.self.invariant.0, tt, fits, (omega (arith, fits.0, fits.1.header), c.header_place-self-inside.ensures.within, c.user_place-self-inside.ensures.within), c.self.invariant.4)

pub returns-clause-aimed : goal.returns-clause-aimed
returns-clause-aimed c p known_so of_pool =
    let fits : FitsSlots c.self.inside.words.items c.self.inside.places = subst (λ (r : Loaned). FitsSlots r.words r.places) (sym c.self.view_is) c.requires.fits in
    let knows : Knows p c.args.seat.now.seat (the_view c.self.inside) = subst (Knows p c.args.seat.now.seat) (sym c.self.view_is) known_so in
    let within : c.in-Some.slot < c.self.inside.places.slots = subst (λ (n : ℕ). c.in-Some.slot < n) (sym knows.slots.pool) of_pool in
    let there : c.pick.new.self ≡ picked c.args.seat.now c.self.inside.order.port (loan_of c.self.inside.order) c.in-Some.slot (drop 1 (free_slots c.args.seat.now.seat c.self.inside.order.port)) =
    c.in-Some.ensures.picked (loan_of c.self.inside.order) refl refl in (
      record {
        number = knows.number ∙ sym (ap (λ (x : Placed). next_handle p x.seat) there);
        words = knows.words;
        slots = knows.slots;
      },
      λ k h.
          ap₂ (λ (a b : ℕ). word_at c.self.inside.places.header a b k) (c.header_place-self-inside.ensures.there within) (c.user_place-self-inside.ensures.there within)
          ∙ knows.slots.words c.in-Some.slot k within (subst (λ (n : ℕ). k < n) fits.0 h),
    )

pub returns-clause-leaves : goal.returns-clause-leaves
returns-clause-leaves c =
    let there : c.pick.new.self ≡ picked c.args.seat.now c.self.inside.order.port (loan_of c.self.inside.order) c.in-Some.slot (drop 1 (free_slots c.args.seat.now.seat c.self.inside.order.port)) =
    c.in-Some.ensures.picked (loan_of c.self.inside.order) refl refl in
    subst (LeavesSeat c.args.seat.now) (sym there)
    (leaves_picked c.args.seat.now c.self.inside.order.port (loan_of c.self.inside.order) c.in-Some.slot (drop 1 (free_slots c.args.seat.now.seat c.self.inside.order.port)) c.requires.rests)
