use Rattle.std.proofs.Common.{◌≡◌, ◌<◌, [], List, length, refl, sym, subst, ap, ◌∙◌, arith}
use Rattle.std.specs.Prelude.{is_none}
use Rattle.iox_wire_locals.specs.Courses.{loaning}
use Rattle.iox_wire_seats.specs.declared.stops.Stop.{Stop}
use Rattle.iox_wire_seats.specs.Seats.{Visits, ways_of}
use Rattle.iox_wire_loans.specs.Aims.{after}
use Rattle.iox_wire_loans.specs.Orders.{loan_of}
use Rattle.iox_wire_loans.proofs.BeginLemmas.{taken_or_dry, aimed_or_over, none_left, goes_on_loaning}
use Rattle.iox_wire_loans.proofs.lending.Lending.begin.Goals as goal

pub returns-then-stops-eq0-clause-begun : goal.returns-then-stops-eq0-clause-begun
returns-then-stops-eq0-clause-begun c p =
    let none : c.args.stops.now ≡ [] = none_left c.args.stops.now (omega arith) in
    taken_or_dry c.take_slot.result c.args.seat.now c.take_slot.new.seat _ c.take_slot.new.self (loan_of c.args.order)
    c.take_slot.ensures.taken c.take_slot.ensures.dry c.take_slot.ensures.seat_unchanged c.take_slot.ensures.unchanged refl
    ∙ sym (ap (λ (ss : List Stop). loaning c.args.seat.now.seat (loan_of c.args.order) (ways_of ss)) none)

pub returns-then-stops-eq0-clause-aimed : goal.returns-then-stops-eq0-clause-aimed
returns-then-stops-eq0-clause-aimed c p number words slots returning tells =
    aimed_or_over p c.take_slot.result c.take_slot.new.seat _ c.take_slot.new.self
    (c.take_slot.ensures.aimed p (record { number = number; words = c.fill_words.ensures.words ∙ words; slots = slots }) tells)
    c.take_slot.ensures.unchanged refl

pub returns-else-stops-eq0-clause-begun : goal.returns-else-stops-eq0-clause-begun
returns-else-stops-eq0-clause-begun c p =
    let some : 0 < length c.args.stops.now = omega arith in
    c.empty_next.ensures.next p
    ∙ ap (λ (ss : List Stop). after p (loaning c.args.seat.now.seat (loan_of c.args.order) (ways_of ss))) (ap (λ (v : Visits). v.left) c.fill.ensures)
    ∙ goes_on_loaning p c.args.seat.now.seat (loan_of c.args.order) c.args.stops.now some

pub returns-else-stops-eq0-clause-busy : goal.returns-else-stops-eq0-clause-busy
returns-else-stops-eq0-clause-busy c =
    let some : 0 < length c.args.stops.now = omega arith in
    c.empty_next.ensures.busy
    ∙ ap is_none (c.empty_next.ensures.visits (subst (λ (ss : List Stop). 0 < length ss) (sym (ap (λ (v : Visits). v.left) c.fill.ensures)) some))
