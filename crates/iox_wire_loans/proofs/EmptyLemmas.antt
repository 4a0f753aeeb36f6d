-- How a loan continues from a way on which nothing is left to get back.
use Rattle.std.proofs.Common.{◌≡◌, ℕ, List, [], ◌∷◌, refl, ap, sym, ◌∙◌}
use Rattle.iox_model.specs.declared.way.Way.{Way}
use Rattle.iox_steps.specs.declared.side.Popping.{Popping}
use Rattle.iox_steps.specs.declared.side.QueueEvent.TheVariants.{SeesEmpty}
use Rattle.iox_steps.specs.Sides.{popping_event}
use Rattle.iox_word_map.specs.WordMaps.{ReturningQueue}
use Rattle.iox_wire_words.specs.Programs.{site_of}
use Rattle.iox_wire_locals.specs.declared.local.Local.{Local}
use Rattle.iox_wire_locals.specs.declared.local.Local.TheVariants.{LendEmpties}
use Rattle.iox_wire_locals.specs.declared.seat.Seat.{Seat}
use Rattle.iox_wire_locals.specs.declared.table.NewLoan.{NewLoan}
use Rattle.iox_wire_locals.specs.Courses.{loaning, placed, takes_slot}
use Rattle.iox_wire_locals.specs.Findings.{loan_emptied}
use Rattle.iox_wire_locals.specs.Known.{free_slots}
use Rattle.iox_wire_locals.specs.Steps.{accessed, next, tells, pop_place}
use Rattle.iox_wire_locals.specs.Tables.{Setting}
use Rattle.iox_wire_loans.specs.declared.at.LendAt.{LendAt}
use Rattle.iox_wire_loans.specs.declared.at.LendAt.TheVariants as at
use Rattle.iox_wire_seats.specs.Seats.{ways_of}
use Rattle.iox_wire_loans.specs.Aims.{IsEmptying, after, answered}
use Rattle.iox_wire_loans.specs.Loans.{Beside, local_of}
use Rattle.iox_wire_loans.specs.Orders.{loan_of}

pub it_empties : (name : LendAt) (b : Beside) → IsEmptying (local_of name b)
    → local_of name b ≡ LendEmpties (loan_of b.order) b.way b.popping (ways_of b.left)
it_empties at.Rest b there = absurd there
it_empties at.Refuses b there = absurd there
it_empties at.Empties b there = refl
it_empties at.Stores b there = absurd there

-- ---- where the node was before does not matter

takes_alike : (x : Seat) (l : Local) (o : NewLoan) (free : List ℕ) → takes_slot (placed x l) o free ≡ takes_slot x o free
takes_alike x l o [] = refl
takes_alike x l o (slot ∷ free) = refl

loans_alike : (x : Seat) (l : Local) (o : NewLoan) (left : List Way) → loaning (placed x l) o left ≡ loaning x o left
loans_alike x l o [] = takes_alike x l o (free_slots x o.port)
loans_alike x l o (w ∷ left) = refl

-- ---- an access of a pop that found the way empty

emptied : (p : Setting) (x : Seat) (o : NewLoan) (w : Way) (place : Popping) (left : List Way) (seen : ℕ)
    → popping_event (site_of p.layout (ReturningQueue w)) place seen ≡ SeesEmpty
    → loan_emptied (placed (accessed x) (LendEmpties o w place left)) o w left
    (pop_place p (ReturningQueue w) place seen) (popping_event (site_of p.layout (ReturningQueue w)) place seen)
    ≡ loaning (accessed x) o left
emptied p x o w place left seen e =
    ap (loan_emptied (placed (accessed x) (LendEmpties o w place left)) o w left (pop_place p (ReturningQueue w) place seen)) e
    ∙ loans_alike (accessed x) (LendEmpties o w place left) o left

pub emptied_next : (p : Setting) (x : Seat) (o : NewLoan) (w : Way) (place : Popping) (left : List Way) (seen : ℕ)
    → popping_event (site_of p.layout (ReturningQueue w)) place seen ≡ SeesEmpty
    → after p (loaning (accessed x) o left) ≡ next p (placed x (LendEmpties o w place left)) seen
emptied_next p x o w place left seen e = sym (ap (after p) (emptied p x o w place left seen e))

pub emptied_tells : (p : Setting) (x : Seat) (o : NewLoan) (w : Way) (place : Popping) (left : List Way) (seen : ℕ)
    → popping_event (site_of p.layout (ReturningQueue w)) place seen ≡ SeesEmpty
    → tells p (placed x (LendEmpties o w place left)) seen ≡ answered p (loaning (accessed x) o left)
emptied_tells p x o w place left seen e = ap (answered p) (emptied p x o w place left seen e)
