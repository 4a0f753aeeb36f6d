-- How a loan begins.
use Rattle.std.proofs.Common.{◌≡◌, ◌<◌, Bool, true, false, List, [], ◌∷◌, length, refl, ap, ap₂, sym, subst, ◌∙◌, arith}
use Rattle.std.specs.Bool.{OnTrue, OnFalse}
use Rattle.iox_wire_locals.specs.declared.local.CallRefusal.TheVariants.{OutOfMemory}
use Rattle.iox_wire_locals.specs.declared.local.Ending.TheVariants.{Refuses}
use Rattle.iox_wire_locals.specs.declared.local.Local.{Local}
use Rattle.iox_wire_locals.specs.declared.local.Local.TheVariants.{Ends}
use Rattle.iox_wire_locals.specs.declared.seat.Seat.{Seat}
use Rattle.iox_wire_locals.specs.declared.table.NewLoan.{NewLoan}
use Rattle.iox_wire_locals.specs.Courses.{loaning, placed, takes_slot}
use Rattle.iox_wire_locals.specs.Known.{free_slots}
use Rattle.iox_wire_locals.specs.Tables.{Setting}
use Rattle.iox_wire_seats.specs.declared.stops.Stop.{Stop}
use Rattle.iox_wire_seats.specs.Seats.{Placed, ways_of}
use Rattle.iox_wire_loans.specs.Aims.{AreAimed, IsAimed, after}
use Rattle.iox_wire_loans.specs.Loans.{Loaned}

-- ---- without a way to get back on, it takes a slot or is refused

pub taken_or_dry : (got : Bool) (x y : Placed) (r s : Loaned) (o : NewLoan)
    → OnTrue got (placed y.seat s.local ≡ takes_slot x.seat o (free_slots x.seat o.port))
    → OnFalse got (free_slots x.seat o.port ≡ []) → OnFalse got (y ≡ x) → OnFalse got (s ≡ r)
    → r.local ≡ Ends (Refuses OutOfMemory)
    → placed y.seat s.local ≡ takes_slot x.seat o (free_slots x.seat o.port)
taken_or_dry true x y r s o taken dry seat same local = taken
taken_or_dry false x y r s o taken dry seat same local =
    ap₂ (λ (a : Placed) (b : Loaned). placed a.seat b.local) seat same
    ∙ ap (placed x.seat) local
    ∙ sym (ap (takes_slot x.seat o) dry)

pub aimed_or_over : (p : Setting) (got : Bool) (y : Placed) (r s : Loaned) → OnTrue got (IsAimed p y.seat s)
    → OnFalse got (s ≡ r) → r.local ≡ Ends (Refuses OutOfMemory) → IsAimed p y.seat s
aimed_or_over p true y r s aimed same local = aimed
aimed_or_over p false y r s aimed same local =
    subst (λ (l : Local). AreAimed p y.seat l s) (sym (ap (λ (t : Loaned). t.local) same ∙ local)) tt

pub none_left : {A : Type 0} (xs : List A) → length xs ≡ 0 → xs ≡ []
none_left [] e = refl
none_left (x ∷ xs) e = absurd (omega (arith, e))

-- ---- with one it visits that

pub goes_on_loaning : (p : Setting) (x : Seat) (o : NewLoan) (stops : List Stop) → 0 < length stops
    → after p (loaning x o (ways_of stops)) ≡ loaning x o (ways_of stops)
goes_on_loaning p x o [] h = absurd (omega (arith, h))
goes_on_loaning p x o (s ∷ stops) h = refl
