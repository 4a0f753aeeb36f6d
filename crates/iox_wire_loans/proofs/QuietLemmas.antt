-- A word of a loan's message is stored, and another one follows.
use Rattle.std.specs.Prelude.{if◌then◌else◌}
use Rattle.std.proofs.Common.{◌≡◌, ◌==◌, ◌+◌, ℕ, Bool, false, List, length, None, refl, ap, sym, ◌∙◌, arith}
use Rattle.std.proofs.lemmas.Bool.{ne_eqb}
use Rattle.iox_steps.specs.Accesses.{seen_at, words_after}
use Rattle.iox_wire_words.specs.Programs.{program_access}
use Rattle.iox_wire_locals.specs.declared.local.Local.{Local}
use Rattle.iox_wire_locals.specs.declared.local.Local.TheVariants.{LendStores}
use Rattle.iox_wire_locals.specs.declared.seat.Seat.{Seat}
use Rattle.iox_wire_locals.specs.declared.table.NewLoan.{NewLoan}
use Rattle.iox_wire_locals.specs.Courses.{lent, placed}
use Rattle.iox_wire_locals.specs.Findings.{loan_stored}
use Rattle.iox_wire_locals.specs.Locals.{program_of}
use Rattle.iox_wire_locals.specs.NewLoans.{loan_words}
use Rattle.iox_wire_locals.specs.Steps.{accessed, next, tells}
use Rattle.iox_wire_locals.specs.Tables.{Setting}
use Rattle.iox_wire_seats.specs.QuietSteps.{StepsQuietly}
use Rattle.iox_wire_loans.specs.declared.at.LendAt.{LendAt}
use Rattle.iox_wire_loans.specs.declared.at.LendAt.TheVariants as at
use Rattle.iox_wire_loans.specs.Aims.{IsStoring, Knows, StoresAhead, after, answered}
use Rattle.iox_wire_loans.specs.Loans.{Beside, Loaned, local_of}
use Rattle.iox_wire_loans.specs.Orders.{loan_of}

-- where it is
pub it_stores : (name : LendAt) (b : Beside) → IsStoring (local_of name b) → name ≡ at.Stores
it_stores at.Rest b there = absurd there
it_stores at.Refuses b there = absurd there
it_stores at.Empties b there = absurd there
it_stores at.Stores b there = refl

more : (p : Setting) (x : Seat) (o : NewLoan) (slot n : ℕ) → (n + 1 == length (loan_words p o)) ≡ false
    → loan_stored p (placed (accessed x) (LendStores o slot n)) o slot n ≡ placed (accessed x) (LendStores o slot (n + 1))
more p x o slot n is =
    ap (λ (b : Bool). if b then lent p (placed (accessed x) (LendStores o slot n)) o slot else placed (accessed x) (LendStores o slot (n + 1))) is

-- what it stores is no moment, and it goes on
pub stores_quietly : (p : Setting) (x : Seat) (r : Loaned) (slot n seen : ℕ) (k : Local) (words left : List ℕ) → Knows p x r
    → StoresAhead (LendStores (loan_of r.order) slot n) (length r.words) None k
    → seen ≡ seen_at (program_access p.layout (program_of p (LendStores (loan_of r.order) slot n))) words
    → left ≡ words_after (program_access p.layout (program_of p (LendStores (loan_of r.order) slot n))) words
    → StepsQuietly p (placed x (LendStores (loan_of r.order) slot n)) words seen (placed (accessed x) k) left
stores_quietly p x r slot n seen k words left knows ahead finds leaves =
    let total : length r.words ≡ length (loan_words p (loan_of r.order)) = ap length knows.words in
    let less = ahead.1 in
    let is : (n + 1 == length (loan_words p (loan_of r.order))) ≡ false = ne_eqb _ _ (λ e. omega (arith, e, total, less)) in
    record {
      finds = finds;
      leaves = leaves;
      event = refl;
      goes = ap (placed (accessed x)) ahead.0 ∙ sym (ap (after p) (more p x (loan_of r.order) slot n is));
      tells_none = ap (answered p) (more p x (loan_of r.order) slot n is);
    }
