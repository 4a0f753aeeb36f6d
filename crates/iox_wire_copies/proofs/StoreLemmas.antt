-- Where a copy is led as it stores a word.
use Rattle.std.proofs.Common.{◌≡◌, ◌==◌, ◌+◌, ℕ, Bool, true, false, List, [], ◌∷◌, length, None, ap, sym, ◌∙◌}
use Rattle.std.specs.Prelude.{if◌then◌else◌}
use Rattle.iox_model.specs.declared.kind.Role.TheVariants.{Server}
use Rattle.iox_model.specs.Handles.{is_request_loan}
use Rattle.iox_model.specs.Peers.{others}
use Rattle.iox_model.specs.Requests.{is_active_spent}
use Rattle.iox_wire_locals.specs.declared.local.CallRefusal.TheVariants.{ExceedsMaxActiveRequests}
use Rattle.iox_wire_locals.specs.declared.local.Delivery.{Delivery}
use Rattle.iox_wire_locals.specs.declared.local.Ending.TheVariants as endings
use Rattle.iox_wire_locals.specs.declared.local.Local.{Local}
use Rattle.iox_wire_locals.specs.declared.local.Local.TheVariants.{LendStores}
use Rattle.iox_wire_locals.specs.declared.seat.Seat.{Seat}
use Rattle.iox_wire_locals.specs.declared.table.Entry.{Entry}
use Rattle.iox_wire_locals.specs.declared.table.NewLoan.{NewLoan}
use Rattle.iox_wire_locals.specs.Courses.{ended, lent, placed, sends, sends_request, sends_response}
use Rattle.iox_wire_locals.specs.Findings.{loan_stored}
use Rattle.iox_wire_locals.specs.Known.{known, told_handle}
use Rattle.iox_wire_locals.specs.NewLoans.{entry_in, loan_words}
use Rattle.iox_wire_locals.specs.Steps.{accessed, next, tells}
use Rattle.iox_wire_locals.specs.Tables.{Setting}
use Rattle.iox_wire_request_sends.specs.WireLoansAims.{after, answered}
use Rattle.iox_wire_request_sends.proofs.RoundLemmas.{empties_alike}
use Rattle.iox_wire_copies.specs.Copies.{copy_of}

-- ---- where the node was before does not matter

requests_alike : (p : Setting) (x : Seat) (l : Local) (d : Delivery) → sends_request p (placed x l) d ≡ sends_request p x d
requests_alike p x l d =
    ap (λ (y : Seat). if is_active_spent (known p x) (told_handle p x.node d.loan)
    then ended x (endings.FailsToSend d.loan d.copied ExceedsMaxActiveRequests) else y)
    (empties_alike p x l d _)

pub sends_alike : (p : Setting) (x : Seat) (l : Local) (e : Entry) (copied : Bool) → sends p (placed x l) e copied ≡ sends p x e copied
sends_alike p x l e copied =
    ap (λ (y : Seat). if is_request_loan e.kind then y else sends_response p x (record { loan = e; copied = copied; to = e.client ∷ [] }))
    (requests_alike p x l (record { loan = e; copied = copied; to = others (known p x) x.node Server }))

-- ---- a word is stored

stored : (p : Setting) (x : Seat) (o : NewLoan) (slot n : ℕ) (last : Bool) → (n + 1 == length (loan_words p o)) ≡ last
    → loan_stored p (placed (accessed x) (LendStores o slot n)) o slot n
    ≡ (if last then lent p (placed (accessed x) (LendStores o slot n)) o slot else placed (accessed x) (LendStores o slot (n + 1)))
stored p x o slot n last is =
    ap (λ (b : Bool). if b then lent p (placed (accessed x) (LendStores o slot n)) o slot else placed (accessed x) (LendStores o slot (n + 1))) is

-- one more follows
pub more_next : (p : Setting) (x : Seat) (o : NewLoan) (slot n seen : ℕ) → (n + 1 == length (loan_words p o)) ≡ false
    → placed (accessed x) (LendStores o slot (n + 1)) ≡ next p (placed x (LendStores o slot n)) seen
more_next p x o slot n seen is = sym (ap (after p) (stored p x o slot n false is))

pub more_tells : (p : Setting) (x : Seat) (o : NewLoan) (slot n seen : ℕ) → (n + 1 == length (loan_words p o)) ≡ false
    → tells p (placed x (LendStores o slot n)) seen ≡ None
more_tells p x o slot n seen is = ap (answered p) (stored p x o slot n false is)

-- it was the last: the copy is sent
sent : (p : Setting) (x : Seat) (o : NewLoan) (payload : List ℕ) (slot n : ℕ) → (n + 1 == length (loan_words p (copy_of o payload))) ≡ true
    → loan_stored p (placed (accessed x) (LendStores (copy_of o payload) slot n)) (copy_of o payload) slot n ≡ sends p (accessed x) (entry_in o slot) true
sent p x o payload slot n is =
    stored p x (copy_of o payload) slot n true is ∙ sends_alike p (accessed x) (LendStores (copy_of o payload) slot n) (entry_in o slot) true

pub last_next : (p : Setting) (x : Seat) (o : NewLoan) (payload : List ℕ) (slot n seen : ℕ) → (n + 1 == length (loan_words p (copy_of o payload))) ≡ true
    → next p (placed x (LendStores (copy_of o payload) slot n)) seen ≡ after p (sends p (accessed x) (entry_in o slot) true)
last_next p x o payload slot n seen is = ap (after p) (sent p x o payload slot n is)

pub last_tells : (p : Setting) (x : Seat) (o : NewLoan) (payload : List ℕ) (slot n seen : ℕ) → (n + 1 == length (loan_words p (copy_of o payload))) ≡ true
    → tells p (placed x (LendStores (copy_of o payload) slot n)) seen ≡ answered p (sends p (accessed x) (entry_in o slot) true)
last_tells p x o payload slot n seen is = ap (answered p) (sent p x o payload slot n is)
