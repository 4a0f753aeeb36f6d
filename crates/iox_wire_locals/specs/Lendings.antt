-- How a loan begins: what a node's own tables say of it.
use Rattle.std.specs.Prelude.{ℕ, ◌*◌, Bool, true, false, not, if◌then◌else◌, nat_le, List, [], ◌∷◌, Option, Some, None}
use Rattle.iox_model.specs.Handles.{is_request_loan, is_response_loan, count_of, new_number}
use Rattle.iox_model.specs.Loans.{kind_of_loan, fits_size, loans_of_request, next_request, lending_ways}
use Rattle.iox_model.specs.Maps.{or_else, refused_if}
use Rattle.iox_model.specs.Settings.{is_count}
use Rattle.iox_model.specs.States.{Port}
use Rattle.iox_wire_locals.specs.declared.table.Entry.{Entry}
use Rattle.iox_wire_locals.specs.declared.table.NewLoan.{NewLoan}
use Rattle.iox_wire_locals.specs.declared.local.CallRefusal.{CallRefusal}
use Rattle.iox_wire_locals.specs.declared.local.CallRefusal.TheVariants.{WrongLength, ExceedsMaxLoanSize, ExceedsMaxLoans}
use Rattle.iox_wire_locals.specs.declared.local.Ending.TheVariants as endings
use Rattle.iox_wire_locals.specs.declared.seat.Seat.{Seat}
use Rattle.iox_wire_locals.specs.Tables.{Setting}
use Rattle.iox_wire_locals.specs.NewLoans.{loan_in}
use Rattle.iox_wire_locals.specs.Known.{told_handle, loans_at, free_lanes, known}
use Rattle.iox_wire_locals.specs.Courses.{ended, loaning}

-- ---- loans

-- the first of the free lanes; where none is free, a number that is no lane
abbrev pub first_lane : ℕ → List ℕ → ℕ
first_lane none [] = none
first_lane none (lane ∷ lanes) = lane

-- the number of the node's next handle
abbrev pub next_handle : Setting → Seat → ℕ
next_handle p x = new_number (known p x) x.node

-- what a client lends: so many elements on its first free lane
abbrev pub new_request : Setting → Seat → Port → ℕ → List ℕ → Bool → NewLoan
new_request p x q k payload copies = record {
  number = next_handle p x;
  kind = kind_of_loan q.role false;
  port = q.number;
  client = q.number;
  lane = first_lane q.pool (free_lanes x q.number);
  request = next_request (known p x) q.number;
  serial = loans_at x q.number;
  elements = k;
  payload = payload;
  copies = copies;
}

-- what a server lends to the request that it received
abbrev pub new_response : Setting → Seat → Entry → ℕ → List ℕ → Bool → NewLoan
new_response p x e k payload copies = record {
  number = next_handle p x;
  kind = kind_of_loan (p.port e.port).role false;
  port = e.port;
  client = e.client;
  lane = e.lane;
  request = e.request;
  serial = loans_at x e.port;
  elements = k;
  payload = payload;
  copies = copies;
}

-- why a client does not lend: the size, then the count of its loans
abbrev pub request_refusal : Setting → Seat → Port → ℕ → Option CallRefusal
request_refusal p x q k =
    or_else (refused_if (not (fits_size q p.limits.request k)) ExceedsMaxLoanSize)
    (refused_if
    (nat_le p.limits.loaned_requests (count_of (known p x) q.number is_request_loan))
    ExceedsMaxLoans)

-- why a server does not lend: the size, the loans of that request, those of the port
abbrev pub response_refusal : Setting → Seat → Entry → Port → ℕ → Option CallRefusal
response_refusal p x e q k =
    or_else (refused_if (not (fits_size q p.limits.response k)) ExceedsMaxLoanSize)
    (or_else
    (refused_if
    (nat_le q.loaned_responses (loans_of_request (known p x) (told_handle p x.node e)))
    ExceedsMaxLoans)
    (refused_if
    (nat_le (q.loaned_responses * p.limits.active_requests * p.limits.clients)
    (count_of (known p x) q.number is_response_loan))
    ExceedsMaxLoans))

-- a loan that is not refused gets back first, from all others
abbrev pub lends : Setting → Seat → Option CallRefusal → NewLoan → Seat
lends p x (Some r) o = ended x (endings.Refuses r)
lends p x None o = loaning x o (lending_ways (known p x) (loan_in p o))

-- a length that no message of the role has is refused before all else
abbrev pub lends_request : Setting → Seat → Port → ℕ → List ℕ → Bool → Seat
lends_request p x q k payload copies =
    if is_count p.limits.request k
    then lends p x (request_refusal p x q k) (new_request p x q k payload copies)
    else ended x (endings.Refuses WrongLength)

-- the same for a server's response
abbrev pub lends_response : Setting → Seat → Entry → ℕ → List ℕ → Bool → Seat
lends_response p x e k payload copies =
    if is_count p.limits.response k
    then lends p x (response_refusal p x e (p.port e.port) k) (new_response p x e k payload copies)
    else ended x (endings.Refuses WrongLength)

-- loan, write and send in one: refused unless the payload is of whole elements
abbrev pub copies_request : Setting → Seat → Port → Option ℕ → List ℕ → Seat
copies_request p x q None words = ended x (endings.Refuses WrongLength)
copies_request p x q (Some k) words = lends_request p x q k words true

-- the same of a response, by the entry of the request that it answers
abbrev pub copies_response : Setting → Seat → Entry → Option ℕ → List ℕ → Seat
copies_response p x e None words = ended x (endings.Refuses WrongLength)
copies_response p x e (Some k) words = lends_response p x e k words true
