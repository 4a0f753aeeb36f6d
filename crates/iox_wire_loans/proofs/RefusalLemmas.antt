-- Why a loan is refused: its length, and how many of the port's handles are loans.
use Rattle.std.proofs.Common.{◌≡◌, ◌<◌, ◌≤◌, ℕ, suc, Bool, true, false, cond, List, [], ◌∷◌, length, ◌==◌, ◌*◌, Some, None, refl, ap, ap₂, sym, subst, ◌∙◌}
use Rattle.std.specs.Prelude.{Option, not, ◌&&◌, ◌||◌, filter, map, nat_le}
use Rattle.std.proofs.lemmas.Bool.{le-leb, lt-leb}
use Rattle.iox_model.specs.Handles.{is_request_loan, is_response_loan, count_of}
use Rattle.iox_model.specs.Loans.{fits_size, loans_of_request}
use Rattle.iox_model.specs.Maps.{or_else, refused_if}
use Rattle.iox_model.specs.Settings.{Shape, shape_of}
use Rattle.iox_model.specs.States.{Handle}
use Rattle.iox_wire_locals.specs.declared.local.CallRefusal.{CallRefusal}
use Rattle.iox_wire_locals.specs.declared.local.CallRefusal.TheVariants.{WrongLength, ExceedsMaxLoanSize, ExceedsMaxLoans}
use Rattle.iox_wire_locals.specs.declared.seat.Seat.{Seat}
use Rattle.iox_wire_locals.specs.declared.table.Entry.{Entry}
use Rattle.iox_wire_locals.specs.Known.{told_handle, known}
use Rattle.iox_wire_locals.specs.Tables.{Setting, port_shape}
use Rattle.iox_wire_loans.specs.declared.lender.Lender.{Lender}
use Rattle.iox_wire_loans.specs.Lenders.{LenderIsTold, HasClientLimits, HasServerLimits}
use Rattle.iox_wire_loans.specs.Loans.{length_refused, request_refused, response_refused}

-- ---- the handles of a port, counted in the node's own table

one_more : {A B : Type 0} (b : Bool) (h : A) (hs : List A) (e : B) (es : List B) → length hs ≡ length es
    → length (cond b (h ∷ hs) hs) ≡ length (cond b (e ∷ es) es)
one_more true h hs e es same = ap suc same
one_more false h hs e es same = same

pub counted : (p : Setting) (node port : ℕ) (T : Handle → Bool) (table : List Entry)
    → length (filter T (filter (λ h. h.port == port) (map (told_handle p node) table)))
    ≡ length (filter (λ e. (e.port == port) && T (told_handle p node e)) table)
counted p node port T [] = refl
counted p node port T (e ∷ es) = by_case (e.port == port) refl (counted p node port T es)
  where
    by_case : (b : Bool) → (e.port == port) ≡ b
        → length (filter T (filter (λ h. h.port == port) (map (told_handle p node) es)))
        ≡ length (filter (λ k. (k.port == port) && T (told_handle p node k)) es)
        → length (filter T (filter (λ h. h.port == port) (map (told_handle p node) (e ∷ es))))
        ≡ length (filter (λ k. (k.port == port) && T (told_handle p node k)) (e ∷ es))
    by_case true is rest =
        ap (λ b. length (filter T (cond b (told_handle p node e ∷ filter (λ h. h.port == port) (map (told_handle p node) es)) (filter (λ h. h.port == port) (map (told_handle p node) es))))) is
        ∙ one_more (T (told_handle p node e)) _ _ e _ rest
        ∙ sym (ap (λ b. length (cond (b && T (told_handle p node e)) (e ∷ filter (λ k. (k.port == port) && T (told_handle p node k)) es) (filter (λ k. (k.port == port) && T (told_handle p node k)) es))) is)
    by_case false is rest =
        ap (λ b. length (filter T (cond b (told_handle p node e ∷ filter (λ h. h.port == port) (map (told_handle p node) es)) (filter (λ h. h.port == port) (map (told_handle p node) es))))) is
        ∙ rest
        ∙ sym (ap (λ b. length (cond (b && T (told_handle p node e)) (e ∷ filter (λ k. (k.port == port) && T (told_handle p node k)) es) (filter (λ k. (k.port == port) && T (told_handle p node k)) es))) is)

-- ---- the order of the tests

abbrev refused : (many : Bool) (k : ℕ) (fits : Bool) → Option CallRefusal → Option CallRefusal
refused many k fits rest =
    or_else (refused_if (not (many || (k == 1))) WrongLength) (or_else (refused_if (not fits) ExceedsMaxLoanSize) rest)

joined : (a b c : Option CallRefusal) → or_else a (or_else b c) ≡ or_else (or_else a b) c
joined (Some r) b c = refl
joined None b c = refl

-- a client's tests
pub request_refused_is : (p : Setting) (x : Seat) (t : Lender) (k : ℕ) → LenderIsTold p t → HasClientLimits p t
    → request_refused p x (p.port t.port) k
    ≡ or_else (length_refused t.many t.longest k)
    (refused_if (nat_le t.limit (length (filter (λ e. (e.port == t.port) && is_request_loan e.kind) x.table))) ExceedsMaxLoans)
request_refused_is p x t k lender client =
    let shape : port_shape p t.port ≡ p.limits.request = ap (shape_of p.limits) (lender.role ∙ client.role) in
    let count : count_of (known p x) (p.port t.port).number is_request_loan
    ≡ length (filter (λ e. (e.port == t.port) && is_request_loan e.kind) x.table) =
    ap (λ n. count_of (known p x) n is_request_loan) lender.number
    ∙ counted p x.node t.port (λ h. is_request_loan h.kind) x.table in
    ap (λ (s : Shape). refused s.many k (fits_size (p.port t.port) s k)
    (refused_if (nat_le p.limits.loaned_requests (count_of (known p x) (p.port t.port).number is_request_loan)) ExceedsMaxLoans)) (sym shape)
    ∙ ap₂ (λ m f. refused m k f (refused_if (nat_le p.limits.loaned_requests (count_of (known p x) (p.port t.port).number is_request_loan)) ExceedsMaxLoans))
    lender.many (lender.longest k)
    ∙ ap₂ (λ l n. refused t.many k (nat_le k t.longest) (refused_if (nat_le l n) ExceedsMaxLoans)) client.limit count
    ∙ joined (refused_if (not (t.many || (k == 1))) WrongLength) (refused_if (not (nat_le k t.longest)) ExceedsMaxLoanSize) _

-- a server's tests
pub response_refused_is : (p : Setting) (x : Seat) (t : Lender) (e : Entry) (k : ℕ) → LenderIsTold p t → HasServerLimits p t → e.port ≡ t.port
    → response_refused p x e k
    ≡ or_else (length_refused t.many t.longest k)
    (or_else
    (refused_if (nat_le t.each (length (filter (λ l. (l.port == e.port) && (is_response_loan l.kind && ((l.client == e.client) && (l.request == e.request)))) x.table))) ExceedsMaxLoans)
    (refused_if (nat_le t.limit (length (filter (λ l. (l.port == t.port) && is_response_loan l.kind) x.table))) ExceedsMaxLoans))
response_refused_is p x t e k lender server same =
    let shape : port_shape p t.port ≡ p.limits.response = ap (shape_of p.limits) (lender.role ∙ server.role) in
    let count : count_of (known p x) (p.port t.port).number is_response_loan
    ≡ length (filter (λ l. (l.port == t.port) && is_response_loan l.kind) x.table) =
    ap (λ n. count_of (known p x) n is_response_loan) lender.number
    ∙ counted p x.node t.port (λ h. is_response_loan h.kind) x.table in
    let own : loans_of_request (known p x) (told_handle p x.node e)
    ≡ length (filter (λ l. (l.port == e.port) && (is_response_loan l.kind && ((l.client == e.client) && (l.request == e.request)))) x.table) =
    counted p x.node e.port (λ l. is_response_loan l.kind && ((l.client == e.client) && (l.request == e.request))) x.table in
    ap (λ n. refused p.limits.response.many k (fits_size (p.port n) p.limits.response k)
    (or_else (refused_if (nat_le (p.port n).loaned_responses (loans_of_request (known p x) (told_handle p x.node e))) ExceedsMaxLoans)
    (refused_if (nat_le ((p.port n).loaned_responses * p.limits.active_requests * p.limits.clients) (count_of (known p x) (p.port n).number is_response_loan)) ExceedsMaxLoans))) same
    ∙ ap (λ (s : Shape). refused s.many k (fits_size (p.port t.port) s k)
    (or_else (refused_if (nat_le (p.port t.port).loaned_responses (loans_of_request (known p x) (told_handle p x.node e))) ExceedsMaxLoans)
    (refused_if (nat_le ((p.port t.port).loaned_responses * p.limits.active_requests * p.limits.clients) (count_of (known p x) (p.port t.port).number is_response_loan)) ExceedsMaxLoans))) (sym shape)
    ∙ ap₂ (λ m f. refused m k f
    (or_else (refused_if (nat_le (p.port t.port).loaned_responses (loans_of_request (known p x) (told_handle p x.node e))) ExceedsMaxLoans)
    (refused_if (nat_le ((p.port t.port).loaned_responses * p.limits.active_requests * p.limits.clients) (count_of (known p x) (p.port t.port).number is_response_loan)) ExceedsMaxLoans)))
    lender.many (lender.longest k)
    ∙ ap₂ (λ l n. refused t.many k (nat_le k t.longest)
    (or_else (refused_if (nat_le l n) ExceedsMaxLoans)
    (refused_if (nat_le ((p.port t.port).loaned_responses * p.limits.active_requests * p.limits.clients) (count_of (known p x) (p.port t.port).number is_response_loan)) ExceedsMaxLoans)))
    server.each own
    ∙ ap₂ (λ l n. refused t.many k (nat_le k t.longest)
    (or_else (refused_if (nat_le t.each (length (filter (λ l. (l.port == e.port) && (is_response_loan l.kind && ((l.client == e.client) && (l.request == e.request)))) x.table))) ExceedsMaxLoans)
    (refused_if (nat_le l n) ExceedsMaxLoans))) server.limit count
    ∙ joined (refused_if (not (t.many || (k == 1))) WrongLength) (refused_if (not (nat_le k t.longest)) ExceedsMaxLoanSize) _

-- ---- what a test found

pub reaches : (limit n m : ℕ) → n ≡ m → limit ≤ n → nat_le limit m ≡ true
reaches limit n m same h = le-leb limit m (subst (λ (k : ℕ). limit ≤ k) same h)

pub stays_below : (limit n m : ℕ) → n ≡ m → n < limit → nat_le limit m ≡ false
stays_below limit n m same h = lt-leb limit m (subst (λ (k : ℕ). k < limit) same h)
