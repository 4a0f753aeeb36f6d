-- A begin of a call makes and loses no handle, and counts no loan.
use Rattle.std.proofs.Common.{ℕ, Bool, List, [], ◌∷◌, Option, Some, None}
use Rattle.iox_model.specs.declared.call.Call.TheVariants.{Loan, Write, Send, SendCopy, Receive, Read, Release, IsConnected, SetHint, HasHint, HasRequests, HasResponse}
use Rattle.iox_model.specs.declared.call.WireCall.TheVariants as wire_calls
use Rattle.iox_model.specs.Commands.{Call, WireCall, number_of}
use Rattle.iox_model.specs.Peers.{port_at}
use Rattle.iox_model.specs.States.{Port}
use Rattle.iox_wire_locals.specs.declared.local.CallRefusal.{CallRefusal}
use Rattle.iox_wire_locals.specs.declared.seat.Seat.{Seat}
use Rattle.iox_wire_locals.specs.declared.table.Entry.{Entry}
use Rattle.iox_wire_locals.specs.declared.table.NewLoan.{NewLoan}
use Rattle.iox_wire_locals.specs.Begins.{begin, begins_at, begins_at_entry, begins_at_port, writes, writing}
use Rattle.iox_wire_locals.specs.Known.{known}
use Rattle.iox_wire_locals.specs.Lendings.{copies_request, copies_response, lends, lends_request, lends_response, new_request, new_response, request_refusal, response_refusal}
use Rattle.iox_wire_locals.specs.ReceiveCourses.{closing, releasing, returning, states_for}
use Rattle.iox_wire_locals.specs.Tables.{Setting, entry_at}
use Rattle.iox_wire_copies.proofs.CountLemmas.{CountsAlike, at_place, checked_on, closed_on, either, hinted_on, loaned, sent, sought_on, visited}

-- ---- loans and copies

lent_or_refused : (p : Setting) (x : Seat) (refusal : Option CallRefusal) (o : NewLoan) → CountsAlike x (lends p x refusal o)
lent_or_refused p x (Some r) o = at_place x _
lent_or_refused p x None o = loaned x o _

request_lent : (p : Setting) (x : Seat) (q : Port) (k : ℕ) (payload : List ℕ) (copies : Bool) → CountsAlike x (lends_request p x q k payload copies)
request_lent p x q k payload copies =
    either x (lends p x (request_refusal p x q k) (new_request p x q k payload copies)) _ _
    (lent_or_refused p x (request_refusal p x q k) (new_request p x q k payload copies)) (at_place x _)

response_lent : (p : Setting) (x : Seat) (e : Entry) (k : ℕ) (payload : List ℕ) (copies : Bool) → CountsAlike x (lends_response p x e k payload copies)
response_lent p x e k payload copies =
    either x (lends p x (response_refusal p x e (p.port e.port) k) (new_response p x e k payload copies)) _ _
    (lent_or_refused p x (response_refusal p x e (p.port e.port) k) (new_response p x e k payload copies)) (at_place x _)

request_copied : (p : Setting) (x : Seat) (q : Port) (elements : Option ℕ) (words : List ℕ) → CountsAlike x (copies_request p x q elements words)
request_copied p x q None words = at_place x _
request_copied p x q (Some k) words = request_lent p x q k words _

response_copied : (p : Setting) (x : Seat) (e : Entry) (elements : Option ℕ) (words : List ℕ) → CountsAlike x (copies_response p x e elements words)
response_copied p x e None words = at_place x _
response_copied p x e (Some k) words = response_lent p x e k words _

-- ---- writes, reads and releases

words_written : (x : Seat) (e : Entry) (words : List ℕ) → CountsAlike x (writing x e words)
words_written x e [] = at_place x _
words_written x e (word ∷ words) = at_place x _

written : (x : Seat) (e : Entry) (elements : Option ℕ) (words : List ℕ) → CountsAlike x (writes x e elements words)
written x e None words = at_place x _
written x e (Some k) words = either x (writing x e words) _ _ (words_written x e words) (at_place x _)

returned : (p : Setting) (x : Seat) (e : Entry) → CountsAlike x (returning p x e)
returned p x e = either x _ _ _ (at_place x _) (at_place x _)

released : (p : Setting) (x : Seat) (e : Entry) → CountsAlike x (releasing p x e)
released p x e =
    either x (returning p x e) _ _ (returned p x e) (either x (closing x e (states_for p x e)) _ _ (closed_on x e (states_for p x e)) (at_place x _))

-- ---- a call

at_port : (p : Setting) (x : Seat) (call : Call) (q : Port) → CountsAlike x (begins_at_port p x call q)
at_port p x (Loan n k) q = request_lent p x q k [] _
at_port p x (SendCopy n y) q = request_copied p x q y.elements y.words
at_port p x (Receive n) q = visited p x _ _ _
at_port p x (HasRequests n) q = sought_on x _
at_port p x call q = at_place x _

at_entry : (p : Setting) (x : Seat) (call : Call) (e : Entry) → CountsAlike x (begins_at_entry p x call e)
at_entry p x (Loan n k) e = response_lent p x e k [] _
at_entry p x (Write n y) e = written x e y.elements y.words
at_entry p x (Send n) e = sent p x e _
at_entry p x (SendCopy n y) e = response_copied p x e y.elements y.words
at_entry p x (Receive n) e = visited p x _ _ _
at_entry p x (Read n) e = either x _ _ _ (at_place x _) (at_place x _)
at_entry p x (Release n) e = released p x e
at_entry p x (IsConnected n) e = checked_on x e _ _
at_entry p x (SetHint n) e = hinted_on x e _
at_entry p x (HasHint n) e = checked_on x e _ _
at_entry p x (HasResponse n) e = sought_on x _
at_entry p x call e = at_place x _

named : (p : Setting) (x : Seat) (call : Call) (q : Option Port) (e : Option Entry) → CountsAlike x (begins_at p x call q e)
named p x call (Some q) e = at_port p x call q
named p x call None (Some e) = at_entry p x call e
named p x call None None = at_place x _

pub begins_alike : (p : Setting) (x : Seat) (call : WireCall) → CountsAlike x (begin p x call)
begins_alike p x (wire_calls.Port call) = named p x call (port_at (known p x) (number_of call)) (entry_at (number_of call) x.table)
begins_alike p x (wire_calls.Forget dead) = at_place x _
