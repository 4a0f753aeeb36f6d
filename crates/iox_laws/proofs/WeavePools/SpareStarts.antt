-- A call begins with its counts below their limits.
use Rattle.std.specs.Prelude.{◌≡◌, ℕ, ◌*◌, ◌<◌, Bool, true, false, not, ◌||◌, if◌then◌else◌, ◌==◌, nat_le, List, [], ◌++◌, Option, Some, None, ⊤, refl}
use Rattle.std.specs.Option.{option_map_or}
use Rattle.std.proofs.Common.{sym, subst, ap, ◌∙◌, eqb-true, true≢false}
use Rattle.iox_model.specs.declared.kind.Role.{Role}
use Rattle.iox_model.specs.declared.kind.Role.TheVariants.{Client, Server}
use Rattle.iox_model.specs.declared.kind.Kind.{Kind}
use Rattle.iox_model.specs.declared.kind.Kind.TheVariants.{RequestMutUninit, RequestMut, ResponseMutUninit, ResponseMut, PendingResponse, ActiveRequest, Response}
use Rattle.iox_model.specs.declared.kind.Kind.TheVariants as kinds
use Rattle.iox_model.specs.declared.call.Call.TheVariants.{Loan, LoanUninit, Write, Send, SendCopy, Receive, Read, Release, IsConnected, SetHint, HasHint, HasRequests, HasResponse}
use Rattle.iox_model.specs.declared.call.WireCall.TheVariants.{Forget}
use Rattle.iox_model.specs.declared.call.WireCall.TheVariants as wire_calls
use Rattle.iox_model.specs.declared.reply.Refusal.TheVariants.{UnknownNumber, UnknownNode, NodeIsDead, NodeIsAlive, WrongLength, WantOfMemory, ExceedsMaxLoanSize, ExceedsMaxLoans}
use Rattle.iox_model.specs.declared.reply.Reply.TheVariants.{Words}
use Rattle.iox_model.specs.Doings.{refused, Tells, Fills, Drops, Doing, Ended, Returning}
use Rattle.iox_model.specs.Weaves.{wire_start, miscalled}
use Rattle.iox_model.specs.Settings.{is_client, is_count}
use Rattle.iox_model.specs.States.{Node, Port, Handle, Fixed, State}
use Rattle.iox_model.specs.Loans.{loan_of, next_request, fits_size, loans_of_request, request_loan_refusal, response_loan_refusal, memory_refusal, lending_ways, unless_refused, Choice, Order}
use Rattle.iox_model.specs.Handles.{same_kind, is_request_loan, is_response_loan, is_received, way_of, count_of, handle_at, subject, kind_of, node_of, Subject, ThePort, TheHandle}
use Rattle.iox_model.specs.Maps.{refused_if, or_else}
use Rattle.iox_model.specs.Names.{is_port, suits, misnamed}
use Rattle.iox_model.specs.Begins.{written, writes, reads, begins_at, start}
use Rattle.iox_model.specs.Responses.{lends_request, lends_response, lends_by, lends, copies, shape_for, lending, ordered}
use Rattle.iox_model.specs.Receives.{server_ways, pending_ways}
use Rattle.iox_model.specs.Releases.{states_of, closing, returning, releases_handle}
use Rattle.iox_model.specs.Commands.{Refusal, Call, WireCall, number_of}
use Rattle.iox_model.specs.Outstandings.{kept, is_dry}
use Rattle.iox_model.specs.Joins.{node_at, not_living, not_dead}
use Rattle.iox_model.specs.Peers.{port_at, forgot_port}
use Rattle.iox_laws.proofs.WeaveLaws.WholeLemmas.{split}
use Rattle.iox_laws.proofs.WeaveLaws.MapLemmas.{either}
use Rattle.iox_laws.proofs.WeaveLaws.WholeLemmas.{or_else-none}
use Rattle.iox_laws.proofs.WeaveLedger.Orders.{less}
use Rattle.iox_laws.proofs.WeaveLedger.Truths.{none-some, passed}
use Rattle.iox_laws.proofs.WeaveLedger.Lists.{IsAmong, find-among}
use Rattle.iox_laws.proofs.WeaveLedger.Views.{role_in, View, view, IsAt}
use Rattle.iox_laws.proofs.WeaveLedger.Starts.{IsNamedBy, named-by, IsThere, there, kind-role}
use Rattle.iox_laws.specs.WeavePools.PoolLaws.{lender}
use Rattle.iox_laws.proofs.WeavePools.Spare.{is_of_client, count-is, FitsKinds, SpareLoan, RefusedIf, SpareDoing}
use Rattle.iox_laws.proofs.WeavePools.SpareMoves.{sends-spare, loaning-spare, visiting-spare, closing-spare, checking-spare, hinting-spare, seeking-spare}

-- ---- tests

-- ---- kinds that suit

first-or-second : (b u v : Bool) → (if b then u else v) ≡ true → (u || v) ≡ true
first-or-second true true v e = refl
first-or-second true false v e = absurd (true≢false (sym e))
first-or-second false true v e = refl
first-or-second false false v e = e

port-lends : (b : Bool) → (same_kind (if b then kinds.Client else kinds.Server) kinds.Client
    || same_kind (if b then kinds.Client else kinds.Server) ActiveRequest) ≡ true
    → b ≡ true
port-lends true e = refl
port-lends false e = absurd (true≢false (sym e))

handle-lends : (k : Kind) → is_port k ≡ false → (same_kind k kinds.Client || same_kind k ActiveRequest) ≡ true → is_of_client k ≡ false
handle-lends kinds.Client e f = absurd (true≢false e)
handle-lends kinds.Server e f = absurd (true≢false e)
handle-lends RequestMutUninit e f = absurd (true≢false (sym f))
handle-lends RequestMut e f = absurd (true≢false (sym f))
handle-lends ResponseMutUninit e f = absurd (true≢false (sym f))
handle-lends ResponseMut e f = absurd (true≢false (sym f))
handle-lends PendingResponse e f = absurd (true≢false (sym f))
handle-lends ActiveRequest e f = refl
handle-lends Response e f = absurd (true≢false (sym f))

port-receives : (b : Bool) → (same_kind (if b then kinds.Client else kinds.Server) kinds.Server
    || same_kind (if b then kinds.Client else kinds.Server) PendingResponse) ≡ true
    → b ≡ false
port-receives true e = absurd (true≢false (sym e))
port-receives false e = refl

handle-receives : (k : Kind) → is_port k ≡ false → (same_kind k kinds.Server || same_kind k PendingResponse) ≡ true → is_of_client k ≡ true
handle-receives kinds.Client e f = absurd (true≢false e)
handle-receives kinds.Server e f = absurd (true≢false e)
handle-receives RequestMutUninit e f = absurd (true≢false (sym f))
handle-receives RequestMut e f = absurd (true≢false (sym f))
handle-receives ResponseMutUninit e f = absurd (true≢false (sym f))
handle-receives ResponseMut e f = absurd (true≢false (sym f))
handle-receives PendingResponse e f = refl
handle-receives ActiveRequest e f = absurd (true≢false (sym f))
handle-receives Response e f = absurd (true≢false (sym f))

pub role-is : (f : Fixed) (port : ℕ) (p : Port) → port_at f port ≡ Some p → role_in f.ports port ≡ p.role
role-is f port p e = ap (λ (q : Option Port). option_map_or (λ x. x.role) q Client) e

pub node-is : (f : Fixed) (port : ℕ) (p : Port) (n : ℕ) → port_at f port ≡ Some p → p.node ≡ n → IsAt f.ports port n
node-is f port p n e node = ap (λ (q : Option Port). option_map_or (λ x. x.node) q 0) e ∙ node

-- ---- refusals

abbrev pub Tolerates : Type 0 → Option Refusal → Type 0
Tolerates out None = ⊤
Tolerates out (Some r) = RefusedIf out r

pub if-tolerated : (out : Type 0) (b : Bool) (r : Refusal) → RefusedIf out r → Tolerates out (refused_if b r)
if-tolerated out true r p = p
if-tolerated out false r p = tt

pub or-tolerated : (out : Type 0) (a b : Option Refusal) → Tolerates out a → Tolerates out b → Tolerates out (or_else a b)
or-tolerated out None b p q = q
or-tolerated out (Some r) b p q = p

unless-spare : (v : View) (gone : ℕ → Type 0) (out : Type 0) (r : Option Refusal) (d : Doing) → Tolerates out r → (r ≡ None → SpareDoing v gone out d)
    → SpareDoing v gone out (unless_refused r d)
unless-spare v gone out (Some r) d p f = p
unless-spare v gone out None d p f = f refl

second-free : (a b : Bool) (q r : Refusal) → or_else (refused_if a q) (refused_if b r) ≡ None → b ≡ false
second-free a b q r e = passed b r (or_else-none (refused_if a q) (refused_if b r) e).1

third-free : (a b c : Bool) (q r t : Refusal) → or_else (refused_if a q) (or_else (refused_if b r) (refused_if c t)) ≡ None → c ≡ false
third-free a b c q r t e = second-free b c r t (or_else-none (refused_if a q) (or_else (refused_if b r) (refused_if c t)) e).1

-- ---- loans

-- a loan that a port of the node makes
pub record IsLoanOf (f : Fixed) (n : ℕ) (h : Handle) : Type 0 where
  pub of_node : h.node ≡ n
  pub of_port : IsAt f.ports h.port n
  pub role : is_request_loan h.kind ≡ is_client (role_in f.ports h.port)
  pub spare : SpareLoan (view f n) h.port

-- each handle of the node belongs to a port of its own
abbrev pub HasOwnHandles : State → ℕ → Type 0
HasOwnHandles s n = (h : Handle) → IsAmong h (s.fixed.handles n) → IsAt s.fixed.ports h.port n

-- where there is nobody to get back from, the pool of such a port refuses at once, if it may
abbrev pub DryAtOnce : State → ℕ → (ℕ → Type 0) → Type 0 → Type 0
DryAtOnce s n Lender out =
    (h : Handle) → IsLoanOf s.fixed n h → Lender h.port → lending_ways s.fixed h ≡ [] → is_dry s.fixed h.port (kept s h.port []) ≡ true → out

loan-is : (f : Fixed) (n : ℕ) (p : Port) (o : Order) (client lane request : ℕ) → port_at f p.number ≡ Some p → p.node ≡ n → SpareLoan (view f n) p.number
    → IsLoanOf f n (loan_of f p o client lane request)
loan-is f n p o client lane request is node spare = record {
  of_node = node;
  of_port = node-is f p.number p n is node;
  role = kind-role p.role o.uninit ∙ sym (ap (λ (r : Role). is_client r) (role-is f p.number p is));
  spare = spare;
}

lending-spare : (s : State) (n : ℕ) (gone Lender : ℕ → Type 0) (out : Type 0) (copies : Bool) (h : Handle) → DryAtOnce s n Lender out → Lender h.port
    → IsLoanOf s.fixed n h
    → SpareDoing (view s.fixed n) gone out (lending s copies h)
lending-spare s n gone Lender out copies h dry by p = loaning-spare s n gone out copies h (lending_ways s.fixed h) p.of_port (dry h p by) p.spare

memory-tolerated : (s : State) (out : Type 0) (c : Choice) (port : ℕ) → Tolerates out (memory_refusal s c port)
memory-tolerated s out c port = if-tolerated out _ WantOfMemory tt

lends_request-spare : (s : State) (n : ℕ) (gone Lender : ℕ → Type 0) (out : Type 0) (c : Choice) (p : Port) (o : Order) → DryAtOnce s n Lender out
    → Lender p.number
    → port_at s.fixed p.number ≡ Some p → p.node ≡ n → is_client p.role ≡ true → SpareDoing (view s.fixed n) gone out (lends_request s c p o)
lends_request-spare s n gone Lender out c p o dry by is node client =
    let h : Handle = loan_of s.fixed p o p.number c.lane (next_request s.fixed p.number) in
    unless-spare (view s.fixed n) gone out (request_loan_refusal s.fixed p o.elements) (unless_refused (memory_refusal s c p.number) (lending s o.copies h))
    (or-tolerated out (refused_if (not (fits_size p s.fixed.limits.request o.elements)) ExceedsMaxLoanSize) _
    (if-tolerated out _ ExceedsMaxLoanSize tt) (if-tolerated out _ ExceedsMaxLoans tt))
    (λ free. unless-spare (view s.fixed n) gone out (memory_refusal s c p.number) (lending s o.copies h) (memory-tolerated s out c p.number)
    (λ u. lending-spare s n gone Lender out o.copies h dry by (loan-is s.fixed n p o p.number c.lane (next_request s.fixed p.number) is node (spare free))))
  where
    spare : request_loan_refusal s.fixed p o.elements ≡ None → SpareLoan (view s.fixed n) p.number
    spare free = record {
      there = p;
      is = is;
      client = λ u. subst (λ k. k < s.fixed.limits.loaned_requests) (count-is s.fixed n p.number is_request_loan (node-is s.fixed p.number p n is node))
          (less s.fixed.limits.loaned_requests (count_of s.fixed p.number is_request_loan)
          (second-free (not (fits_size p s.fixed.limits.request o.elements)) (nat_le s.fixed.limits.loaned_requests (count_of s.fixed p.number is_request_loan))
          ExceedsMaxLoanSize ExceedsMaxLoans free));
      server = λ server. absurd (true≢false (sym client ∙ server));
    }

lends_response-spare : (s : State) (n : ℕ) (gone Lender : ℕ → Type 0) (out : Type 0) (c : Choice) (h : Handle) (p : Port) (o : Order)
    → DryAtOnce s n Lender out → Lender p.number
    → port_at s.fixed p.number ≡ Some p → p.node ≡ n → is_client p.role ≡ false → SpareDoing (view s.fixed n) gone out (lends_response s c h p o)
lends_response-spare s n gone Lender out c h p o dry by is node server =
    let l : Handle = loan_of s.fixed p o h.client h.lane h.request in
    unless-spare (view s.fixed n) gone out (response_loan_refusal s.fixed h p o.elements) (unless_refused (memory_refusal s c p.number) (lending s o.copies l))
    (or-tolerated out (refused_if (not (fits_size p s.fixed.limits.response o.elements)) ExceedsMaxLoanSize) _ (if-tolerated out _ ExceedsMaxLoanSize tt)
    (or-tolerated out (refused_if (nat_le p.loaned_responses (loans_of_request s.fixed h)) ExceedsMaxLoans) _ (if-tolerated out _ ExceedsMaxLoans tt)
    (if-tolerated out _ ExceedsMaxLoans tt)))
    (λ free. unless-spare (view s.fixed n) gone out (memory_refusal s c p.number) (lending s o.copies l) (memory-tolerated s out c p.number)
    (λ u. lending-spare s n gone Lender out o.copies l dry by (loan-is s.fixed n p o h.client h.lane h.request is node (spare free))))
  where
    spare : response_loan_refusal s.fixed h p o.elements ≡ None → SpareLoan (view s.fixed n) p.number
    spare free = record {
      there = p;
      is = is;
      client = λ client. absurd (true≢false (sym client ∙ server));
      server = λ u. subst (λ k. k < p.loaned_responses * s.fixed.limits.active_requests * s.fixed.limits.clients)
          (count-is s.fixed n p.number is_response_loan (node-is s.fixed p.number p n is node))
          (less (p.loaned_responses * s.fixed.limits.active_requests * s.fixed.limits.clients) (count_of s.fixed p.number is_response_loan)
          (third-free (not (fits_size p s.fixed.limits.response o.elements)) (nat_le p.loaned_responses (loans_of_request s.fixed h))
          (nat_le (p.loaned_responses * s.fixed.limits.active_requests * s.fixed.limits.clients) (count_of s.fixed p.number is_response_loan))
          ExceedsMaxLoanSize ExceedsMaxLoans ExceedsMaxLoans free));
    }

-- whoever lends is a client, or holds a request of a server
abbrev MayLend : Subject → Type 0
MayLend (ThePort p) = is_client p.role ≡ true
MayLend (TheHandle h) = is_of_client h.kind ≡ false

may-lend : (f : Fixed) (n : ℕ) (x : Subject) → FitsKinds (view f n) → IsThere f n x
    → (same_kind (kind_of x) kinds.Client || same_kind (kind_of x) ActiveRequest) ≡ true → MayLend x
may-lend f n (ThePort p) fits is e = port-lends (is_client p.role) e
may-lend f n (TheHandle h) fits is e = handle-lends h.kind (fits.suits h is).0 e

lends_by-spare : (s : State) (n : ℕ) (gone Lender : ℕ → Type 0) (out : Type 0) (c : Choice) (x : Subject) (o : Order) → DryAtOnce s n Lender out
    → Lender (lender x) → HasOwnHandles s n
    → FitsKinds (view s.fixed n) → IsThere s.fixed n x → node_of x ≡ n → MayLend x → SpareDoing (view s.fixed n) gone out (lends_by s c x o)
lends_by-spare s n gone Lender out c (ThePort p) o dry by hs fits is node may = lends_request-spare s n gone Lender out c p o dry by is node may
lends_by-spare s n gone Lender out c (TheHandle h) o dry by hs fits is node may = by_case (port_at s.fixed h.port) refl
  where
    by_case : (q : Option Port) → port_at s.fixed h.port ≡ q
        → SpareDoing (view s.fixed n) gone out (option_map_or (λ p. lends_response s c h p o) q (refused UnknownNumber))
    by_case None e = tt
    by_case (Some p) e =
        let number : p.number ≡ h.port = eqb-true p.number h.port (find-among (λ (x : Port). x.number == h.port) p s.fixed.ports e).1 in
        lends_response-spare s n gone Lender out c h p o dry (subst Lender (sym number) by) (ap (port_at s.fixed) number ∙ e)
        (sym (ap (λ (y : Option Port). option_map_or (λ x. x.node) y 0) e) ∙ hs h is)
        (sym (ap (λ (r : Role). is_client r) (role-is s.fixed h.port p e)) ∙ sym (fits.suits h is).1 ∙ may)

lends-spare : (s : State) (n : ℕ) (gone Lender : ℕ → Type 0) (out : Type 0) (c : Choice) (x : Subject) (o : Order) → DryAtOnce s n Lender out
    → Lender (lender x) → HasOwnHandles s n
    → FitsKinds (view s.fixed n) → IsThere s.fixed n x → node_of x ≡ n → MayLend x → SpareDoing (view s.fixed n) gone out (lends s c x o)
lends-spare s n gone Lender out c x o dry by hs fits is node may =
    either (SpareDoing (view s.fixed n) gone out) (is_count (shape_for s.fixed x) o.elements) (lends_by s c x o) (refused WrongLength)
    (λ u. lends_by-spare s n gone Lender out c x o dry by hs fits is node may) (λ u. tt)

copies-spare : (s : State) (n : ℕ) (gone Lender : ℕ → Type 0) (out : Type 0) (c : Choice) (x : Subject) (k : Option ℕ) (words : List ℕ)
    → DryAtOnce s n Lender out → Lender (lender x)
    → HasOwnHandles s n → FitsKinds (view s.fixed n) → IsThere s.fixed n x → node_of x ≡ n → MayLend x
    → SpareDoing (view s.fixed n) gone out (copies s c x k words)
copies-spare s n gone Lender out c x None words dry by hs fits is node may = tt
copies-spare s n gone Lender out c x (Some k) words dry by hs fits is node may =
    lends-spare s n gone Lender out c x (record { elements = k; filled = k; payload = words; copies = true; uninit = false }) dry by hs fits is node may

-- ---- other calls

writes-spare : (v : View) (gone : ℕ → Type 0) (out : Type 0) (h : Handle) (k : Option ℕ) (words : List ℕ) → SpareDoing v gone out (writes h k words)
writes-spare v gone out h None words = tt
writes-spare v gone out h (Some k) words =
    either (SpareDoing v gone out) (k == h.message.elements) (Ended (Fills (written h words))) (refused WrongLength) (λ u. tt) (λ u. tt)

reads-spare : (v : View) (gone : ℕ → Type 0) (out : Type 0) (c : Choice) (h : Handle) → SpareDoing v gone out (reads c h)
reads-spare v gone out c h =
    either (SpareDoing v gone out) c.memory (Ended (Tells (Words (h.message.user ++ h.message.payload)))) (refused WantOfMemory) (λ u. tt) (λ u. tt)

releases-spare : (v : View) (gone : ℕ → Type 0) (out : Type 0) (f : Fixed) (h : Handle) → SpareDoing v gone out (releases_handle f h)
releases-spare v gone out f h =
    either (SpareDoing v gone out) (is_received h.kind) (returning f h)
    (if same_kind h.kind PendingResponse then closing h (states_of f h) else Ended (Drops h))
    (λ u. either (SpareDoing v gone out) (forgot_port f h.node (way_of h).sender) (Ended (Drops h)) (Returning h) (λ y. tt) (λ y. tt))
    (λ u. either (SpareDoing v gone out) (same_kind h.kind PendingResponse) (closing h (states_of f h)) (Ended (Drops h))
    (λ y. closing-spare v gone out h (states_of f h)) (λ y. tt))

begins-spare : (s : State) (n : ℕ) (gone Lender : ℕ → Type 0) (out : Type 0) (wire : Bool) (c : Choice) (call : Call) (x : Subject)
    → DryAtOnce s n Lender out → Lender (lender x) → HasOwnHandles s n
    → FitsKinds (view s.fixed n) → IsThere s.fixed n x → node_of x ≡ n → suits wire call (kind_of x) ≡ true
    → SpareDoing (view s.fixed n) gone out (begins_at s c call x)
begins-spare s n gone Lender out wire c (Loan k l) x dry by hs fits is node e =
    lends-spare s n gone Lender out c x (ordered l false) dry by hs fits is node (may-lend s.fixed n x fits is e)
begins-spare s n gone Lender out wire c (LoanUninit k l) x dry by hs fits is node e =
    lends-spare s n gone Lender out c x (ordered l true) dry by hs fits is node (may-lend s.fixed n x fits is (split (not wire) _ e).1)
begins-spare s n gone Lender out wire c (Write k p) (TheHandle h) dry by hs fits is node e = writes-spare (view s.fixed n) gone out h p.elements p.words
begins-spare s n gone Lender out wire c (Send k) (TheHandle h) dry by hs fits is node e = sends-spare s.fixed n gone out h false (hs h is)
begins-spare s n gone Lender out wire c (SendCopy k p) x dry by hs fits is node e =
    copies-spare s n gone Lender out c x p.elements p.words dry by hs fits is node
    (may-lend s.fixed n x fits is (first-or-second (is_client p.role) (same_kind (kind_of x) kinds.Client) (same_kind (kind_of x) ActiveRequest) e))
begins-spare s n gone Lender out wire c (Receive k) (ThePort p) dry by hs fits is node e =
    visiting-spare (view s.fixed n) gone out (record { port = p.number; role = Server; lane = 0; request = 0 }) (server_ways s.fixed p) false
    (ap (λ (r : Role). is_client r) (role-is s.fixed p.number p is) ∙ port-receives (is_client p.role) e)
begins-spare s n gone Lender out wire c (Receive k) (TheHandle h) dry by hs fits is node e =
    visiting-spare (view s.fixed n) gone out (record { port = h.port; role = Client; lane = h.lane; request = h.request }) (pending_ways s.fixed h) false
    (sym (fits.suits h is).1 ∙ handle-receives h.kind (fits.suits h is).0 e)
begins-spare s n gone Lender out wire c (Read k) (TheHandle h) dry by hs fits is node e = reads-spare (view s.fixed n) gone out c h
begins-spare s n gone Lender out wire c (Release k) (ThePort p) dry by hs fits is node e = tt
begins-spare s n gone Lender out wire c (Release k) (TheHandle h) dry by hs fits is node e = releases-spare (view s.fixed n) gone out s.fixed h
begins-spare s n gone Lender out wire c (IsConnected k) (TheHandle h) dry by hs fits is node e =
    checking-spare (view s.fixed n) gone out h false (states_of s.fixed h)
begins-spare s n gone Lender out wire c (SetHint k) (TheHandle h) dry by hs fits is node e = hinting-spare (view s.fixed n) gone out h (states_of s.fixed h)
begins-spare s n gone Lender out wire c (HasHint k) (TheHandle h) dry by hs fits is node e =
    checking-spare (view s.fixed n) gone out h true (states_of s.fixed h)
begins-spare s n gone Lender out wire c (HasRequests k) (ThePort p) dry by hs fits is node e = seeking-spare (view s.fixed n) gone out (server_ways s.fixed p)
begins-spare s n gone Lender out wire c (HasResponse k) (TheHandle h) dry by hs fits is node e =
    seeking-spare (view s.fixed n) gone out (pending_ways s.fixed h)
begins-spare s n gone Lender out wire c call x dry by hs fits is node e = tt

pub start-spare : (s : State) (n : ℕ) (gone Lender : ℕ → Type 0) (out : Type 0) (c : Choice) (call : Call) → DryAtOnce s n Lender out
    → ((x : Subject) → subject s.fixed n (number_of call) ≡ Some x → Lender (lender x))
    → HasOwnHandles s n → FitsKinds (view s.fixed n) → misnamed s.fixed n call ≡ None → SpareDoing (view s.fixed n) gone out (start s n c call)
start-spare s n gone Lender out c call dry by hs fits e =
    let p : IsNamedBy s.fixed n call (subject s.fixed n (number_of call)) = named-by s.fixed n call (subject s.fixed n (number_of call)) e in
    subst (λ (o : Option Subject). SpareDoing (view s.fixed n) gone out (option_map_or (begins_at s c call) o (refused UnknownNumber))) (sym p.is)
    (begins-spare s n gone Lender out s.fixed.on_wire c call p.named dry (by p.named p.is) hs fits
    (there s.fixed n (number_of call) p.named (port_at s.fixed (number_of call)) (handle_at s.fixed n (number_of call)) refl refl p.is)
    p.of_node p.may)

-- who is dead does not live
dead-or-not : (q r : Refusal) (b : Bool) → refused_if b q ≡ None → refused_if (not b) r ≡ None → ⊥
dead-or-not q r true e f = none-some q (sym e)
dead-or-not q r false e f = none-some r (sym f)

dead-gone : (s : State) (dead : ℕ) → not_dead s dead ≡ None → not_living s dead ≡ None → ⊥
dead-gone s dead = by_case UnknownNode NodeIsAlive NodeIsDead (node_at s dead)
  where
    by_case : (u q r : Refusal) (o : Option Node) → option_map_or (λ m. refused_if m.alive q) o (Some u) ≡ None
        → option_map_or (λ m. refused_if (not m.alive) r) o (Some u) ≡ None → ⊥
    by_case u q r None e f = none-some u (sym e)
    by_case u q r (Some m) e f = dead-or-not q r m.alive e f

pub wire_start-spare : (s : State) (n : ℕ) (out : Type 0) (c : Choice) (call : WireCall) → DryAtOnce s n (λ port. ⊤) out
    → HasOwnHandles s n → FitsKinds (view s.fixed n) → miscalled s n call ≡ None
    → SpareDoing (view s.fixed n) (λ dead. not_living s dead ≡ None → ⊥) out (wire_start s n c call)
wire_start-spare s n out c (wire_calls.Port call) dry hs fits e =
    start-spare s n (λ dead. not_living s dead ≡ None → ⊥) (λ port. ⊤) out c call dry (λ x is. tt) hs fits e
wire_start-spare s n out c (Forget dead) dry hs fits e = dead-gone s dead e
