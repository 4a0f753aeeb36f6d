-- A call begins as it has to.
use Rattle.std.specs.Prelude.{◌≡◌, ℕ, ◌+◌, Bool, true, false, not, ◌||◌, if◌then◌else◌, ◌==◌, List, [], ◌++◌, Option, Some, None, refl}
use Rattle.std.specs.Option.{option_map_or}
use Rattle.std.proofs.Common.{sym, subst, ap, ◌∙◌, eqb-true, true≢false, inl, inr}
use Rattle.iox_model.specs.declared.kind.Role.{Role}
use Rattle.iox_model.specs.declared.kind.Role.TheVariants.{Client, Server}
use Rattle.iox_model.specs.declared.kind.Kind.{Kind}
use Rattle.iox_model.specs.declared.kind.Kind.TheVariants.{RequestMutUninit, RequestMut, ResponseMutUninit, ResponseMut, PendingResponse}
use Rattle.iox_model.specs.declared.kind.Kind.TheVariants as kinds
use Rattle.iox_model.specs.declared.way.Way.{Way}
use Rattle.iox_model.specs.declared.call.Call.TheVariants.{Loan, LoanUninit, Write, Send, SendCopy, Receive, Read, Release, IsConnected, SetHint, HasHint, HasRequests, HasResponse}
use Rattle.iox_model.specs.declared.call.WireCall.TheVariants.{Forget}
use Rattle.iox_model.specs.declared.call.WireCall.TheVariants as wire_calls
use Rattle.iox_model.specs.declared.reply.Refusal.TheVariants.{UnknownNumber, WrongKind, WrongLength, ForeignNumber, WantOfMemory}
use Rattle.iox_model.specs.declared.reply.Reply.TheVariants.{Words}
use Rattle.iox_model.specs.Doings.{refused, Tells, Fills, Drops, Doing, Ended, Returning}
use Rattle.iox_model.specs.Weaves.{wire_start, miscalled}
use Rattle.iox_model.specs.Settings.{is_client}
use Rattle.iox_model.specs.States.{Port, Handle, Fixed, State}
use Rattle.iox_model.specs.Loans.{kind_of_loan, loan_of, next_request, request_loan_refusal, response_loan_refusal, memory_refusal, lending_ways, unless_refused, Choice, Order}
use Rattle.iox_model.specs.Handles.{same_kind, is_request_loan, is_response_loan, is_received, way_of, handle_at, subject, port_or_handle, kind_of, node_of, Subject, ThePort, TheHandle}
use Rattle.iox_model.specs.Maps.{refused_if}
use Rattle.iox_model.specs.Names.{is_port, suits, misnamed_by, misnamed}
use Rattle.iox_model.specs.Begins.{written, writes, reads, begins_at, start}
use Rattle.iox_model.specs.Settings.{is_count}
use Rattle.iox_model.specs.Responses.{lends_request, lends_response, lends_by, lends, copies, shape_for, lending, ordered}
use Rattle.iox_model.specs.Receives.{server_ways, pending_ways, clients_to_visit}
use Rattle.iox_model.specs.Releases.{states_of, closing, returning, releases_handle}
use Rattle.iox_model.specs.Commands.{Refusal, Call, WireCall, number_of}
use Rattle.iox_model.specs.Messages.{request_way, response_way}
use Rattle.iox_model.specs.Peers.{port_at, ports_of_role, forgot_port}
use Rattle.iox_laws.proofs.WeaveLaws.CallLaws.{not-true}
use Rattle.iox_laws.proofs.WeaveLaws.MapLemmas.{either}
use Rattle.iox_laws.proofs.WeaveLaws.WholeLemmas.{some-is, or_else-none}
use Rattle.iox_laws.proofs.WeaveLedger.Truths.{never, none-some, passed, not-false, or-right}
use Rattle.iox_laws.proofs.WeaveLedger.Lists.{among-append, IsAmong, find-among, map-among}
use Rattle.iox_laws.proofs.WeaveLedger.Views.{role_in, View, view, IsAt, mine}
use Rattle.iox_laws.proofs.WeaveLedger.Senders.{is_loan, FitsHandles, FitsLoan, FitsDoing, TakesOn, IsFilled}
use Rattle.iox_laws.proofs.WeaveLedger.Phases.{role-of-all, HasOwnPorts, sends-fits, loaning-fits, visiting-fits, closing-fits, checking-fits, hinting-fits, seeking-fits}

-- ---- what a call names

pub record IsNamedBy (f : Fixed) (node : ℕ) (call : Call) (o : Option Subject) : Type 0 where
  pub named : Subject
  pub is : o ≡ Some named
  pub of_node : node_of named ≡ node
  pub may : suits f.on_wire call (kind_of named) ≡ true

pub named-by : (f : Fixed) (node : ℕ) (call : Call) (o : Option Subject) → misnamed_by f node call o ≡ None → IsNamedBy f node call o
named-by f node call None e = absurd (none-some _ (sym e))
named-by f node call (Some x) e =
    let p : (refused_if (not (node_of x == node)) ForeignNumber ≡ None) × (refused_if (not (suits f.on_wire call (kind_of x))) WrongKind ≡ None)
    = or_else-none _ _ e in
    record {
      named = x;
      is = refl;
      of_node = eqb-true (node_of x) node (not-false _ (passed _ _ p.0));
      may = not-false _ (passed _ _ p.1);
    }

abbrev pub IsThere : Fixed → ℕ → Subject → Type 0
IsThere f node (ThePort p) = port_at f p.number ≡ Some p
IsThere f node (TheHandle h) = IsAmong h (f.handles node)

pub there : (f : Fixed) (node number : ℕ) (x : Subject) (p : Option Port) (h : Option Handle) → port_at f number ≡ p → handle_at f node number ≡ h
    → port_or_handle p h ≡ Some x → IsThere f node x
there f node number x (Some p) h is other e = by_case p.held e
  where
    number-is : number ≡ p.number
    number-is = sym (eqb-true p.number number (find-among (λ (q : Port). q.number == number) p f.ports is).1)

    by_case : (b : Bool) → (if b then Some (ThePort p) else None) ≡ Some x → IsThere f node x
    by_case true e = subst (IsThere f node) (some-is (ThePort p) x e) (ap (port_at f) (sym number-is) ∙ is)
    by_case false e = absurd (none-some x e)
there f node number x None (Some h) is other e =
    subst (IsThere f node) (some-is (TheHandle h) x e) (find-among (λ (k : Handle). k.number == number) h (f.handles node) other).0
there f node number x None None is other e = absurd (none-some x e)

-- ---- loans

pub kind-loan : (role : Role) (uninit : Bool) → is_loan (kind_of_loan role uninit) ≡ true
kind-loan Client true = refl
kind-loan Client false = refl
kind-loan Server true = refl
kind-loan Server false = refl

pub kind-role : (role : Role) (uninit : Bool) → is_request_loan (kind_of_loan role uninit) ≡ is_client role
kind-role Client true = refl
kind-role Client false = refl
kind-role Server true = refl
kind-role Server false = refl

loan-fits : (f : Fixed) (n : ℕ) (p : Port) (o : Order) (client lane request : ℕ) → f.on_wire ≡ true → port_at f p.number ≡ Some p → p.node ≡ n
    → FitsLoan (view f n) n (loan_of f p o client lane request) true
loan-fits f n p o client lane request wire is node = record {
  of_node = node;
  of_port = at;
  loan = kind-loan p.role o.uninit;
  made = record {
    sender = refl;
    lane = refl;
    role = kind-role p.role o.uninit ∙ sym (ap (λ (q : Option Port). is_client (option_map_or (λ x. x.role) q Client)) is);
  };
  stands = (
    sym (ap (λ (b : Bool). if b then f.loans p.number else 0) (mine f.ports p.number n at)),
    ap (λ (b : Bool). if b then f.next_number + f.handles_made p.node else f.next_number) wire ∙ ap (λ k. f.next_number + f.handles_made k) node,
  );
}
  where
    at : IsAt f.ports p.number n
    at = ap (λ (q : Option Port). option_map_or (λ x. x.node) q 0) is ∙ node

unless-fits : (v : View) (n : ℕ) (r : Option Refusal) (d : Doing) → FitsDoing v n d → FitsDoing v n (unless_refused r d)
unless-fits v n (Some r) d p = tt
unless-fits v n None d p = p

lends_request-fits : (s : State) (n : ℕ) (c : Choice) (p : Port) (o : Order) → HasOwnPorts s.fixed → s.fixed.on_wire ≡ true → port_at s.fixed p.number ≡ Some p
    → p.node ≡ n → FitsDoing (view s.fixed n) n (lends_request s c p o)
lends_request-fits s n c p o own wire is node =
    let h : Handle = loan_of s.fixed p o p.number c.lane (next_request s.fixed p.number) in
    unless-fits (view s.fixed n) n (request_loan_refusal s.fixed p o.elements) (unless_refused (memory_refusal s c p.number) (lending s o.copies h))
    (unless-fits (view s.fixed n) n (memory_refusal s c p.number) (lending s o.copies h)
    (loaning-fits s n o.copies h (lending_ways s.fixed h) own (loan-fits s.fixed n p o p.number c.lane (next_request s.fixed p.number) wire is node)))

lends_response-fits : (s : State) (n : ℕ) (c : Choice) (h : Handle) (p : Port) (o : Order) → HasOwnPorts s.fixed → s.fixed.on_wire ≡ true
    → port_at s.fixed p.number ≡ Some p → p.node ≡ n → FitsDoing (view s.fixed n) n (lends_response s c h p o)
lends_response-fits s n c h p o own wire is node =
    let l : Handle = loan_of s.fixed p o h.client h.lane h.request in
    unless-fits (view s.fixed n) n (response_loan_refusal s.fixed h p o.elements) (unless_refused (memory_refusal s c p.number) (lending s o.copies l))
    (unless-fits (view s.fixed n) n (memory_refusal s c p.number) (lending s o.copies l)
    (loaning-fits s n o.copies l (lending_ways s.fixed l) own (loan-fits s.fixed n p o h.client h.lane h.request wire is node)))

lends_by-fits : (s : State) (n : ℕ) (c : Choice) (x : Subject) (o : Order) → HasOwnPorts s.fixed → s.fixed.on_wire ≡ true → FitsHandles (view s.fixed n) n
    → IsThere s.fixed n x → node_of x ≡ n → FitsDoing (view s.fixed n) n (lends_by s c x o)
lends_by-fits s n c (ThePort p) o own wire fits is node = lends_request-fits s n c p o own wire is node
lends_by-fits s n c (TheHandle h) o own wire fits is node = by_case (port_at s.fixed h.port) refl
  where
    by_case : (q : Option Port) → port_at s.fixed h.port ≡ q
        → FitsDoing (view s.fixed n) n (option_map_or (λ p. lends_response s c h p o) q (refused UnknownNumber))
    by_case None e = tt
    by_case (Some p) e =
        let number : p.number ≡ h.port = eqb-true p.number h.port (find-among (λ (x : Port). x.number == h.port) p s.fixed.ports e).1 in
        lends_response-fits s n c h p o own wire (ap (port_at s.fixed) number ∙ e)
        (sym (ap (λ (y : Option Port). option_map_or (λ x. x.node) y 0) e) ∙ fits.of_port h is)

lends-fits : (s : State) (n : ℕ) (c : Choice) (x : Subject) (o : Order) → HasOwnPorts s.fixed → s.fixed.on_wire ≡ true → FitsHandles (view s.fixed n) n
    → IsThere s.fixed n x → node_of x ≡ n → FitsDoing (view s.fixed n) n (lends s c x o)
lends-fits s n c x o own wire fits is node =
    either (FitsDoing (view s.fixed n) n) (is_count (shape_for s.fixed x) o.elements) (lends_by s c x o) (refused WrongLength)
    (λ u. lends_by-fits s n c x o own wire fits is node) (λ u. tt)

copies-fits : (s : State) (n : ℕ) (c : Choice) (x : Subject) (k : Option ℕ) (words : List ℕ) → HasOwnPorts s.fixed → s.fixed.on_wire ≡ true
    → FitsHandles (view s.fixed n) n → IsThere s.fixed n x → node_of x ≡ n → FitsDoing (view s.fixed n) n (copies s c x k words)
copies-fits s n c x None words own wire fits is node = tt
copies-fits s n c x (Some k) words own wire fits is node =
    lends-fits s n c x (record { elements = k; filled = k; payload = words; copies = true; uninit = false }) own wire fits is node

-- ---- other calls

pub written-role : (b : Bool) → is_request_loan (if b then RequestMut else ResponseMut) ≡ b
written-role true = refl
written-role false = refl

pub written-loan : (b : Bool) → is_loan (if b then RequestMut else ResponseMut) ≡ true
written-loan true = refl
written-loan false = refl

pub written-fills : (v : View) (n : ℕ) (h : Handle) (words : List ℕ) → FitsHandles v n → IsAmong h v.handles → is_loan h.kind ≡ true
    → IsFilled v n (written h words)
written-fills v n h words fits is loan = record {
  old = h;
  among = is;
  number = refl;
  port = refl;
  serial = refl;
  was_loan = loan;
  of_node = fits.of_node h is;
  is_loan_still = written-loan (is_request_loan h.kind);
  made = record {
    sender = (fits.made h is loan).sender;
    lane = (fits.made h is loan).lane;
    role = written-role (is_request_loan h.kind) ∙ (fits.made h is loan).role;
  };
}

writes-fits : (v : View) (n : ℕ) (h : Handle) (k : Option ℕ) (words : List ℕ) → FitsHandles v n → IsAmong h v.handles → is_loan h.kind ≡ true
    → FitsDoing v n (writes h k words)
writes-fits v n h None words fits is loan = tt
writes-fits v n h (Some k) words fits is loan =
    either (FitsDoing v n) (k == h.message.elements) (Ended (Fills (written h words))) (refused WrongLength)
    (λ u. written-fills v n h words fits is loan) (λ u. tt)

pub own-loan : (v : View) (n : ℕ) (h : Handle) → FitsHandles v n → IsAmong h v.handles → is_loan h.kind ≡ true → FitsLoan v n h false
own-loan v n h fits is loan = record {
  of_node = fits.of_node h is;
  of_port = fits.of_port h is;
  loan = loan;
  made = fits.made h is loan;
  stands = is;
}

reads-fits : (v : View) (n : ℕ) (c : Choice) (h : Handle) → FitsDoing v n (reads c h)
reads-fits v n c h =
    either (FitsDoing v n) c.memory (Ended (Tells (Words (h.message.user ++ h.message.payload)))) (refused WantOfMemory) (λ u. tt) (λ u. tt)

releases-fits : (f : Fixed) (n : ℕ) (h : Handle) → IsAmong h (f.handles n) → FitsDoing (view f n) n (releases_handle f h)
releases-fits f n h is =
    either (FitsDoing (view f n) n) (is_received h.kind) (returning f h)
    (if same_kind h.kind PendingResponse then closing h (states_of f h) else Ended (Drops h))
    (λ u. either (FitsDoing (view f n) n) (forgot_port f h.node (way_of h).sender) (Ended (Drops h)) (Returning h) (λ y. is) (λ y. is))
    (λ u. either (FitsDoing (view f n) n) (same_kind h.kind PendingResponse) (closing h (states_of f h)) (Ended (Drops h))
    (λ y. closing-fits (view f n) n h (states_of f h) is) (λ y. is))

no_port : (b : Bool) → is_port (if b then kinds.Client else kinds.Server) ≡ true
no_port true = refl
no_port false = refl

pub write-loan : (role : Role) (k : Kind) → (if is_client role then is_request_loan k else is_response_loan k) ≡ true → is_loan k ≡ true
write-loan Client k e = ap (λ b. b || is_response_loan k) e
write-loan Server k e = or-right (is_request_loan k) (is_response_loan k) e

pub send-loan : (a b c d : Bool) → (a || c) ≡ true → ((a || b) || (c || d)) ≡ true
send-loan true b c d e = refl
send-loan false true c d e = refl
send-loan false false true d e = refl
send-loan false false false d e = absurd (true≢false (sym e))

begins-fits : (s : State) (n : ℕ) (c : Choice) (call : Call) (x : Subject) → HasOwnPorts s.fixed → ((p : ℕ) → s.fixed.expired p ≡ [])
    → s.fixed.on_wire ≡ true → FitsHandles (view s.fixed n) n
    → IsThere s.fixed n x → node_of x ≡ n → suits true call (kind_of x) ≡ true → FitsDoing (view s.fixed n) n (begins_at s c call x)
begins-fits s n c (Loan k l) x own expired wire fits is node e = lends-fits s n c x (ordered l false) own wire fits is node
begins-fits s n c (LoanUninit k l) x own expired wire fits is node e = lends-fits s n c x (ordered l true) own wire fits is node
begins-fits s n c (Write k p) (TheHandle h) own expired wire fits is node e =
    writes-fits (view s.fixed n) n h p.elements p.words fits is (write-loan p.role h.kind e)
begins-fits s n c (Send k) (TheHandle h) own expired wire fits is node e =
    sends-fits s.fixed n h false own (own-loan (view s.fixed n) n h fits is
    (send-loan (same_kind h.kind RequestMut) (same_kind h.kind RequestMutUninit) (same_kind h.kind ResponseMut) (same_kind h.kind ResponseMutUninit) e))
begins-fits s n c (SendCopy k p) x own expired wire fits is node e = copies-fits s n c x p.elements p.words own wire fits is node
begins-fits s n c (Receive k) (ThePort p) own expired wire fits is node e =
    visiting-fits (view s.fixed n) n (record { port = p.number; role = Server; lane = 0; request = 0 }) (server_ways s.fixed p) false (
      ap (λ (q : Option Port). option_map_or (λ x. x.node) q 0) is ∙ node,
      λ w a. on w (map-among (λ client. request_way client p.number) w (clients_to_visit s.fixed p) a),
    )
  where
    on : (w : Way) → (q : ℕ) × IsAmong q (clients_to_visit s.fixed p) × (w ≡ request_way q p.number)
        → TakesOn (view s.fixed n) (record { port = p.number; role = Server; lane = 0; request = 0 }) w
    on w r = (ap (λ (u : Way). u.receiver) r.2, λ client. absurd (true≢false (sym client)), λ server. ap (λ (u : Way). u.lane) r.2)
begins-fits s n c (Receive k) (TheHandle h) own expired wire fits is node e =
    visiting-fits (view s.fixed n) n (record { port = h.port; role = Client; lane = h.lane; request = h.request }) (pending_ways s.fixed h) false (
      fits.of_port h is,
      λ w a. on w (map-among (response_way h.port h.lane) w (s.fixed.expired h.port ++ ports_of_role s.fixed Server) a),
    )
  where
    server : (q : ℕ) → IsAmong q (s.fixed.expired h.port ++ ports_of_role s.fixed Server) → is_client (role_in s.fixed.ports q) ≡ false
    server q a = elim (among-append q (s.fixed.expired h.port) (ports_of_role s.fixed Server) a)
        as (λ u. is_client (role_in s.fixed.ports q) ≡ false)
        [ inl t ↦ absurd (subst (IsAmong q) (expired h.port) t) | inr t ↦ role-of-all s.fixed q Server own t ]

    on : (w : Way) → (q : ℕ) × IsAmong q (s.fixed.expired h.port ++ ports_of_role s.fixed Server)
        × (w ≡ response_way h.port h.lane q)
        → TakesOn (view s.fixed n) (record { port = h.port; role = Client; lane = h.lane; request = h.request }) w
    on w r = (
      ap (λ (u : Way). u.receiver) r.2,
      λ client. ap (λ (u : Way). is_client (role_in s.fixed.ports u.sender)) r.2 ∙ server r.0 r.1,
      λ other. absurd (true≢false other),
    )
begins-fits s n c (Read k) (TheHandle h) own expired wire fits is node e = reads-fits (view s.fixed n) n c h
begins-fits s n c (Release k) (ThePort p) own expired wire fits is node e =
    absurd (never (is_port (if is_client p.role then kinds.Client else kinds.Server)) (no_port (is_client p.role)) (not-true _ e))
begins-fits s n c (Release k) (TheHandle h) own expired wire fits is node e = releases-fits s.fixed n h is
begins-fits s n c (IsConnected k) (TheHandle h) own expired wire fits is node e = checking-fits (view s.fixed n) n h false (states_of s.fixed h)
begins-fits s n c (SetHint k) (TheHandle h) own expired wire fits is node e = hinting-fits (view s.fixed n) n h (states_of s.fixed h)
begins-fits s n c (HasHint k) (TheHandle h) own expired wire fits is node e = checking-fits (view s.fixed n) n h true (states_of s.fixed h)
begins-fits s n c (HasRequests k) (ThePort p) own expired wire fits is node e = seeking-fits (view s.fixed n) n (server_ways s.fixed p)
begins-fits s n c (HasResponse k) (TheHandle h) own expired wire fits is node e = seeking-fits (view s.fixed n) n (pending_ways s.fixed h)
begins-fits s n c call x own expired wire fits is node e = tt

start-fits : (s : State) (n : ℕ) (c : Choice) (call : Call) → HasOwnPorts s.fixed → ((p : ℕ) → s.fixed.expired p ≡ []) → s.fixed.on_wire ≡ true
    → FitsHandles (view s.fixed n) n
    → misnamed s.fixed n call ≡ None → FitsDoing (view s.fixed n) n (start s n c call)
start-fits s n c call own expired wire fits e =
    let p : IsNamedBy s.fixed n call (subject s.fixed n (number_of call)) = named-by s.fixed n call (subject s.fixed n (number_of call)) e in
    subst (λ (o : Option Subject). FitsDoing (view s.fixed n) n (option_map_or (begins_at s c call) o (refused UnknownNumber))) (sym p.is)
    (begins-fits s n c call p.named own expired wire fits
    (there s.fixed n (number_of call) p.named (port_at s.fixed (number_of call)) (handle_at s.fixed n (number_of call)) refl refl p.is)
    p.of_node (ap (λ b. suits b call (kind_of p.named)) (sym wire) ∙ p.may))

pub wire_start-fits : (s : State) (n : ℕ) (c : Choice) (call : WireCall) → HasOwnPorts s.fixed → ((p : ℕ) → s.fixed.expired p ≡ [])
    → s.fixed.on_wire ≡ true → FitsHandles (view s.fixed n) n
    → miscalled s n call ≡ None → FitsDoing (view s.fixed n) n (wire_start s n c call)
wire_start-fits s n c (wire_calls.Port call) own expired wire fits e = start-fits s n c call own expired wire fits e
wire_start-fits s n c (Forget dead) own expired wire fits e = tt
