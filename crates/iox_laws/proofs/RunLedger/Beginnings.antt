-- A call of a hub begins as it has to.
use Rattle.std.specs.Prelude.{◌≡◌, ℕ, ◌+◌, Bool, true, false, if◌then◌else◌, ◌==◌, List, [], ◌++◌, Option, Some, None, refl}
use Rattle.std.specs.Option.{option_map_or}
use Rattle.std.proofs.Common.{sym, subst, ap, ◌∙◌, eqb-true, arith}
use Rattle.iox_model.specs.declared.kind.Role.TheVariants.{Client, Server}
use Rattle.iox_model.specs.declared.kind.Kind.TheVariants.{RequestMutUninit, RequestMut, ResponseMutUninit, ResponseMut, PendingResponse}
use Rattle.iox_model.specs.declared.call.Call.TheVariants.{Loan, LoanUninit, Write, Send, SendCopy, Receive, Read, Release, IsConnected, SetHint, HasHint, HasRequests, HasResponse}
use Rattle.iox_model.specs.declared.reply.Refusal.TheVariants.{UnknownNumber, WrongLength, WantOfMemory}
use Rattle.iox_model.specs.declared.reply.Reply.TheVariants.{Words}
use Rattle.iox_model.specs.Begins.{written, writes, reads, begins_at, start}
use Rattle.iox_model.specs.Commands.{Refusal, Call, number_of}
use Rattle.iox_model.specs.Doings.{refused, Tells, Fills, Drops, Doing, Ended, Returning}
use Rattle.iox_model.specs.Handles.{same_kind, is_received, way_of, handle_at, subject, kind_of, node_of, Subject, ThePort, TheHandle}
use Rattle.iox_model.specs.Loans.{loan_of, next_request, request_loan_refusal, response_loan_refusal, memory_refusal, lending_ways, unless_refused, Choice, Order}
use Rattle.iox_model.specs.Names.{suits, misnamed}
use Rattle.iox_model.specs.Peers.{port_at, forgot_port}
use Rattle.iox_model.specs.Receives.{server_ways, pending_ways}
use Rattle.iox_model.specs.Releases.{states_of, closing, returning, releases_handle}
use Rattle.iox_model.specs.Responses.{lending, lends_response, lends_by, lends, copies, shape_for, ordered}
use Rattle.iox_model.specs.Settings.{is_client, is_count}
use Rattle.iox_model.specs.States.{Port, Handle, Fixed, State}
use Rattle.iox_laws.proofs.WeaveLaws.MapLemmas.{either}
use Rattle.iox_laws.proofs.WeaveLedger.Lists.{IsAmong, find-among}
use Rattle.iox_laws.proofs.WeaveLedger.Phases.{HasOwnPorts, sends-fits, loaning-fits}
use Rattle.iox_laws.proofs.WeaveLedger.Senders.{is_loan, FitsHandles, FitsLoan}
use Rattle.iox_laws.proofs.WeaveLedger.Starts.{IsNamedBy, named-by, IsThere, there, kind-loan, kind-role, own-loan, write-loan, send-loan, written-fills}
use Rattle.iox_laws.proofs.WeaveLedger.Views.{view, mine, IsAt, View}
use Rattle.iox_laws.proofs.RunLedger.Underway.{Stands, sends-stands, loaning-stands, visiting-stands, closing-stands, checking-stands, hinting-stands, seeking-stands}

-- nobody forgot anybody, and numbers are not counted by nodes
pub record IsHub (f : Fixed) : Type 0 where
  pub hub : f.on_wire ≡ false
  pub forgot : (n : ℕ) → f.forgot n ≡ []
  pub made : (n : ℕ) → f.handles_made n ≡ 0

-- ---- loans

loan-fits : (f : Fixed) (n : ℕ) (p : Port) (o : Order) (client lane request : ℕ) → IsHub f → port_at f p.number ≡ Some p → p.node ≡ n
    → FitsLoan (view f n) n (loan_of f p o client lane request) true
loan-fits f n p o client lane request hub is node = record {
  of_node = node;
  of_port = at;
  loan = kind-loan p.role o.uninit;
  made = record {
    sender = refl;
    lane = refl;
    role = kind-role p.role o.uninit ∙ sym (ap (λ (q : Option Port). is_client (option_map_or (λ x. x.role) q Client)) is);
  };
  stands = (
    sym (ap (λ (b : Bool). if b then f.loans p.number else 0) (mine f.ports p.number n at)),
    ap (λ (b : Bool). if b then f.next_number + f.handles_made p.node else f.next_number) hub.hub ∙ plus_none f.next_number (f.handles_made n) (hub.made n),
  );
}
  where
    at : IsAt f.ports p.number n
    at = ap (λ (q : Option Port). option_map_or (λ x. x.node) q 0) is ∙ node

    plus_none : (a b : ℕ) → b ≡ 0 → a ≡ a + b
    plus_none a b e = omega arith

unless-stands : (v : View) (n : ℕ) (r : Option Refusal) (d : Doing) → Stands v n d → Stands v n (unless_refused r d)
unless-stands v n (Some r) d p = tt
unless-stands v n None d p = p

lending-stands : (s : State) (n : ℕ) (copied : Bool) (h : Handle) → HasOwnPorts s.fixed → FitsLoan (view s.fixed n) n h true
    → Stands (view s.fixed n) n (lending s copied h)
lending-stands s n copied h own p =
    loaning-stands (view s.fixed n) n s copied h (lending_ways s.fixed h) (loaning-fits s n copied h (lending_ways s.fixed h) own p)

lends_by-stands : (s : State) (n : ℕ) (c : Choice) (x : Subject) (o : Order) → HasOwnPorts s.fixed → IsHub s.fixed → FitsHandles (view s.fixed n) n
    → IsThere s.fixed n x → node_of x ≡ n → Stands (view s.fixed n) n (lends_by s c x o)
lends_by-stands s n c (ThePort p) o own hub fits is node =
    let h : Handle = loan_of s.fixed p o p.number c.lane (next_request s.fixed p.number) in
    unless-stands (view s.fixed n) n (request_loan_refusal s.fixed p o.elements) (unless_refused (memory_refusal s c p.number) (lending s o.copies h))
    (unless-stands (view s.fixed n) n (memory_refusal s c p.number) (lending s o.copies h)
    (lending-stands s n o.copies h own (loan-fits s.fixed n p o p.number c.lane (next_request s.fixed p.number) hub is node)))
lends_by-stands s n c (TheHandle h) o own hub fits is node = by_port (port_at s.fixed h.port) refl
  where
    by_port : (q : Option Port) → port_at s.fixed h.port ≡ q
        → Stands (view s.fixed n) n (option_map_or (λ p. lends_response s c h p o) q (refused UnknownNumber))
    by_port None e = tt
    by_port (Some p) e =
        let number : p.number ≡ h.port = eqb-true p.number h.port (find-among (λ (x : Port). x.number == h.port) p s.fixed.ports e).1 in
        let l : Handle = loan_of s.fixed p o h.client h.lane h.request in
        unless-stands (view s.fixed n) n (response_loan_refusal s.fixed h p o.elements) (unless_refused (memory_refusal s c p.number) (lending s o.copies l))
        (unless-stands (view s.fixed n) n (memory_refusal s c p.number) (lending s o.copies l)
        (lending-stands s n o.copies l own (loan-fits s.fixed n p o h.client h.lane h.request hub (ap (port_at s.fixed) number ∙ e)
        (sym (ap (λ (y : Option Port). option_map_or (λ x. x.node) y 0) e) ∙ fits.of_port h is))))

lends-stands : (s : State) (n : ℕ) (c : Choice) (x : Subject) (o : Order) → HasOwnPorts s.fixed → IsHub s.fixed → FitsHandles (view s.fixed n) n
    → IsThere s.fixed n x → node_of x ≡ n → Stands (view s.fixed n) n (lends s c x o)
lends-stands s n c x o own hub fits is node =
    either (Stands (view s.fixed n) n) (is_count (shape_for s.fixed x) o.elements) (lends_by s c x o) (refused WrongLength)
    (λ u. lends_by-stands s n c x o own hub fits is node) (λ u. tt)

copies-stands : (s : State) (n : ℕ) (c : Choice) (x : Subject) (k : Option ℕ) (words : List ℕ) → HasOwnPorts s.fixed → IsHub s.fixed
    → FitsHandles (view s.fixed n) n → IsThere s.fixed n x → node_of x ≡ n → Stands (view s.fixed n) n (copies s c x k words)
copies-stands s n c x None words own hub fits is node = tt
copies-stands s n c x (Some k) words own hub fits is node =
    lends-stands s n c x (record { elements = k; filled = k; payload = words; copies = true; uninit = false }) own hub fits is node

-- ---- other calls

writes-stands : (v : View) (n : ℕ) (h : Handle) (k : Option ℕ) (words : List ℕ) → FitsHandles v n → IsAmong h v.handles → is_loan h.kind ≡ true
    → Stands v n (writes h k words)
writes-stands v n h None words fits is loan = tt
writes-stands v n h (Some k) words fits is loan =
    either (Stands v n) (k == h.message.elements) (Ended (Fills (written h words))) (refused WrongLength)
    (λ u. written-fills v n h words fits is loan) (λ u. tt)

reads-stands : (v : View) (n : ℕ) (c : Choice) (h : Handle) → Stands v n (reads c h)
reads-stands v n c h =
    either (Stands v n) c.memory (Ended (Tells (Words (h.message.user ++ h.message.payload)))) (refused WantOfMemory) (λ u. tt) (λ u. tt)

releases-stands : (f : Fixed) (n : ℕ) (h : Handle) → IsAmong h (f.handles n) → Stands (view f n) n (releases_handle f h)
releases-stands f n h is =
    either (Stands (view f n) n) (is_received h.kind) (returning f h)
    (if same_kind h.kind PendingResponse then closing h (states_of f h) else Ended (Drops h))
    (λ u. either (Stands (view f n) n) (forgot_port f h.node (way_of h).sender) (Ended (Drops h)) (Returning h) (λ y. is) (λ y. is))
    (λ u. either (Stands (view f n) n) (same_kind h.kind PendingResponse) (closing h (states_of f h)) (Ended (Drops h))
    (λ y. closing-stands (view f n) n h (states_of f h) is) (λ y. is))

begins-stands : (s : State) (n : ℕ) (c : Choice) (call : Call) (x : Subject) → HasOwnPorts s.fixed → IsHub s.fixed → FitsHandles (view s.fixed n) n
    → IsThere s.fixed n x → node_of x ≡ n → suits s.fixed.on_wire call (kind_of x) ≡ true → Stands (view s.fixed n) n (begins_at s c call x)
begins-stands s n c (Loan k l) x own hub fits is node e = lends-stands s n c x (ordered l false) own hub fits is node
begins-stands s n c (LoanUninit k l) x own hub fits is node e = lends-stands s n c x (ordered l true) own hub fits is node
begins-stands s n c (Write k p) (TheHandle h) own hub fits is node e =
    writes-stands (view s.fixed n) n h p.elements p.words fits is (write-loan p.role h.kind e)
begins-stands s n c (Send k) (TheHandle h) own hub fits is node e =
    sends-stands (view s.fixed n) n s.fixed h false (sends-fits s.fixed n h false own (own-loan (view s.fixed n) n h fits is
    (send-loan (same_kind h.kind RequestMut) (same_kind h.kind RequestMutUninit) (same_kind h.kind ResponseMut) (same_kind h.kind ResponseMutUninit) e)))
begins-stands s n c (SendCopy k p) x own hub fits is node e = copies-stands s n c x p.elements p.words own hub fits is node
begins-stands s n c (Receive k) (ThePort p) own hub fits is node e =
    visiting-stands (view s.fixed n) n (record { port = p.number; role = Server; lane = 0; request = 0 }) (server_ways s.fixed p) false
begins-stands s n c (Receive k) (TheHandle h) own hub fits is node e =
    visiting-stands (view s.fixed n) n (record { port = h.port; role = Client; lane = h.lane; request = h.request }) (pending_ways s.fixed h) false
begins-stands s n c (Read k) (TheHandle h) own hub fits is node e = reads-stands (view s.fixed n) n c h
begins-stands s n c (Release k) (ThePort p) own hub fits is node e = tt
begins-stands s n c (Release k) (TheHandle h) own hub fits is node e = releases-stands s.fixed n h is
begins-stands s n c (IsConnected k) (TheHandle h) own hub fits is node e = checking-stands (view s.fixed n) n h false (states_of s.fixed h)
begins-stands s n c (SetHint k) (TheHandle h) own hub fits is node e = hinting-stands (view s.fixed n) n h (states_of s.fixed h)
begins-stands s n c (HasHint k) (TheHandle h) own hub fits is node e = checking-stands (view s.fixed n) n h true (states_of s.fixed h)
begins-stands s n c (HasRequests k) (ThePort p) own hub fits is node e = seeking-stands (view s.fixed n) n (server_ways s.fixed p)
begins-stands s n c (HasResponse k) (TheHandle h) own hub fits is node e = seeking-stands (view s.fixed n) n (pending_ways s.fixed h)
begins-stands s n c call x own hub fits is node e = tt

pub start-stands : (s : State) (n : ℕ) (c : Choice) (call : Call) → HasOwnPorts s.fixed → IsHub s.fixed → FitsHandles (view s.fixed n) n
    → misnamed s.fixed n call ≡ None → Stands (view s.fixed n) n (start s n c call)
start-stands s n c call own hub fits e =
    let p : IsNamedBy s.fixed n call (subject s.fixed n (number_of call)) = named-by s.fixed n call (subject s.fixed n (number_of call)) e in
    subst (λ (o : Option Subject). Stands (view s.fixed n) n (option_map_or (begins_at s c call) o (refused UnknownNumber))) (sym p.is)
    (begins-stands s n c call p.named own hub fits
    (there s.fixed n (number_of call) p.named (port_at s.fixed (number_of call)) (handle_at s.fixed n (number_of call)) refl refl p.is)
    p.of_node p.may)
