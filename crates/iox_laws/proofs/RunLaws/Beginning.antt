-- What a call of a service begins with, where it is not misnamed.
use Rattle.std.specs.Prelude.{◌≡◌, ℕ, Bool, true, false, not, ◌||◌, if◌then◌else◌, ◌==◌, List, ◌++◌, Option, Some, None, refl}
use Rattle.std.specs.Option.{option_map_or}
use Rattle.std.proofs.Common.{sym, subst, ap, ◌∙◌, true≢false, eqb-true}
use Rattle.iox_model.specs.declared.kind.Kind.{Kind}
use Rattle.iox_model.specs.declared.kind.Kind.TheVariants.{RequestMutUninit, RequestMut, ResponseMutUninit, ResponseMut, PendingResponse}
use Rattle.iox_model.specs.declared.kind.Kind.TheVariants as kinds
use Rattle.iox_model.specs.declared.kind.Role.{Role}
use Rattle.iox_model.specs.declared.kind.Role.TheVariants.{Client, Server}
use Rattle.iox_model.specs.declared.call.Call.TheVariants.{Loan, LoanUninit, Write, Send, SendCopy, Receive, Read, Release, IsConnected, SetHint, HasHint, HasRequests, HasResponse}
use Rattle.iox_model.specs.declared.reply.Refusal.TheVariants.{ForeignNumber, UnknownNumber, WrongKind, WrongLength, WantOfMemory}
use Rattle.iox_model.specs.declared.reply.Reply.TheVariants.{Words}
use Rattle.iox_model.specs.Begins.{written, writes, reads, begins_at, start}
use Rattle.iox_model.specs.Commands.{Refusal, Call, number_of}
use Rattle.iox_model.specs.Doings.{refused, Tells, Fills, Drops, Doing, Ended, Returning}
use Rattle.iox_model.specs.Handles.{same_kind, is_request_loan, is_response_loan, is_received, subject, handle_at, port_or_handle, kind_of, node_of, way_of, Subject, ThePort, TheHandle}
use Rattle.iox_model.specs.Loans.{kind_of_loan, loan_of, next_request, request_loan_refusal, response_loan_refusal, memory_refusal, lending_ways, unless_refused, Choice, Order}
use Rattle.iox_model.specs.Maps.{refused_if}
use Rattle.iox_model.specs.Names.{suits, misnamed_by, misnamed, is_port}
use Rattle.iox_model.specs.Peers.{forgot_port, port_at}
use Rattle.iox_model.specs.Receives.{server_ways, pending_ways, receives}
use Rattle.iox_model.specs.Releases.{states_of, closing, returning, releases_handle}
use Rattle.iox_model.specs.Responses.{lends_response, lends_by, lends, copies, ordered, shape_for, lending}
use Rattle.iox_model.specs.Settings.{is_client, is_count}
use Rattle.iox_model.specs.States.{Port, Handle, Fixed, State}
use Rattle.iox_laws.proofs.WeaveLaws.MapLemmas.{either}
use Rattle.iox_laws.proofs.WeaveLaws.WholeLemmas.{some-is, or_else-none}
use Rattle.iox_laws.proofs.WeaveLedger.Truths.{passes, none-some, by_cases, or-left, or-right, or-rest, or-false}
use Rattle.iox_laws.proofs.WeaveLedger.Lists.{IsAmong, find-among}
use Rattle.iox_laws.proofs.WeaveLedger.Phases.{HasOwnPorts}
use Rattle.iox_laws.proofs.WeaveLedger.Senders.{is_loan, IsMade}
use Rattle.iox_laws.proofs.WeaveLedger.Views.{role_in}
use Rattle.iox_laws.proofs.RunLaws.Holding.{LoanFits, HoldsIn, sends_holds, loaning_holds, visiting_holds, closing_holds, checking_holds, hinting_holds, seeking_holds}

-- ---- handles

-- a handle is no port; a loan is its port's, of its role; a pending response is a client's
pub record KeptHandle (ps : List Port) (h : Handle) : Type 0 where
  pub value : is_port h.kind ≡ false
  pub loan : is_loan h.kind ≡ true → IsMade ps h
  pub pending : same_kind h.kind PendingResponse ≡ true → is_client (role_in ps h.port) ≡ true

abbrev pub AreKept : Fixed → Type 0
AreKept f = (n : ℕ) (h : Handle) → IsAmong h (f.handles n) → KeptHandle f.ports h

-- what is known of the port or handle that a call names
abbrev SubjectHolds : Fixed → Subject → Type 0
SubjectHolds f (ThePort p) = role_in f.ports p.number ≡ p.role
SubjectHolds f (TheHandle h) = KeptHandle f.ports h × IsAmong h (f.handles h.node)

role_found : (f : Fixed) (n : ℕ) (p : Port) → port_at f n ≡ Some p → role_in f.ports p.number ≡ p.role
role_found f n p e =
    let q : IsAmong p f.ports × ((p.number == n) ≡ true) = find-among (λ x. x.number == n) p f.ports e in
    ap (role_in f.ports) (eqb-true p.number n q.1) ∙ ap (λ o. option_map_or (λ (x : Port). x.role) o Client) e

subject_holds : (f : Fixed) (node n : ℕ) (p : Option Port) (h : Option Handle) (x : Subject) → AreKept f → port_at f n ≡ p → handle_at f node n ≡ h
    → port_or_handle p h ≡ Some x → node_of x ≡ node → SubjectHolds f x
subject_holds f node n (Some p) h x kept e g is of_node =
    either (λ o. o ≡ Some x → SubjectHolds f x) p.held (Some (ThePort p)) None
    (λ u q. subst (SubjectHolds f) (some-is (ThePort p) x q) (role_found f n p e)) (λ u q. none-some x q) is
subject_holds f node n None (Some h) x kept e g is of_node =
    let among : IsAmong h (f.handles node) = (find-among (λ k. k.number == n) h (f.handles node) g).0 in
    subst (SubjectHolds f) (some-is (TheHandle h) x is)
    (kept node h among, subst (λ k. IsAmong h (f.handles k)) (sym (ap node_of (some-is (TheHandle h) x is) ∙ of_node)) among)
subject_holds f node n None None x kept e g is of_node = none-some x is

-- ---- loans

made_kind : (role : Role) (uninit : Bool) → (is_loan (kind_of_loan role uninit) ≡ true) × (is_request_loan (kind_of_loan role uninit) ≡ is_client role)
made_kind Client true = (refl, refl)
made_kind Client false = (refl, refl)
made_kind Server true = (refl, refl)
made_kind Server false = (refl, refl)

loan_fits : (f : Fixed) (p : Port) (o : Order) (client lane request : ℕ) → role_in f.ports p.number ≡ p.role
    → LoanFits f (loan_of f p o client lane request) true
loan_fits f p o client lane request role = (
  (made_kind p.role o.uninit).0,
  record { sender = refl; lane = refl; role = (made_kind p.role o.uninit).1 ∙ ap is_client (sym role) },
  refl,
)

unless_holds : (f : Fixed) (r : Option Refusal) (d : Doing) → HoldsIn f d → HoldsIn f (unless_refused r d)
unless_holds f (Some r) d p = tt
unless_holds f None d p = p

lends_by_holds : (s : State) (c : Choice) (x : Subject) (o : Order) → HasOwnPorts s.fixed → SubjectHolds s.fixed x → HoldsIn s.fixed (lends_by s c x o)
lends_by_holds s c (ThePort p) o own q =
    let loan : Handle = loan_of s.fixed p o p.number c.lane (next_request s.fixed p.number) in
    unless_holds s.fixed (request_loan_refusal s.fixed p o.elements) (unless_refused (memory_refusal s c p.number) (lending s o.copies loan))
    (unless_holds s.fixed (memory_refusal s c p.number) (lending s o.copies loan)
    (loaning_holds s o.copies loan (lending_ways s.fixed loan) own (loan_fits s.fixed p o p.number c.lane (next_request s.fixed p.number) q)))
lends_by_holds s c (TheHandle h) o own q = by_port (port_at s.fixed h.port) refl
  where
    by_port : (p : Option Port) → port_at s.fixed h.port ≡ p → HoldsIn s.fixed (option_map_or (λ x. lends_response s c h x o) p (refused UnknownNumber))
    by_port None e = tt
    by_port (Some p) e =
        let loan : Handle = loan_of s.fixed p o h.client h.lane h.request in
        unless_holds s.fixed (response_loan_refusal s.fixed h p o.elements) (unless_refused (memory_refusal s c p.number) (lending s o.copies loan))
        (unless_holds s.fixed (memory_refusal s c p.number) (lending s o.copies loan)
        (loaning_holds s o.copies loan (lending_ways s.fixed loan) own (loan_fits s.fixed p o h.client h.lane h.request (role_found s.fixed h.port p e))))

lends_holds : (s : State) (c : Choice) (x : Subject) (o : Order) → HasOwnPorts s.fixed → SubjectHolds s.fixed x → HoldsIn s.fixed (lends s c x o)
lends_holds s c x o own q =
    either (HoldsIn s.fixed) (is_count (shape_for s.fixed x) o.elements) (lends_by s c x o) (refused WrongLength) (λ u. lends_by_holds s c x o own q) (λ u. tt)

copies_holds : (s : State) (c : Choice) (x : Subject) (k : Option ℕ) (words : List ℕ) → HasOwnPorts s.fixed → SubjectHolds s.fixed x
    → HoldsIn s.fixed (copies s c x k words)
copies_holds s c x None words own q = tt
copies_holds s c x (Some k) words own q =
    lends_holds s c x (record { elements = k; filled = k; payload = words; copies = true; uninit = false }) own q

-- ---- the other calls

writes_holds : (f : Fixed) (h : Handle) (k : Option ℕ) (words : List ℕ) → is_loan h.kind ≡ true → IsMade f.ports h → HoldsIn f (writes h k words)
writes_holds f h None words loan p = tt
writes_holds f h (Some k) words loan p =
    either (HoldsIn f) (k == h.message.elements) (Ended (Fills (written h words))) (refused WrongLength)
    (λ u. (
      either (λ (x : Kind). is_loan x ≡ true) (is_request_loan h.kind) RequestMut ResponseMut (λ v. refl) (λ v. refl),
      record {
        sender = p.sender;
        lane = p.lane;
        role = either (λ (x : Kind). is_request_loan x ≡ is_client (role_in f.ports h.port)) (is_request_loan h.kind) RequestMut ResponseMut
            (λ v. sym v ∙ p.role) (λ v. sym v ∙ p.role);
      },
    ))
    (λ u. tt)

reads_holds : (f : Fixed) (c : Choice) (h : Handle) → HoldsIn f (reads c h)
reads_holds f c h =
    either (HoldsIn f) c.memory (Ended (Tells (Words (h.message.user ++ h.message.payload)))) (refused WantOfMemory) (λ u. tt) (λ u. tt)

releases_holds : (f : Fixed) (h : Handle) → IsAmong h (f.handles h.node) → HoldsIn f (releases_handle f h)
releases_holds f h p =
    either (HoldsIn f) (is_received h.kind) (returning f h) (if same_kind h.kind PendingResponse then closing h (states_of f h) else Ended (Drops h))
    (λ u. either (HoldsIn f) (forgot_port f h.node (way_of h).sender) (Ended (Drops h)) (Returning h) (λ v. p) (λ v. p))
    (λ u. either (HoldsIn f) (same_kind h.kind PendingResponse) (closing h (states_of f h)) (Ended (Drops h))
    (λ v. closing_holds f h (states_of f h) p) (λ v. p))

-- a server itself receives, a client by its pending responses
server_receives : (f : Fixed) (n : ℕ) (p : Port) → suits f.on_wire (Receive n) (kind_of (ThePort p)) ≡ true → is_client p.role ≡ false
server_receives f n p e =
    by_cases (is_client p.role)
    (λ is. absurd (true≢false (sym e ∙ ap (λ (b : Bool). suits f.on_wire (Receive n) (if b then kinds.Client else kinds.Server)) is))) (λ no. no)

receives_holds : (f : Fixed) (n : ℕ) (x : Subject) → SubjectHolds f x → suits f.on_wire (Receive n) (kind_of x) ≡ true → HoldsIn f (receives f x)
receives_holds f n (ThePort p) q suited =
    visiting_holds f (record { port = p.number; role = Server; lane = 0; request = 0 }) (server_ways f p) false
    (sym (ap is_client q ∙ server_receives f n p suited), λ e. refl)
receives_holds f n (TheHandle h) q suited =
    visiting_holds f (record { port = h.port; role = Client; lane = h.lane; request = h.request }) (pending_ways f h) false (
      sym ((q.0).pending (or-rest (same_kind h.kind kinds.Server) (same_kind h.kind PendingResponse) suited
          (or-false (same_kind h.kind kinds.Client) (same_kind h.kind kinds.Server) (q.0).value).1)),
      λ e. absurd (true≢false e),
    )

written_loan : (n : ℕ) (request : Bool) (h : Handle) → (if request then is_request_loan h.kind else is_response_loan h.kind) ≡ true → is_loan h.kind ≡ true
written_loan n true h e = or-left (is_request_loan h.kind) (is_response_loan h.kind) e
written_loan n false h e = or-right (is_request_loan h.kind) (is_response_loan h.kind) e

sent_loan : (h : Handle) → (same_kind h.kind RequestMut || same_kind h.kind ResponseMut) ≡ true → is_loan h.kind ≡ true
sent_loan h e =
    by_cases (same_kind h.kind RequestMut)
    (λ request. or-left (is_request_loan h.kind) (is_response_loan h.kind) (or-left (same_kind h.kind RequestMut) (same_kind h.kind RequestMutUninit) request))
    (λ no. or-right (is_request_loan h.kind) (is_response_loan h.kind)
    (or-left (same_kind h.kind ResponseMut) (same_kind h.kind ResponseMutUninit) (or-rest (same_kind h.kind RequestMut) (same_kind h.kind ResponseMut) e no)))

begins_hold : (s : State) (c : Choice) (call : Call) (x : Subject) → HasOwnPorts s.fixed → SubjectHolds s.fixed x
    → suits s.fixed.on_wire call (kind_of x) ≡ true
    → HoldsIn s.fixed (begins_at s c call x)
begins_hold s c (Loan n k) x own q suited = lends_holds s c x (ordered k false) own q
begins_hold s c (LoanUninit n k) x own q suited = lends_holds s c x (ordered k true) own q
begins_hold s c (Write n p) (TheHandle h) own q suited =
    let loan : is_loan h.kind ≡ true = written_loan n (is_client p.role) h suited in
    writes_holds s.fixed h p.elements p.words loan ((q.0).loan loan)
begins_hold s c (Send n) (TheHandle h) own q suited =
    let loan : is_loan h.kind ≡ true = sent_loan h suited in
    sends_holds s.fixed h false own (loan, (q.0).loan loan, tt)
begins_hold s c (SendCopy n p) x own q suited = copies_holds s c x p.elements p.words own q
begins_hold s c (Receive n) x own q suited = receives_holds s.fixed n x q suited
begins_hold s c (Read n) (TheHandle h) own q suited = reads_holds s.fixed c h
begins_hold s c (Release n) (ThePort p) own q suited = tt
begins_hold s c (Release n) (TheHandle h) own q suited = releases_holds s.fixed h q.1
begins_hold s c (IsConnected n) (TheHandle h) own q suited = checking_holds s.fixed h false (states_of s.fixed h)
begins_hold s c (SetHint n) (TheHandle h) own q suited = hinting_holds s.fixed h (states_of s.fixed h)
begins_hold s c (HasHint n) (TheHandle h) own q suited = checking_holds s.fixed h true (states_of s.fixed h)
begins_hold s c (HasRequests n) (ThePort p) own q suited = seeking_holds s.fixed (server_ways s.fixed p)
begins_hold s c (HasResponse n) (TheHandle h) own q suited = seeking_holds s.fixed (pending_ways s.fixed h)
begins_hold s c call x own q suited = tt

at_holds : (s : State) (node : ℕ) (c : Choice) (call : Call) (x : Option Subject) → HasOwnPorts s.fixed → AreKept s.fixed
    → subject s.fixed node (number_of call) ≡ x → misnamed_by s.fixed node call x ≡ None
    → HoldsIn s.fixed (option_map_or (begins_at s c call) x (refused UnknownNumber))
at_holds s node c call None own kept is named = tt
at_holds s node c call (Some x) own kept is named =
    let q : (refused_if (not (node_of x == node)) ForeignNumber ≡ None) × (refused_if (not (suits s.fixed.on_wire call (kind_of x))) WrongKind ≡ None)
    = or_else-none _ _ named in
    begins_hold s c call x own
    (subject_holds s.fixed node (number_of call) (port_at s.fixed (number_of call)) (handle_at s.fixed node (number_of call)) x kept refl refl is
    (eqb-true (node_of x) node (passes (node_of x == node) ForeignNumber q.0)))
    (passes (suits s.fixed.on_wire call (kind_of x)) WrongKind q.1)

pub start_holds : (s : State) (node : ℕ) (c : Choice) (call : Call) → HasOwnPorts s.fixed → AreKept s.fixed → misnamed s.fixed node call ≡ None
    → HoldsIn s.fixed (start s node c call)
start_holds s node c call own kept named = at_holds s node c call (subject s.fixed node (number_of call)) own kept refl named
