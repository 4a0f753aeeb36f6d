-- A call that begins has something to do that can be done.
use Rattle.std.specs.Prelude.{◌≡◌, ℕ, Bool, true, false, not, ◌&&◌, if◌then◌else◌, ◌==◌, List, [], ◌∷◌, ◌++◌, Option, Some, None, find, refl}
use Rattle.std.specs.List.{list_any, list_all}
use Rattle.std.specs.Option.{option_map_or}
use Rattle.std.proofs.Common.{sym, subst, ap, ◌∙◌, true≢false, eqb-true}
use Rattle.iox_model.specs.declared.kind.Role.TheVariants.{Client, Server}
use Rattle.iox_model.specs.declared.kind.Kind.TheVariants.{PendingResponse}
use Rattle.iox_model.specs.declared.call.Call.TheVariants.{Loan, LoanUninit, Write, Send, SendCopy, Receive, Read, Release, IsConnected, SetHint, HasHint, HasRequests, HasResponse}
use Rattle.iox_model.specs.declared.call.WireCall.TheVariants.{Forget}
use Rattle.iox_model.specs.declared.call.WireCall.TheVariants as wire_calls
use Rattle.iox_model.specs.declared.reply.Refusal.TheVariants.{UnknownNumber, ForeignNumber, WrongKind, WrongLength, WantOfMemory}
use Rattle.iox_model.specs.declared.reply.Reply.TheVariants.{Words}
use Rattle.iox_model.specs.Receives.{clients_to_visit, server_ways, pending_ways, receives}
use Rattle.iox_model.specs.Releases.{states_of, closing, returning, releases_handle}
use Rattle.iox_model.specs.Doings.{refused, Receiver, Tells, Fills, Drops, Doing, Ended, Returning}
use Rattle.iox_model.specs.Weaves.{wire_start, miscalled}
use Rattle.iox_model.specs.States.{Port, Handle, Fixed, State}
use Rattle.iox_model.specs.Loans.{loan_of, next_request, request_loan_refusal, response_loan_refusal, memory_refusal, lending_ways, unless_refused, Choice, Order}
use Rattle.iox_model.specs.Handles.{same_kind, is_received, subject, handle_at, port_or_handle, kind_of, node_of, way_of, Subject, ThePort, TheHandle}
use Rattle.iox_model.specs.Maps.{refused_if}
use Rattle.iox_model.specs.Names.{suits, misnamed_by, misnamed, is_port}
use Rattle.iox_model.specs.Begins.{written, writes, reads, begins_at, start}
use Rattle.iox_model.specs.Commands.{Refusal, Call, WireCall, number_of}
use Rattle.iox_model.specs.Settings.{is_client, is_count}
use Rattle.iox_model.specs.Responses.{lends_response, lends_by, lends, copies, ordered, shape_for, lending}
use Rattle.iox_model.specs.Messages.{request_way, response_way}
use Rattle.iox_model.specs.Peers.{is_connected_port, ports_of_role, others, port_at, node_of_port, forgot_port}
use Rattle.iox_model.specs.declared.kind.Kind.TheVariants as kinds
use Rattle.iox_laws.proofs.WeaveLaws.MapLemmas.{either}
use Rattle.iox_laws.proofs.WeaveLaws.WholeLemmas.{split}
use Rattle.iox_laws.proofs.WeaveLaws.WholeLemmas.{some-is, or_else-none}
use Rattle.iox_laws.proofs.WeaveWorlds.WayLemmas.{all_map, from-lending}
use Rattle.iox_laws.proofs.WeaveWorlds.Sound.{IsTo, IsPortOf, is_port_of, IsOwn, has_own, SoundDoing, IsWithin}
use Rattle.iox_laws.proofs.WeaveWorlds.PortLemmas.{AreDistinctPorts}
use Rattle.iox_laws.proofs.WeaveWorlds.Continues.{sends_fits, loaning_fits, visiting_fits, seeking_fits, closing_fits, checking_fits, hinting_fits}
use Rattle.iox_laws.proofs.WeaveLedger.Lists.{among-any, find-among}
use Rattle.iox_laws.proofs.WeaveLedger.Truths.{none-some, passes}

-- ---- what is found

found_too : {A : Type 0} (also test : A → Bool) (xs : List A) (x : A) → list_all also xs ≡ true → find test xs ≡ Some x → also x ≡ true
found_too also test [] x all e = none-some x e
found_too also test (y ∷ ys) x all e =
    let q : (also y ≡ true) × (list_all also ys ≡ true) = split (also y) (list_all also ys) all in
    either (λ o. o ≡ Some x → also x ≡ true) (test y) (Some y) (find test ys) (λ is p. ap also (sym (some-is y x p)) ∙ q.0)
    (λ other p. found_too also test ys x q.1 p) e

found_any : {A : Type 0} (test : A → Bool) (xs : List A) (x : A) → find test xs ≡ Some x → list_any test xs ≡ true
found_any test xs x e = among-any test x xs (find-among test x xs e).0 (find-among test x xs e).1

-- ---- the subject of a call

-- a port of the node, or a handle of the node that belongs to a port of the node
abbrev pub IsSubject : Fixed → ℕ → Subject → Type 0
IsSubject f node (ThePort p) = (p.node ≡ node) × IsPortOf f node p.number
IsSubject f node (TheHandle h) = IsOwn f node h

-- a port that has its number is at it
port_number : (f : Fixed) (n : ℕ) (p : Port) → port_at f n ≡ Some p → p.number ≡ n
port_number f n p e = eqb-true p.number n (find-among (λ q. q.number == n) p f.ports e).1

port_node : (f : Fixed) (n : ℕ) (p : Port) → port_at f n ≡ Some p → node_of_port f n ≡ p.node
port_node f n p e = ap (λ o. option_map_or (λ (q : Port). q.node) o 0) e

port_subject : (f : Fixed) (node n : ℕ) (p : Port) → port_at f n ≡ Some p → p.node ≡ node → IsSubject f node (ThePort p)
port_subject f node n p e of_node = (
  of_node,
  (
    ap (λ k. list_any (λ q. q.number == k) f.ports) (port_number f n p e) ∙ found_any (λ q. q.number == n) f.ports p e,
    ap (node_of_port f) (port_number f n p e) ∙ port_node f n p e ∙ of_node,
  ),
)

pub port_of-is : (f : Fixed) (node port : ℕ) → is_port_of f node port ≡ true → IsPortOf f node port
port_of-is f node port e =
    let q : (is_connected_port f port ≡ true) × ((node_of_port f port == node) ≡ true)
    = split (is_connected_port f port) (node_of_port f port == node) e in
    (q.0, eqb-true (node_of_port f port) node q.1)

handle_own : (f : Fixed) (node n : ℕ) (h : Handle) → has_own f node ≡ true → handle_at f node n ≡ Some h → h.node ≡ node → IsOwn f node h
handle_own f node n h own e of_node =
    (of_node, port_of-is f node h.port (found_too (λ k. is_port_of f node k.port) (λ k. k.number == n) (f.handles node) h own e))

subject_is : (f : Fixed) (node n : ℕ) (p : Option Port) (h : Option Handle) (x : Subject) → has_own f node ≡ true
    → port_at f n ≡ p → handle_at f node n ≡ h → port_or_handle p h ≡ Some x → node_of x ≡ node → IsSubject f node x
subject_is f node n (Some p) h x own e g is of_node =
    either (λ o. o ≡ Some x → IsSubject f node x) p.held (Some (ThePort p)) None
    (λ u q. subst (IsSubject f node) (some-is (ThePort p) x q)
    (port_subject f node n p e (ap node_of (some-is (ThePort p) x q) ∙ of_node))) (λ u q. none-some x q) is
subject_is f node n None (Some h) x own e g is of_node =
    subst (IsSubject f node) (some-is (TheHandle h) x is) (handle_own f node n h own g (ap node_of (some-is (TheHandle h) x is) ∙ of_node))
subject_is f node n None None x own e g is of_node = none-some x is

-- ---- loans

loan_own : (f : Fixed) (node : ℕ) (p : Port) (o : Order) (client lane request : ℕ) → p.node ≡ node → IsPortOf f node p.number
    → IsOwn f node (loan_of f p o client lane request)
loan_own f node p o client lane request of_node own = (of_node, own)

unless_fits : (s : State) (node : ℕ) (r : Option Refusal) (d : Doing) → SoundDoing s node d → SoundDoing s node (unless_refused r d)
unless_fits s node (Some r) d p = tt
unless_fits s node None d p = p

lending_fits : (s : State) (node : ℕ) (copies : Bool) (h : Handle) → AreDistinctPorts s.fixed → IsOwn s.fixed node h → IsWithin s node None
    → SoundDoing s node (lending s copies h)
lending_fits s node copies h distinct own within =
    loaning_fits s node copies h (lending_ways s.fixed h) distinct own within (from-lending s.fixed h)

response_fits : (s : State) (node : ℕ) (c : Choice) (h : Handle) (o : Order) (p : Option Port) → AreDistinctPorts s.fixed → IsOwn s.fixed node h
    → IsWithin s node None → port_at s.fixed h.port ≡ p → SoundDoing s node (option_map_or (λ q. lends_response s c h q o) p (refused UnknownNumber))
response_fits s node c h o None distinct own within e = tt
response_fits s node c h o (Some p) distinct own within e =
    let loan : Handle = loan_of s.fixed p o h.client h.lane h.request in
    unless_fits s node (response_loan_refusal s.fixed h p o.elements) (unless_refused (memory_refusal s c p.number) (lending s o.copies loan))
    (unless_fits s node (memory_refusal s c p.number) (lending s o.copies loan)
    (lending_fits s node o.copies loan distinct (
      sym (port_node s.fixed h.port p e) ∙ own.1.1,
      subst (IsPortOf s.fixed node) (sym (port_number s.fixed h.port p e)) own.1,
    ) within))

lends_by_fits : (s : State) (node : ℕ) (c : Choice) (x : Subject) (o : Order) → AreDistinctPorts s.fixed → IsSubject s.fixed node x
    → IsWithin s node None → SoundDoing s node (lends_by s c x o)
lends_by_fits s node c (ThePort p) o distinct own within =
    let loan : Handle = loan_of s.fixed p o p.number c.lane (next_request s.fixed p.number) in
    unless_fits s node (request_loan_refusal s.fixed p o.elements) (unless_refused (memory_refusal s c p.number) (lending s o.copies loan))
    (unless_fits s node (memory_refusal s c p.number) (lending s o.copies loan)
    (lending_fits s node o.copies loan distinct (own.0, own.1) within))
lends_by_fits s node c (TheHandle h) o distinct own within = response_fits s node c h o (port_at s.fixed h.port) distinct own within refl

lends_fits : (s : State) (node : ℕ) (c : Choice) (x : Subject) (o : Order) → AreDistinctPorts s.fixed → IsSubject s.fixed node x
    → IsWithin s node None → SoundDoing s node (lends s c x o)
lends_fits s node c x o distinct own within =
    either (SoundDoing s node) (is_count (shape_for s.fixed x) o.elements) (lends_by s c x o) (refused WrongLength)
    (λ u. lends_by_fits s node c x o distinct own within) (λ u. tt)

copies_fits : (s : State) (node : ℕ) (c : Choice) (x : Subject) (k : Option ℕ) (words : List ℕ) → AreDistinctPorts s.fixed
    → IsSubject s.fixed node x → IsWithin s node None → SoundDoing s node (copies s c x k words)
copies_fits s node c x None words distinct own within = tt
copies_fits s node c x (Some k) words distinct own within =
    lends_fits s node c x (record { elements = k; filled = k; payload = words; copies = true; uninit = false }) distinct own within

-- ---- the other calls

writes_fits : (s : State) (node : ℕ) (h : Handle) (k : Option ℕ) (words : List ℕ) → IsOwn s.fixed node h → SoundDoing s node (writes h k words)
writes_fits s node h None words own = tt
writes_fits s node h (Some k) words own =
    either (SoundDoing s node) (k == h.message.elements) (Ended (Fills (written h words))) (refused WrongLength) (λ u. (own.0, own.1)) (λ u. tt)

reads_fits : (s : State) (node : ℕ) (c : Choice) (h : Handle) → SoundDoing s node (reads c h)
reads_fits s node c h =
    either (SoundDoing s node) c.memory (Ended (Tells (Words (h.message.user ++ h.message.payload)))) (refused WantOfMemory) (λ u. tt) (λ u. tt)

receives_fits : (s : State) (node : ℕ) (x : Subject) → IsSubject s.fixed node x → SoundDoing s node (receives s.fixed x)
receives_fits s node (ThePort p) own =
    let x : Receiver = record { port = p.number; role = Server; lane = 0; request = 0 } in
    visiting_fits s node x (server_ways s.fixed p) false own.1
    (all_map (IsTo x) (λ client. request_way client p.number) (λ n. (refl, refl)) (clients_to_visit s.fixed p))
receives_fits s node (TheHandle h) own =
    let x : Receiver = record { port = h.port; role = Client; lane = h.lane; request = h.request } in
    visiting_fits s node x (pending_ways s.fixed h) false own.1
    (all_map (IsTo x) (response_way h.port h.lane) (λ n. (refl, refl)) (s.fixed.expired h.port ++ ports_of_role s.fixed Server))

releases_fits : (s : State) (node : ℕ) (h : Handle) → SoundDoing s node (releases_handle s.fixed h)
releases_fits s node h =
    either (SoundDoing s node) (is_received h.kind) (returning s.fixed h)
    (if same_kind h.kind PendingResponse then closing h (states_of s.fixed h) else Ended (Drops h))
    (λ u. either (SoundDoing s node) (forgot_port s.fixed h.node (way_of h).sender) (Ended (Drops h)) (Returning h) (λ v. tt) (λ v. tt))
    (λ u. either (SoundDoing s node) (same_kind h.kind PendingResponse) (closing h (states_of s.fixed h)) (Ended (Drops h))
    (λ v. closing_fits s node h (states_of s.fixed h)) (λ v. tt))

-- no wire releases a port
ports_stay : (f : Fixed) (n : ℕ) (p : Port) → suits f.on_wire (Release n) (kind_of (ThePort p)) ≡ true → f.on_wire ≡ false
ports_stay f n p e =
    either (λ k. not (f.on_wire && is_port k) ≡ true → f.on_wire ≡ false) (is_client p.role) kinds.Client kinds.Server
    (λ u q. no_wire f.on_wire q) (λ u q. no_wire f.on_wire q) e
  where
    no_wire : (b : Bool) → not (b && true) ≡ true → b ≡ false
    no_wire true q = absurd (true≢false (sym q))
    no_wire false q = refl

begins_fit : (s : State) (node : ℕ) (c : Choice) (call : Call) (x : Subject) → AreDistinctPorts s.fixed → IsSubject s.fixed node x
    → IsWithin s node None → suits s.fixed.on_wire call (kind_of x) ≡ true → SoundDoing s node (begins_at s c call x)
begins_fit s node c (Loan n k) x distinct own within suited = lends_fits s node c x (ordered k false) distinct own within
begins_fit s node c (LoanUninit n k) x distinct own within suited = lends_fits s node c x (ordered k true) distinct own within
begins_fit s node c (Write n p) (TheHandle h) distinct own within suited = writes_fits s node h p.elements p.words own
begins_fit s node c (Send n) (TheHandle h) distinct own within suited = sends_fits s node h false distinct own within
begins_fit s node c (SendCopy n p) x distinct own within suited = copies_fits s node c x p.elements p.words distinct own within
begins_fit s node c (Receive n) x distinct own within suited = receives_fits s node x own
begins_fit s node c (Read n) (TheHandle h) distinct own within suited = reads_fits s node c h
begins_fit s node c (Release n) (ThePort p) distinct own within suited = (ports_stay s.fixed n p suited, own.1)
begins_fit s node c (Release n) (TheHandle h) distinct own within suited = releases_fits s node h
begins_fit s node c (IsConnected n) (TheHandle h) distinct own within suited = checking_fits s node h false (states_of s.fixed h)
begins_fit s node c (SetHint n) (TheHandle h) distinct own within suited = hinting_fits s node h (states_of s.fixed h)
begins_fit s node c (HasHint n) (TheHandle h) distinct own within suited = checking_fits s node h true (states_of s.fixed h)
begins_fit s node c (HasRequests n) (ThePort p) distinct own within suited = seeking_fits s node (server_ways s.fixed p)
begins_fit s node c (HasResponse n) (TheHandle h) distinct own within suited = seeking_fits s node (pending_ways s.fixed h)
begins_fit s node c call x distinct own within suited = tt

-- ---- a call that is not misnamed

start_at_fits : (s : State) (node : ℕ) (c : Choice) (call : Call) (x : Option Subject) → AreDistinctPorts s.fixed
    → has_own s.fixed node ≡ true → IsWithin s node None → subject s.fixed node (number_of call) ≡ x → misnamed_by s.fixed node call x ≡ None
    → SoundDoing s node (option_map_or (begins_at s c call) x (refused UnknownNumber))
start_at_fits s node c call None distinct own within is named = tt
start_at_fits s node c call (Some x) distinct own within is named =
    let q : (refused_if (not (node_of x == node)) ForeignNumber ≡ None) × (refused_if (not (suits s.fixed.on_wire call (kind_of x))) WrongKind ≡ None)
    = or_else-none _ _ named in
    begins_fit s node c call x distinct
    (subject_is s.fixed node (number_of call) (port_at s.fixed (number_of call)) (handle_at s.fixed node (number_of call)) x own refl refl is
    (eqb-true (node_of x) node (passes (node_of x == node) ForeignNumber q.0))) within
    (passes (suits s.fixed.on_wire call (kind_of x)) WrongKind q.1)

-- A call that is not misnamed can be done, on a wire or not.
pub call_fits : (s : State) (node : ℕ) (c : Choice) (call : Call) → AreDistinctPorts s.fixed → has_own s.fixed node ≡ true
    → IsWithin s node None → misnamed s.fixed node call ≡ None → SoundDoing s node (start s node c call)
call_fits s node c call distinct own within named =
    start_at_fits s node c call (subject s.fixed node (number_of call)) distinct own within refl named

-- What begins unrefused can be done.
pub start_fits : (s : State) (node : ℕ) (c : Choice) (call : WireCall) → AreDistinctPorts s.fixed
    → has_own s.fixed node ≡ true → IsWithin s node None → miscalled s node call ≡ None → SoundDoing s node (wire_start s node c call)
start_fits s node c (wire_calls.Port call) distinct own within named = call_fits s node c call distinct own within named
start_fits s node c (Forget dead) distinct own within named = tt
