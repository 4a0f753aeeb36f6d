-- What is known about a call as it begins.
use Rattle.std.specs.Prelude.{◌≡◌, ℕ, ◌*◌, Bool, true, false, not, if◌then◌else◌, ◌==◌, nat_le, List, ◌++◌, map, Option, Some, None, refl}
use Rattle.std.specs.Option.{option_map_or}
use Rattle.std.proofs.Common.{sym, ap, ◌∙◌, eqb-true, true≢false}
use Rattle.iox_model.specs.declared.call.Call.TheVariants.{Loan, LoanUninit, Write, Send, SendCopy, Receive, Read, Release, IsConnected, SetHint, HasHint, HasRequests, HasResponse}
use Rattle.iox_model.specs.declared.kind.Kind.TheVariants.{PendingResponse}
use Rattle.iox_model.specs.declared.reply.Refusal.TheVariants.{UnknownNumber, ForeignNumber, WrongKind, WrongLength, WantOfMemory, ExceedsMaxLoanSize, ExceedsMaxLoans, OutOfMemory, ExceedsMaxActiveRequests, UnableToDeliver, ExceedsMaxBorrows, UnknownNode, NodeIsDead}
use Rattle.iox_model.specs.declared.reply.Reply.TheVariants.{Words}
use Rattle.iox_model.specs.declared.way.Way.{Way}
use Rattle.iox_model.specs.Begins.{written, writes, begins_at}
use Rattle.iox_model.specs.Commands.{Refusal, Call, number_of}
use Rattle.iox_model.specs.Doings.{refused, Tells, Fills, Drops, Doing, Ended, Returning}
use Rattle.iox_model.specs.Ends.{after_refused_send}
use Rattle.iox_model.specs.Handles.{same_kind, is_received, is_request_loan, is_response_loan, count_of, kind_of, node_of, way_of, is_elsewhere, Subject, ThePort, TheHandle}
use Rattle.iox_model.specs.Loans.{fits_size, loans_of_request, loan_of, next_request, request_loan_refusal, response_loan_refusal, memory_refusal, lending_ways, unless_refused, Choice, Order}
use Rattle.iox_model.specs.Maps.{or_else, refused_if}
use Rattle.iox_model.specs.Messages.{request_way, response_way}
use Rattle.iox_model.specs.Names.{misnamed_by, suits}
use Rattle.iox_model.specs.Peers.{port_at, forgot_port}
use Rattle.iox_model.specs.Receives.{clients_to_visit, server_ways, pending_ways, receives}
use Rattle.iox_model.specs.Releases.{states_of, closing, returning, releases}
use Rattle.iox_model.specs.Responses.{lends_response, lends_by, lends, copies, ordered, shape_for, lending}
use Rattle.iox_model.specs.Settings.{is_count}
use Rattle.iox_model.specs.States.{Node, Port, Handle, Fixed, State}
use Rattle.iox_laws.proofs.WeaveLaws.MapLemmas.{either}
use Rattle.iox_laws.proofs.WeaveLedger.Lists.{IsAmong, find-among, map-among, way-among}
use Rattle.iox_laws.proofs.WeaveWorlds.WayLemmas.{from-lending}
use Rattle.iox_laws.specs.ServiceLaws.Refusing.{port_of}
use Rattle.iox_laws.proofs.ServiceLaws.Stories.{AreInto, Story, Told, sends_told, loaning_told, visiting_told, closing_told, checking_told, hinting_told, seeking_told}

-- ---- refusals that come at once

abbrev pub IsPlain : Refusal → Type 0
IsPlain OutOfMemory = ⊥
IsPlain ExceedsMaxActiveRequests = ⊥
IsPlain UnableToDeliver = ⊥
IsPlain ExceedsMaxBorrows = ⊥
IsPlain r = Unit {0}

abbrev pub IsPlainIf : Option Refusal → Type 0
IsPlainIf None = Unit {0}
IsPlainIf (Some r) = IsPlain r

pub plain_if : (b : Bool) (r : Refusal) → IsPlain r → IsPlainIf (refused_if b r)
plain_if true r p = p
plain_if false r p = tt

plain_or : (a b : Option Refusal) → IsPlainIf a → IsPlainIf b → IsPlainIf (or_else a b)
plain_or None b p q = q
plain_or (Some r) b p q = p

pub misnamed_plain : (f : Fixed) (node : ℕ) (call : Call) (o : Option Subject) → IsPlainIf (misnamed_by f node call o)
misnamed_plain f node call None = either IsPlain (is_elsewhere f (number_of call)) ForeignNumber UnknownNumber (λ e. tt) (λ e. tt)
misnamed_plain f node call (Some x) =
    plain_or (refused_if (not (node_of x == node)) ForeignNumber) (refused_if (not (suits f.on_wire call (kind_of x))) WrongKind)
    (plain_if (not (node_of x == node)) ForeignNumber tt) (plain_if (not (suits f.on_wire call (kind_of x))) WrongKind tt)

pub living_plain : (o : Option Node) → IsPlainIf (option_map_or (λ m. refused_if (not m.alive) NodeIsDead) o (Some UnknownNode))
living_plain None = tt
living_plain (Some m) = plain_if (not m.alive) NodeIsDead tt

-- ---- what is told at first

abbrev pub Plain : (port : ℕ) → Story port → State → Type 0
Plain port y s = (r : Refusal) → IsPlain r → y.leaves r s

abbrev pub Opens : (port : ℕ) → Story port → State → Call → Subject → Type 0
Opens port y s (Loan n k) x = (port_of x ≡ port) × y.got s × y.lends
Opens port y s (LoanUninit n k) x = (port_of x ≡ port) × y.got s × y.lends
Opens port y s (SendCopy n p) x = (port_of x ≡ port) × y.got s × y.lends × ((h : Handle) → h.port ≡ port → y.sent h true)
Opens port y s (Send n) (TheHandle h) = y.got s × y.sent h false × y.leaves ExceedsMaxActiveRequests (after_refused_send s h false)
Opens port y s (Write n p) (TheHandle h) = (words : List ℕ) → y.filled (written h words)
Opens port y s (Receive n) x = (port_of x ≡ port) × y.dropped s
Opens port y s call x = Unit {0}

unless_told : (port : ℕ) (y : Story port) (s : State) (q : Option Refusal) (d : Doing) → Plain port y s → IsPlainIf q → Told port y s d
    → Told port y s (unless_refused q d)
unless_told port y s None d plain p told = told
unless_told port y s (Some r) d plain p told = plain r p

-- ---- loans

lending_told : (port : ℕ) (y : Story port) (s : State) (copies : Bool) (h : Handle) → h.port ≡ port → y.lends → (copies ≡ true → y.sent h true) → y.got s
    → Told port y s (lending s copies h)
lending_told port y s copies h own lends sent got =
    loaning_told port y s s copies h (lending_ways s.fixed h) lends sent got (λ v there. from-lending s.fixed h v there ∙ own)

memory_plain : (s : State) (c : Choice) (n : ℕ) → IsPlainIf (memory_refusal s c n)
memory_plain s c n = plain_if _ WantOfMemory tt

two_plain : (a b : Bool) → IsPlainIf (or_else (refused_if {A = Refusal} a ExceedsMaxLoanSize) (refused_if b ExceedsMaxLoans))
two_plain true b = tt
two_plain false b = plain_if b ExceedsMaxLoans tt

three_plain : (a b c : Bool)
    → IsPlainIf (or_else (refused_if {A = Refusal} a ExceedsMaxLoanSize) (or_else (refused_if b ExceedsMaxLoans) (refused_if c ExceedsMaxLoans)))
three_plain true b c = tt
three_plain false true c = tt
three_plain false false c = plain_if c ExceedsMaxLoans tt

request_plain : (f : Fixed) (p : Port) (k : ℕ) → IsPlainIf (request_loan_refusal f p k)
request_plain f p k = two_plain (not (fits_size p f.limits.request k)) (nat_le f.limits.loaned_requests (count_of f p.number is_request_loan))

response_plain : (f : Fixed) (h : Handle) (p : Port) (k : ℕ) → IsPlainIf (response_loan_refusal f h p k)
response_plain f h p k =
    three_plain (not (fits_size p f.limits.response k)) (nat_le p.loaned_responses (loans_of_request f h))
    (nat_le (p.loaned_responses * f.limits.active_requests * f.limits.clients) (count_of f p.number is_response_loan))

-- a loan, unless it is refused at once
asked_told : (port : ℕ) (y : Story port) (s : State) (c : Choice) (copies : Bool) (n : ℕ) (q : Option Refusal) (h : Handle) → Plain port y s → IsPlainIf q
    → h.port ≡ port → y.lends → (copies ≡ true → y.sent h true) → y.got s
    → Told port y s (unless_refused q (unless_refused (memory_refusal s c n) (lending s copies h)))
asked_told port y s c copies n q h plain may own lent sent got =
    unless_told port y s q (unless_refused (memory_refusal s c n) (lending s copies h)) plain may
    (unless_told port y s (memory_refusal s c n) (lending s copies h) plain (memory_plain s c n) (lending_told port y s copies h own lent sent got))

lends_told : (port : ℕ) (y : Story port) (s : State) (c : Choice) (x : Subject) (o : Order) → Plain port y s → port_of x ≡ port → y.lends
    → (o.copies ≡ true → (h : Handle) → h.port ≡ port → y.sent h true) → y.got s → Told port y s (lends s c x o)
lends_told port y s c x o plain own lent sent got =
    either (Told port y s) (is_count (shape_for s.fixed x) o.elements) (lends_by s c x o) (refused WrongLength) (λ e. by_subject x own)
    (λ e. plain WrongLength tt)
  where
    by_port : (h : Handle) (p : Port) → p.number ≡ port → Told port y s (lends_response s c h p o)
    by_port h p is =
        asked_told port y s c o.copies p.number (response_loan_refusal s.fixed h p o.elements) (loan_of s.fixed p o h.client h.lane h.request) plain
        (response_plain s.fixed h p o.elements) is lent (λ e. sent e (loan_of s.fixed p o h.client h.lane h.request) is) got

    found : (h : Handle) → h.port ≡ port → (q : Option Port) → port_at s.fixed h.port ≡ q
        → Told port y s (option_map_or (λ p. lends_response s c h p o) q (refused UnknownNumber))
    found h is None at = plain UnknownNumber tt
    found h is (Some p) at = by_port h p (eqb-true p.number h.port (find-among (λ r. r.number == h.port) p s.fixed.ports at).1 ∙ is)

    by_subject : (x : Subject) → port_of x ≡ port → Told port y s (lends_by s c x o)
    by_subject (ThePort p) is =
        asked_told port y s c o.copies p.number (request_loan_refusal s.fixed p o.elements)
        (loan_of s.fixed p o p.number c.lane (next_request s.fixed p.number)) plain (request_plain s.fixed p o.elements) is lent
        (λ e. sent e (loan_of s.fixed p o p.number c.lane (next_request s.fixed p.number)) is) got
    by_subject (TheHandle h) is = found h is (port_at s.fixed h.port) refl

copies_told : (port : ℕ) (y : Story port) (s : State) (c : Choice) (x : Subject) (k : Option ℕ) (words : List ℕ) → Plain port y s → port_of x ≡ port → y.lends
    → ((h : Handle) → h.port ≡ port → y.sent h true) → y.got s → Told port y s (copies s c x k words)
copies_told port y s c x None words plain own lent sent got = plain WrongLength tt
copies_told port y s c x (Some k) words plain own lent sent got =
    lends_told port y s c x (record { elements = k; filled = k; payload = words; copies = true; uninit = false }) plain own lent (λ e. sent) got

-- ---- the others

writes_told : (port : ℕ) (y : Story port) (s : State) (h : Handle) (k : Option ℕ) (words : List ℕ) → Plain port y s → y.filled (written h words)
    → Told port y s (writes h k words)
writes_told port y s h None words plain fills = plain WrongLength tt
writes_told port y s h (Some k) words plain fills =
    either (Told port y s) (k == h.message.elements) (Ended (Fills (written h words))) (refused WrongLength) (λ e. fills) (λ e. plain WrongLength tt)

map_into : (port : ℕ) (f : ℕ → Way) (ns : List ℕ) → ((n : ℕ) → (f n).receiver ≡ port) → AreInto port (map f ns)
map_into port f ns each v there =
    let q : (n : ℕ) × IsAmong n ns × (v ≡ f n) = map-among f v ns (way-among v (map f ns) there) in
    ap (λ (w : Way). w.receiver) q.2 ∙ each q.0

receives_told : (port : ℕ) (y : Story port) (s : State) (x : Subject) → port_of x ≡ port → y.dropped s → Told port y s (receives s.fixed x)
receives_told port y s (ThePort p) own first =
    visiting_told port y s _ (server_ways s.fixed p) false first
    (map_into port (λ client. request_way client p.number) (clients_to_visit s.fixed p) (λ n. own))
receives_told port y s (TheHandle h) own first =
    visiting_told port y s _ (pending_ways s.fixed h) false first (map_into port (response_way h.port h.lane) _ (λ n. own))

releases_told : (port : ℕ) (y : Story port) (s : State) (x : Subject) → Told port y s (releases s.fixed x)
releases_told port y s (ThePort p) = tt
releases_told port y s (TheHandle h) =
    either (Told port y s) (is_received h.kind) (returning s.fixed h)
    (if same_kind h.kind PendingResponse then closing h (states_of s.fixed h) else Ended (Drops h))
    (λ u. either (Told port y s) (forgot_port s.fixed h.node (way_of h).sender) (Ended (Drops h)) (Returning h) (λ v. tt) (λ v. tt))
    (λ u. either (Told port y s) (same_kind h.kind PendingResponse) (closing h (states_of s.fixed h)) (Ended (Drops h))
    (λ v. closing_told port y s h (states_of s.fixed h)) (λ v. tt))

pub begins_told : (port : ℕ) (y : Story port) (s : State) (c : Choice) (call : Call) (x : Subject) → Plain port y s → Opens port y s call x
    → Told port y s (begins_at s c call x)
begins_told port y s c (Loan n k) x plain p = lends_told port y s c x (ordered k false) plain p.0 p.2 (λ e. absurd (true≢false (sym e))) p.1
begins_told port y s c (LoanUninit n k) x plain p = lends_told port y s c x (ordered k true) plain p.0 p.2 (λ e. absurd (true≢false (sym e))) p.1
begins_told port y s c (SendCopy n a) x plain p = copies_told port y s c x a.elements a.words plain p.0 p.2 p.3 p.1
begins_told port y s c (Send n) (TheHandle h) plain p = sends_told port y s s.fixed h false p.1 p.0 p.2
begins_told port y s c (Write n a) (TheHandle h) plain p = writes_told port y s h a.elements a.words plain (p a.words)
begins_told port y s c (Receive n) x plain p = receives_told port y s x p.0 p.1
begins_told port y s c (Read n) (TheHandle h) plain p =
    either (Told port y s) c.memory (Ended (Tells (Words (h.message.user ++ h.message.payload)))) (refused WantOfMemory) (λ e. tt) (λ e. plain WantOfMemory tt)
begins_told port y s c (Release n) x plain p = releases_told port y s x
begins_told port y s c (IsConnected n) (TheHandle h) plain p = checking_told port y s h false (states_of s.fixed h)
begins_told port y s c (SetHint n) (TheHandle h) plain p = hinting_told port y s h (states_of s.fixed h)
begins_told port y s c (HasHint n) (TheHandle h) plain p = checking_told port y s h true (states_of s.fixed h)
begins_told port y s c (HasRequests n) (ThePort q) plain p = seeking_told port y s (server_ways s.fixed q)
begins_told port y s c (HasResponse n) (TheHandle h) plain p = seeking_told port y s (pending_ways s.fixed h)
begins_told port y s c call x plain p = plain WrongKind tt
