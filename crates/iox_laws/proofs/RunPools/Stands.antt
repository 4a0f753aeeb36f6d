-- The loan of a call of a service: its call made it, and then it has the next serial of its port, or
-- it is a handle of the node. And nobody forgets.
use Rattle.std.specs.Prelude.{◌≡◌, ℕ, Bool, true, false, if◌then◌else◌, ◌==◌, List, [], ◌∷◌, ◌++◌, Option, Some, None, refl}
use Rattle.std.specs.Option.{option_map_or}
use Rattle.std.specs.List.{list_any}
use Rattle.std.proofs.Common.{sym, subst, ap, ◌∙◌, true≢false}
use Rattle.iox_model.specs.declared.kind.Role.TheVariants.{Client, Server}
use Rattle.iox_model.specs.declared.kind.Kind.TheVariants.{PendingResponse, ActiveRequest}
use Rattle.iox_model.specs.declared.way.Way.{Way}
use Rattle.iox_model.specs.declared.way.RequestState.{RequestState}
use Rattle.iox_model.specs.declared.call.Call.TheVariants.{Loan, LoanUninit, Write, Send, SendCopy, Receive, Read, Release, IsConnected, SetHint, HasHint}
use Rattle.iox_model.specs.declared.call.Call.TheVariants.{HasRequests, HasResponse}
use Rattle.iox_model.specs.declared.reply.Refusal.TheVariants.{UnknownNumber, WrongLength, OutOfMemory, WantOfMemory, ExceedsMaxActiveRequests}
use Rattle.iox_model.specs.declared.reply.Refusal.TheVariants.{UnableToDeliver}
use Rattle.iox_model.specs.declared.reply.Reply.TheVariants.{Answer, Words}
use Rattle.iox_model.specs.Begins.{written, writes, reads, begins_at, start}
use Rattle.iox_model.specs.Commands.{Refusal, Call, number_of}
use Rattle.iox_model.specs.Doings.{refused, Receiver, Sending, Outcome, Tells, Loans, Fills, Sends, FailsToSend, Receives, Drops, Forgets, Doing}
use Rattle.iox_model.specs.Doings.{Ended, Loaning, Asking, Emptying, Looking, Opening, Delivering, Evicted, Visiting, Again, Judging, Stale, Closing}
use Rattle.iox_model.specs.Doings.{Returning, Leaving, Checking, Hinting, Seeking}
use Rattle.iox_model.specs.Handles.{is_request_loan, is_received, same_kind, handle_at, subject, kind_of, Subject, ThePort}
use Rattle.iox_model.specs.Handles.{TheHandle, way_of}
use Rattle.iox_model.specs.Loans.{Choice, Order, loan_of, next_request, request_loan_refusal, response_loan_refusal, memory_refusal, lending_ways}
use Rattle.iox_model.specs.Loans.{unless_refused}
use Rattle.iox_model.specs.Maps.{has_number, without_way}
use Rattle.iox_model.specs.Messages.{Message, names}
use Rattle.iox_model.specs.Moments.{Moment, Deliver, Evict, Take, GiveBack, GetBack, SeesEmpty, SeesWaiting, SeesFull, SeesRoom, SeesNoneBack, Open, Close}
use Rattle.iox_model.specs.Moments.{Hint, Look}
use Rattle.iox_model.specs.Names.{suits, misnamed}
use Rattle.iox_model.specs.Outstandings.{kept, is_dry}
use Rattle.iox_model.specs.Peers.{port_at, forgot_port, others}
use Rattle.iox_model.specs.Receives.{seeking, server_ways, pending_ways, visiting, took, took_response, took_request, stale}
use Rattle.iox_model.specs.Releases.{states_of, closing, returning, releases_handle}
use Rattle.iox_model.specs.Requests.{targets, to_open, sending_of, opening, looking, emptying, is_active_spent, sends_request, is_over}
use Rattle.iox_model.specs.Responses.{sends_response, asked, sends, loaning, lending, lends_response, lends_by, shape_for, lends}
use Rattle.iox_model.specs.Responses.{copies, ordered}
use Rattle.iox_model.specs.Looks.{checking, is_shown, hinting}
use Rattle.iox_model.specs.Settings.{is_client, is_count}
use Rattle.iox_model.specs.States.{Port, Handle, Fixed, State}
use Rattle.iox_model.specs.Transitions.{next, ends}
use Rattle.iox_laws.proofs.WeaveLaws.MapLemmas.{either}
use Rattle.iox_laws.proofs.WeaveLaws.WholeLemmas.{some-is}
use Rattle.iox_laws.proofs.WeaveLedger.Truths.{none-some}
use Rattle.iox_laws.proofs.WeaveLedger.Lists.{IsAmong}
use Rattle.iox_laws.proofs.WeaveLedger.Senders.{is_loan}
use Rattle.iox_laws.proofs.WeaveLedger.Starts.{IsNamedBy, named-by, IsThere, there, write-loan}
use Rattle.iox_laws.proofs.WeavePools.Under.{UnderIs, LoanIs, none-so, loan-serial}

-- ---- what stands

abbrev pub StandsBy : Fixed → ℕ → Handle → Bool → Type 0
StandsBy f n h true = h.message.serial ≡ f.loans h.port
StandsBy f n h false = IsAmong h (f.handles n)

-- a handle that is filled takes the place of the loan that it was
pub record Refills (f : Fixed) (n : ℕ) (h : Handle) : Type 0 where
  pub old : Handle
  pub among : IsAmong old (f.handles n)
  pub number : h.number ≡ old.number
  pub port : h.port ≡ old.port
  pub serial : h.message.serial ≡ old.message.serial
  pub was_loan : is_loan old.kind ≡ true

abbrev pub StandsEnd : Fixed → ℕ → Outcome → Type 0
StandsEnd f n (Loans h) = StandsBy f n h true
StandsEnd f n (Fills h) = Refills f n h
StandsEnd f n (Sends h copied count) = StandsBy f n h copied
StandsEnd f n (FailsToSend h copied refusal) = StandsBy f n h copied
StandsEnd f n (Drops h) = IsAmong h (f.handles n)
StandsEnd f n (Forgets dead) = ⊥
StandsEnd f n o = Unit {0}

-- `L` is what is known of a loan that gets back
abbrev pub Stands : (Handle → List Way → Type 0) → Fixed → ℕ → Doing → Type 0
Stands L f n (Ended o) = StandsEnd f n o
Stands L f n (Loaning copies h left) = StandsBy f n h true × L h left
Stands L f n (Asking x) = StandsBy f n x.loan x.copied
Stands L f n (Emptying x left) = StandsBy f n x.loan x.copied
Stands L f n (Looking x left full) = StandsBy f n x.loan x.copied
Stands L f n (Opening x left full) = StandsBy f n x.loan x.copied
Stands L f n (Delivering x last left count) = StandsBy f n x.loan x.copied
Stands L f n (Evicted x w left count) = StandsBy f n x.loan x.copied
Stands L f n (Closing h left) = IsAmong h (f.handles n)
Stands L f n (Returning h) = IsAmong h (f.handles n)
Stands L f n (Leaving h) = IsAmong h (f.handles n)
Stands L f n d = Unit {0}

-- ---- sends and loans

opening_stands : (L : Handle → List Way → Type 0) (f : Fixed) (n : ℕ) (x : Sending) (left full : List Way) → StandsBy f n x.loan x.copied
    → Stands L f n (opening x left full)
opening_stands L f n x [] full p = p
opening_stands L f n x (w ∷ left) full p = p

looking_stands : (L : Handle → List Way → Type 0) (f : Fixed) (n : ℕ) (x : Sending) (left full : List Way) → StandsBy f n x.loan x.copied
    → Stands L f n (looking x left full)
looking_stands L f n x [] full p =
    either (Stands L f n) (list_any x.fails full) (Ended (FailsToSend x.loan x.copied UnableToDeliver)) (opening x (to_open x) full)
    (λ u. p) (λ u. opening_stands L f n x (to_open x) full p)
looking_stands L f n x (w ∷ left) full p = p

emptying_stands : (L : Handle → List Way → Type 0) (f : Fixed) (n : ℕ) (x : Sending) (left : List Way) → StandsBy f n x.loan x.copied
    → Stands L f n (emptying x left)
emptying_stands L f n x [] p =
    either (Stands L f n) x.overflow (opening x (to_open x) []) (looking x (targets x) [])
    (λ u. opening_stands L f n x (to_open x) [] p) (λ u. looking_stands L f n x (targets x) [] p)
emptying_stands L f n x (w ∷ left) p = p

asked_stands : (L : Handle → List Way → Type 0) (f : Fixed) (n : ℕ) (x : Sending) (shown : RequestState) → StandsBy f n x.loan x.copied
    → Stands L f n (asked x shown)
asked_stands L f n x shown p =
    either (Stands L f n) (names shown x.loan.request) (emptying x (targets x)) (Ended (Sends x.loan x.copied 0))
    (λ u. emptying_stands L f n x (targets x) p) (λ u. p)

sends_stands : (L : Handle → List Way → Type 0) (f : Fixed) (n : ℕ) (h : Handle) (copied : Bool) → StandsBy f n h copied → Stands L f n (sends f h copied)
sends_stands L f n h copied p =
    either (Stands L f n) (is_request_loan h.kind) (sends_request f h copied (others f h.node Server)) (sends_response f h copied)
    (λ u. either (Stands L f n) (is_active_spent f h) (Ended (FailsToSend h copied ExceedsMaxActiveRequests))
    (emptying (sending_of f h copied (others f h.node Server)) _)
    (λ y. p) (λ y. emptying_stands L f n (sending_of f h copied (others f h.node Server)) _ p))
    (λ u. either (Stands L f n) (has_number h.client (others f h.node Client)) (Asking (sending_of f h copied (h.client ∷ []))) (Ended (Sends h copied 0))
    (λ y. p) (λ y. p))

loaning_stands : (L : Handle → List Way → Type 0) (s : State) (n : ℕ) (copies : Bool) (h : Handle) (left : List Way) → StandsBy s.fixed n h true → L h left
    → Stands L s.fixed n (loaning s copies h left)
loaning_stands L s n copies h [] p q =
    either (Stands L s.fixed n) (is_dry s.fixed h.port (kept s h.port [])) (refused OutOfMemory) (if copies then sends s.fixed h true else Ended (Loans h))
    (λ u. tt)
    (λ u. either (Stands L s.fixed n) copies (sends s.fixed h true) (Ended (Loans h)) (λ y. sends_stands L s.fixed n h true p) (λ y. p))
loaning_stands L s n copies h (w ∷ left) p q = (p, q)

-- ---- others

visiting_stands : (L : Handle → List Way → Type 0) (f : Fixed) (n : ℕ) (x : Receiver) (left : List Way) (seen : Bool) → Stands L f n (visiting x left seen)
visiting_stands L f n x [] seen = tt
visiting_stands L f n x (w ∷ left) seen = tt

took_stands : (L : Handle → List Way → Type 0) (f : Fixed) (n : ℕ) (x : Receiver) (w : Way) (m : Message) (left : List Way) (seen : Bool)
    → Stands L f n (took f n x w m left seen)
took_stands L f n x w m left seen =
    either (Stands L f n) (is_client x.role) (took_response f n x w m left seen) (took_request f x w m left seen)
    (λ u. either (Stands L f n) (m.request == x.request) (Ended (Receives x w m)) (stale f n x w m left seen) (λ y. tt)
    (λ y. either (Stands L f n) (forgot_port f n w.sender) (Again x w left seen) (Stale x w m left seen) (λ z. tt) (λ z. tt)))
    (λ u. either (Stands L f n) f.limits.fire_and_forget (Ended (Receives x w m)) (Judging x w m left seen) (λ y. tt) (λ y. tt))

closing_stands : (L : Handle → List Way → Type 0) (f : Fixed) (n : ℕ) (h : Handle) (left : List Way) → IsAmong h (f.handles n) → Stands L f n (closing h left)
closing_stands L f n h [] is = is
closing_stands L f n h (w ∷ left) is = is

checking_stands : (L : Handle → List Way → Type 0) (f : Fixed) (n : ℕ) (h : Handle) (hinted : Bool) (left : List Way) → Stands L f n (checking h hinted left)
checking_stands L f n h hinted [] = tt
checking_stands L f n h hinted (w ∷ left) = tt

hinting_stands : (L : Handle → List Way → Type 0) (f : Fixed) (n : ℕ) (h : Handle) (left : List Way) → Stands L f n (hinting h left)
hinting_stands L f n h [] = tt
hinting_stands L f n h (w ∷ left) = tt

seeking_stands : (L : Handle → List Way → Type 0) (f : Fixed) (n : ℕ) (left : List Way) → Stands L f n (seeking left)
seeking_stands L f n [] = tt
seeking_stands L f n (w ∷ left) = tt

-- ---- moments

-- what is known of a loan that gets back, before a moment and after it
abbrev pub Onward : (L M : Handle → List Way → Type 0) → Doing → Moment → Type 0
Onward L M (Loaning copies h left) (GetBack w k) = L h left → M h left
Onward L M (Loaning copies h left) (SeesNoneBack w) = L h left → M h (without_way w left)
Onward L M d m = Unit {0}

pub next_stands : (L M : Handle → List Way → Type 0) (s : State) (n : ℕ) (d : Doing) (m : Moment) → Onward L M d m → (next s n d m).condition
    → Stands L s.fixed n d
    → Stands M s.fixed n (next s n d m).after
next_stands L M s n (Loaning copies h left) (GetBack w k) on c p = (p.0, on p.1)
next_stands L M s n (Loaning copies h left) (SeesNoneBack w) on c p = loaning_stands M s n copies h (without_way w left) p.0 (on p.1)
next_stands L M s n (Asking x) (Look w shown) on c p = asked_stands M s.fixed n x shown p
next_stands L M s n (Emptying x left) (GetBack w k) on c p = p
next_stands L M s n (Emptying x left) (SeesNoneBack w) on c p = emptying_stands M s.fixed n x (without_way w left) p
next_stands L M s n (Looking x left full) (SeesFull w) on c p = looking_stands M s.fixed n x (without_way w left) (w ∷ full) p
next_stands L M s n (Looking x left full) (SeesRoom w) on c p = looking_stands M s.fixed n x (without_way w left) full p
next_stands L M s n (Opening x left full) (Open w id) on c p = opening_stands M s.fixed n x (without_way w left) full p
next_stands L M s n (Delivering x last left count) (Deliver w m) on c p = p
next_stands L M s n (Delivering x last left count) (Evict w) on c p = p
next_stands L M s n (Evicted x v left count) (GetBack w k) on c p = p
next_stands L M s n (Visiting x left seen) (SeesEmpty w) on c p = visiting_stands M s.fixed n x (without_way w left) seen
next_stands L M s n (Visiting x left seen) (SeesWaiting w) on c p = visiting_stands M s.fixed n x (without_way w left) true
next_stands L M s n (Visiting x left seen) (Take w m) on c p = took_stands M s.fixed n x w m left seen
next_stands L M s n (Again x v left seen) (SeesEmpty w) on c p = visiting_stands M s.fixed n x (without_way v left) seen
next_stands L M s n (Again x v left seen) (Take w m) on c p = took_stands M s.fixed n x v m left seen
next_stands L M s n (Judging x v m left seen) (Look w shown) on c p =
    either (Stands M s.fixed n) (names shown m.request) (Ended (Receives x v m)) (Stale x v m left seen) (λ u. tt) (λ u. tt)
next_stands L M s n (Stale x v m left seen) (GiveBack w k) on c p = tt
next_stands L M s n (Closing h left) (Close w id) on c p = closing_stands M s.fixed n h (without_way w left) p
next_stands L M s n (Returning h) (GiveBack w k) on c p =
    either (Stands M s.fixed n) (same_kind h.kind ActiveRequest) (Leaving h) (Ended (Drops h)) (λ u. p) (λ u. p)
next_stands L M s n (Leaving h) (Look w shown) on c p = p
next_stands L M s n (Leaving h) (Close w id) on c p = p
next_stands L M s n (Checking h hinted left) (Look w shown) on c p =
    either (Stands M s.fixed n) (is_shown h hinted shown) (Ended (Tells (Answer true))) (checking h hinted (without_way w left))
    (λ u. tt) (λ u. checking_stands M s.fixed n h hinted (without_way w left))
next_stands L M s n (Hinting h left) (Hint w id) on c p = hinting_stands M s.fixed n h (without_way w left)
next_stands L M s n (Hinting h left) (Look w shown) on c p = hinting_stands M s.fixed n h (without_way w left)
next_stands L M s n (Seeking left) (SeesEmpty w) on c p = seeking_stands M s.fixed n (without_way w left)
next_stands L M s n (Seeking left) (SeesWaiting w) on c p = tt
next_stands L M s n d m on c p = absurd c

-- what a call ends with
pub ends_stand : (L : Handle → List Way → Type 0) (s : State) (n : ℕ) (d : Doing) (o : Outcome) → ends s d ≡ Some o → Stands L s.fixed n d
    → StandsEnd s.fixed n o
ends_stand L s n (Ended a) o e p = subst (StandsEnd s.fixed n) (some-is a o e) p
ends_stand L s n (Delivering x last [] count) o e p = by_case (is_over s last) e
  where
    by_case : (b : Bool) → (if b then None else Some (Sends x.loan x.copied count)) ≡ Some o → StandsEnd s.fixed n o
    by_case true e = absurd (none-some o e)
    by_case false e = subst (StandsEnd s.fixed n) (some-is (Sends x.loan x.copied count) o e) p
ends_stand L s n d o e p = absurd (none-some o e)

-- ---- begins

unless_stands : (L : Handle → List Way → Type 0) (f : Fixed) (n : ℕ) (r : Option Refusal) (d : Doing) → Stands L f n d → Stands L f n (unless_refused r d)
unless_stands L f n (Some r) d p = tt
unless_stands L f n None d p = p

-- what is known of each loan that begins to get back
abbrev pub Begins : (Handle → List Way → Type 0) → State → Type 0
Begins L s = (h : Handle) → L h (lending_ways s.fixed h)

lends_by_stands : (L : Handle → List Way → Type 0) (s : State) (n : ℕ) (c : Choice) (x : Subject) (o : Order) → Begins L s
    → Stands L s.fixed n (lends_by s c x o)
lends_by_stands L s n c (ThePort p) o begin =
    let h : Handle = loan_of s.fixed p o p.number c.lane (next_request s.fixed p.number) in
    unless_stands L s.fixed n (request_loan_refusal s.fixed p o.elements) (unless_refused (memory_refusal s c p.number) (lending s o.copies h))
    (unless_stands L s.fixed n (memory_refusal s c p.number) (lending s o.copies h) (loaning_stands L s n o.copies h (lending_ways s.fixed h) refl (begin h)))
lends_by_stands L s n c (TheHandle h) o begin = by_port (port_at s.fixed h.port)
  where
    by_port : (q : Option Port) → Stands L s.fixed n (option_map_or (λ p. lends_response s c h p o) q (refused UnknownNumber))
    by_port None = tt
    by_port (Some p) =
        let l : Handle = loan_of s.fixed p o h.client h.lane h.request in
        unless_stands L s.fixed n (response_loan_refusal s.fixed h p o.elements) (unless_refused (memory_refusal s c p.number) (lending s o.copies l))
        (unless_stands L s.fixed n (memory_refusal s c p.number) (lending s o.copies l)
        (loaning_stands L s n o.copies l (lending_ways s.fixed l) refl (begin l)))

lends_stands : (L : Handle → List Way → Type 0) (s : State) (n : ℕ) (c : Choice) (x : Subject) (o : Order) → Begins L s → Stands L s.fixed n (lends s c x o)
lends_stands L s n c x o begin =
    either (Stands L s.fixed n) (is_count (shape_for s.fixed x) o.elements) (lends_by s c x o) (refused WrongLength)
    (λ u. lends_by_stands L s n c x o begin) (λ u. tt)

copies_stands : (L : Handle → List Way → Type 0) (s : State) (n : ℕ) (c : Choice) (x : Subject) (k : Option ℕ) (words : List ℕ) → Begins L s
    → Stands L s.fixed n (copies s c x k words)
copies_stands L s n c x None words begin = tt
copies_stands L s n c x (Some k) words begin =
    lends_stands L s n c x (record { elements = k; filled = k; payload = words; copies = true; uninit = false }) begin

writes_stands : (L : Handle → List Way → Type 0) (f : Fixed) (n : ℕ) (h : Handle) (k : Option ℕ) (words : List ℕ) → IsAmong h (f.handles n)
    → is_loan h.kind ≡ true
    → Stands L f n (writes h k words)
writes_stands L f n h None words is loan = tt
writes_stands L f n h (Some k) words is loan =
    either (Stands L f n) (k == h.message.elements) (Ended (Fills (written h words))) (refused WrongLength)
    (λ u. record { old = h; among = is; number = refl; port = refl; serial = refl; was_loan = loan }) (λ u. tt)

reads_stands : (L : Handle → List Way → Type 0) (f : Fixed) (n : ℕ) (c : Choice) (h : Handle) → Stands L f n (reads c h)
reads_stands L f n c h =
    either (Stands L f n) c.memory (Ended (Tells (Words (h.message.user ++ h.message.payload)))) (refused WantOfMemory) (λ u. tt) (λ u. tt)

releases_stands : (L : Handle → List Way → Type 0) (f : Fixed) (n : ℕ) (h : Handle) → IsAmong h (f.handles n) → Stands L f n (releases_handle f h)
releases_stands L f n h is =
    either (Stands L f n) (is_received h.kind) (returning f h) (if same_kind h.kind PendingResponse then closing h (states_of f h) else Ended (Drops h))
    (λ u. either (Stands L f n) (forgot_port f h.node (way_of h).sender) (Ended (Drops h)) (Returning h) (λ y. is) (λ y. is))
    (λ u. either (Stands L f n) (same_kind h.kind PendingResponse) (closing h (states_of f h)) (Ended (Drops h))
    (λ y. closing_stands L f n h (states_of f h) is) (λ y. is))

begins_stand : (L : Handle → List Way → Type 0) (s : State) (n : ℕ) (wire : Bool) (c : Choice) (call : Call) (x : Subject) → Begins L s → IsThere s.fixed n x
    → suits wire call (kind_of x) ≡ true → Stands L s.fixed n (begins_at s c call x)
begins_stand L s n wire c (Loan k l) x begin is e = lends_stands L s n c x (ordered l false) begin
begins_stand L s n wire c (LoanUninit k l) x begin is e = lends_stands L s n c x (ordered l true) begin
begins_stand L s n wire c (Write k p) (TheHandle h) begin is e = writes_stands L s.fixed n h p.elements p.words is (write-loan p.role h.kind e)
begins_stand L s n wire c (Send k) (TheHandle h) begin is e = sends_stands L s.fixed n h false is
begins_stand L s n wire c (SendCopy k p) x begin is e = copies_stands L s n c x p.elements p.words begin
begins_stand L s n wire c (Receive k) (ThePort p) begin is e =
    visiting_stands L s.fixed n (record { port = p.number; role = Server; lane = 0; request = 0 }) (server_ways s.fixed p) false
begins_stand L s n wire c (Receive k) (TheHandle h) begin is e =
    visiting_stands L s.fixed n (record { port = h.port; role = Client; lane = h.lane; request = h.request }) (pending_ways s.fixed h) false
begins_stand L s n wire c (Read k) (TheHandle h) begin is e = reads_stands L s.fixed n c h
begins_stand L s n wire c (Release k) (ThePort p) begin is e = tt
begins_stand L s n wire c (Release k) (TheHandle h) begin is e = releases_stands L s.fixed n h is
begins_stand L s n wire c (IsConnected k) (TheHandle h) begin is e = checking_stands L s.fixed n h false (states_of s.fixed h)
begins_stand L s n wire c (SetHint k) (TheHandle h) begin is e = hinting_stands L s.fixed n h (states_of s.fixed h)
begins_stand L s n wire c (HasHint k) (TheHandle h) begin is e = checking_stands L s.fixed n h true (states_of s.fixed h)
begins_stand L s n wire c (HasRequests k) (ThePort p) begin is e = seeking_stands L s.fixed n (server_ways s.fixed p)
begins_stand L s n wire c (HasResponse k) (TheHandle h) begin is e = seeking_stands L s.fixed n (pending_ways s.fixed h)
begins_stand L s n wire c call x begin is e = tt

pub start_stands : (L : Handle → List Way → Type 0) (s : State) (n : ℕ) (c : Choice) (call : Call) → Begins L s → misnamed s.fixed n call ≡ None
    → Stands L s.fixed n (start s n c call)
start_stands L s n c call begin e =
    let p : IsNamedBy s.fixed n call (subject s.fixed n (number_of call)) = named-by s.fixed n call (subject s.fixed n (number_of call)) e in
    subst (λ (o : Option Subject). Stands L s.fixed n (option_map_or (begins_at s c call) o (refused UnknownNumber))) (sym p.is)
    (begins_stand L s n s.fixed.on_wire c call p.named begin
    (there s.fixed n (number_of call) p.named (port_at s.fixed (number_of call)) (handle_at s.fixed n (number_of call)) refl refl p.is) p.may)

-- ---- what the call holds

next_loan : (f : Fixed) (n : ℕ) (h : Handle) (copied : Bool) → StandsBy f n h copied → LoanIs (λ q k. k ≡ f.loans q) h copied
next_loan f n h true p q k e =
    let r : (h.port ≡ q) × (h.message.serial ≡ k) = loan-serial h q k e in
    sym r.1 ∙ p ∙ ap f.loans r.0
next_loan f n h false p q k e = absurd (true≢false (sym e))

-- it is the next message of its port
pub under_next : (L : Handle → List Way → Type 0) (f : Fixed) (n : ℕ) (d : Doing) → Stands L f n d → UnderIs (λ q k. k ≡ f.loans q) d
under_next L f n (Ended (Loans h)) p = next_loan f n h true p
under_next L f n (Ended (Sends h copied count)) p = next_loan f n h copied p
under_next L f n (Ended (FailsToSend h copied refusal)) p = next_loan f n h copied p
under_next L f n (Asking x) p = next_loan f n x.loan x.copied p
under_next L f n (Emptying x left) p = next_loan f n x.loan x.copied p
under_next L f n (Looking x left full) p = next_loan f n x.loan x.copied p
under_next L f n (Opening x left full) p = next_loan f n x.loan x.copied p
under_next L f n (Delivering x last left count) p = next_loan f n x.loan x.copied p
under_next L f n (Evicted x w left count) p = next_loan f n x.loan x.copied p
under_next L f n d p = none-so (λ q k. k ≡ f.loans q)
