-- A call that is no write, send or release of a handle spends no handle.
use Rattle.std.specs.Prelude.{◌≡◌, ℕ, Bool, true, false, if◌then◌else◌, ◌==◌, List, [], ◌∷◌, ◌++◌, map, Option, Some, None, refl}
use Rattle.std.specs.List.{list_any}
use Rattle.std.specs.Option.{option_map_or}
use Rattle.std.proofs.Common.{sym, subst, ap, ◌∙◌, true≢false}
use Rattle.iox_model.specs.declared.call.Call.TheVariants.{Loan, LoanUninit, Write, Send, SendCopy, Receive, Read, Release, IsConnected, SetHint, HasHint, HasRequests, HasResponse}
use Rattle.iox_model.specs.declared.kind.Role.TheVariants.{Client, Server}
use Rattle.iox_model.specs.declared.reply.Refusal.TheVariants.{UnknownNumber, WrongLength, OutOfMemory, WantOfMemory, ExceedsMaxActiveRequests, UnableToDeliver}
use Rattle.iox_model.specs.declared.reply.Reply.TheVariants.{Answer, Words}
use Rattle.iox_model.specs.declared.way.Way.{Way}
use Rattle.iox_model.specs.Begins.{begins_at}
use Rattle.iox_model.specs.Commands.{Refusal, Call}
use Rattle.iox_model.specs.Doings.{refused, Receiver, Sending, Outcome, Tells, Loans, Sends, FailsToSend, Receives, Doing, Ended, Loaning, Asking, Emptying, Looking, Opening, Delivering, Evicted, Visiting, Again, Judging, Stale, Closing, Returning, Leaving, Checking, Hinting, Seeking}
use Rattle.iox_model.specs.Handles.{is_request_loan, Subject, ThePort, TheHandle}
use Rattle.iox_model.specs.Loans.{Choice, Order, loan_of, next_request, request_loan_refusal, response_loan_refusal, memory_refusal, unless_refused, lending_ways}
use Rattle.iox_model.specs.Looks.{checking, hinting, is_shown}
use Rattle.iox_model.specs.Maps.{has_number, without_way}
use Rattle.iox_model.specs.Messages.{request_way, names, Message}
use Rattle.iox_model.specs.Moments.{moved, Moment, Deliver, Evict, Take, GiveBack, GetBack, SeesEmpty, SeesWaiting, SeesFull, SeesRoom, SeesNoneBack, Open, Hint, Look}
use Rattle.iox_model.specs.Outstandings.{kept, is_dry}
use Rattle.iox_model.specs.Peers.{others, port_at, forgot_port}
use Rattle.iox_model.specs.Receives.{visiting, stale, took, seeking, server_ways, pending_ways}
use Rattle.iox_model.specs.Releases.{states_of}
use Rattle.iox_model.specs.Requests.{is_over, targets, to_open, sending_of, opening, looking, emptying, is_active_spent, sends_request}
use Rattle.iox_model.specs.Responses.{sends_response, sends, loaning, lending, lends_response, lends_by, lends, shape_for, copies, ordered}
use Rattle.iox_model.specs.Settings.{is_client, is_count}
use Rattle.iox_model.specs.States.{Port, Handle, Fixed, State}
use Rattle.iox_model.specs.Transitions.{next, ends}
use Rattle.iox_model.specs.WholeCalls.{left_by, MayCome}
use Rattle.iox_laws.proofs.WeaveLaws.MapLemmas.{either}
use Rattle.iox_laws.proofs.WeaveLaws.WholeLemmas.{some-is}
use Rattle.iox_laws.proofs.WeaveLedger.Truths.{by_cases, none-some}
use Rattle.iceoryx2_ports.specs.Keeping.{spends}

-- the end only adds handles
abbrev pub Gathers : Outcome → Type 0
Gathers (Tells reply) = Unit {0}
Gathers (Loans h) = Unit {0}
Gathers (Receives x w m) = Unit {0}
Gathers (Sends h copied count) = copied ≡ true
Gathers (FailsToSend h copied refusal) = copied ≡ true
Gathers o = ⊥

-- the call comes to such an end
abbrev pub IsGathering : Doing → Type 0
IsGathering (Ended o) = Gathers o
IsGathering (Asking x) = x.copied ≡ true
IsGathering (Emptying x left) = x.copied ≡ true
IsGathering (Looking x left full) = x.copied ≡ true
IsGathering (Opening x left full) = x.copied ≡ true
IsGathering (Delivering x last left count) = x.copied ≡ true
IsGathering (Evicted x w left count) = x.copied ≡ true
IsGathering (Closing h left) = ⊥
IsGathering (Returning h) = ⊥
IsGathering (Leaving h) = ⊥
IsGathering d = Unit {0}

either_gathers : (b : Bool) (d e : Doing) → IsGathering d → IsGathering e → IsGathering (if b then d else e)
either_gathers b d e p q = either IsGathering b d e (λ u. p) (λ u. q)

opening_gathers : (x : Sending) (left full : List Way) → x.copied ≡ true → IsGathering (opening x left full)
opening_gathers x [] full p = p
opening_gathers x (w ∷ left) full p = p

looking_gathers : (x : Sending) (left full : List Way) → x.copied ≡ true → IsGathering (looking x left full)
looking_gathers x [] full p =
    either_gathers (list_any x.fails full) (Ended (FailsToSend x.loan x.copied UnableToDeliver)) (opening x (to_open x) full) p
    (opening_gathers x (to_open x) full p)
looking_gathers x (w ∷ left) full p = p

emptying_gathers : (x : Sending) (left : List Way) → x.copied ≡ true → IsGathering (emptying x left)
emptying_gathers x [] p =
    either_gathers x.overflow (opening x (to_open x) []) (looking x (targets x) []) (opening_gathers x (to_open x) [] p) (looking_gathers x (targets x) [] p)
emptying_gathers x (w ∷ left) p = p

sends_gathers : (f : Fixed) (h : Handle) → IsGathering (sends f h true)
sends_gathers f h =
    let x : Sending = sending_of f h true (others f h.node Server) in
    let ways : List Way = map (request_way h.port) (others f h.node Server) in
    either_gathers (is_request_loan h.kind) (sends_request f h true (others f h.node Server)) (sends_response f h true)
    (either_gathers (is_active_spent f h) (Ended (FailsToSend h true ExceedsMaxActiveRequests)) (emptying x ways) refl (emptying_gathers x ways refl))
    (either_gathers (has_number h.client (others f h.node Client)) (Asking (sending_of f h true (h.client ∷ []))) (Ended (Sends h true 0)) refl refl)

loaning_gathers : (s : State) (copying : Bool) (h : Handle) (left : List Way) → IsGathering (loaning s copying h left)
loaning_gathers s copying h [] =
    either_gathers (is_dry s.fixed h.port (kept s h.port [])) (refused OutOfMemory) (if copying then sends s.fixed h true else Ended (Loans h)) tt
    (either_gathers copying (sends s.fixed h true) (Ended (Loans h)) (sends_gathers s.fixed h) tt)
loaning_gathers s copying h (w ∷ left) = tt

visiting_gathers : (x : Receiver) (left : List Way) (seen : Bool) → IsGathering (visiting x left seen)
visiting_gathers x [] seen = tt
visiting_gathers x (w ∷ left) seen = tt

took_gathers : (f : Fixed) (node : ℕ) (x : Receiver) (w : Way) (m : Message) (left : List Way) (seen : Bool) → IsGathering (took f node x w m left seen)
took_gathers f node x w m left seen =
    either_gathers (is_client x.role) (if m.request == x.request then Ended (Receives x w m) else stale f node x w m left seen)
    (if f.limits.fire_and_forget then Ended (Receives x w m) else Judging x w m left seen)
    (either_gathers (m.request == x.request) (Ended (Receives x w m)) (stale f node x w m left seen) tt
    (either_gathers (forgot_port f node w.sender) (Again x w left seen) (Stale x w m left seen) tt tt))
    (either_gathers f.limits.fire_and_forget (Ended (Receives x w m)) (Judging x w m left seen) tt tt)

checking_gathers : (h : Handle) (hinted : Bool) (left : List Way) → IsGathering (checking h hinted left)
checking_gathers h hinted [] = tt
checking_gathers h hinted (w ∷ left) = tt

hinting_gathers : (h : Handle) (left : List Way) → IsGathering (hinting h left)
hinting_gathers h [] = tt
hinting_gathers h (w ∷ left) = tt

seeking_gathers : (left : List Way) → IsGathering (seeking left)
seeking_gathers [] = tt
seeking_gathers (w ∷ left) = tt

next_gathers : (s : State) (node : ℕ) (d : Doing) (m : Moment) → IsGathering d → (next s node d m).condition → IsGathering (next s node d m).after
next_gathers s node (Loaning copying h left) (GetBack w k) p c = tt
next_gathers s node (Loaning copying h left) (SeesNoneBack w) p c = loaning_gathers s copying h (without_way w left)
next_gathers s node (Asking x) (Look w shown) p c =
    either_gathers (names shown x.loan.request) (emptying x (targets x)) (Ended (Sends x.loan x.copied 0)) (emptying_gathers x (targets x) p) p
next_gathers s node (Emptying x left) (GetBack w k) p c = p
next_gathers s node (Emptying x left) (SeesNoneBack w) p c = emptying_gathers x (without_way w left) p
next_gathers s node (Looking x left full) (SeesFull w) p c = looking_gathers x (without_way w left) (w ∷ full) p
next_gathers s node (Looking x left full) (SeesRoom w) p c = looking_gathers x (without_way w left) full p
next_gathers s node (Opening x left full) (Open w id) p c = opening_gathers x (without_way w left) full p
next_gathers s node (Delivering x last left count) (Deliver w m) p c = p
next_gathers s node (Delivering x last left count) (Evict w) p c = p
next_gathers s node (Evicted x v left count) (GetBack w k) p c = p
next_gathers s node (Visiting x left seen) (SeesEmpty w) p c = visiting_gathers x (without_way w left) seen
next_gathers s node (Visiting x left seen) (SeesWaiting w) p c = visiting_gathers x (without_way w left) true
next_gathers s node (Visiting x left seen) (Take w m) p c = took_gathers s.fixed node x w m left seen
next_gathers s node (Again x v left seen) (SeesEmpty w) p c = visiting_gathers x (without_way v left) seen
next_gathers s node (Again x v left seen) (Take w m) p c = took_gathers s.fixed node x v m left seen
next_gathers s node (Judging x v m left seen) (Look w shown) p c =
    either_gathers (names shown m.request) (Ended (Receives x v m)) (Stale x v m left seen) tt tt
next_gathers s node (Stale x v m left seen) (GiveBack w k) p c = tt
next_gathers s node (Checking h hinted left) (Look w shown) p c =
    either_gathers (is_shown h hinted shown) (Ended (Tells (Answer true))) (checking h hinted (without_way w left)) tt
    (checking_gathers h hinted (without_way w left))
next_gathers s node (Hinting h left) (Hint w id) p c = hinting_gathers h (without_way w left)
next_gathers s node (Hinting h left) (Look w shown) p c = hinting_gathers h (without_way w left)
next_gathers s node (Seeking left) (SeesEmpty w) p c = seeking_gathers (without_way w left)
next_gathers s node (Seeking left) (SeesWaiting w) p c = tt
next_gathers s node (Closing h left) m p c = absurd p
next_gathers s node (Returning h) m p c = absurd p
next_gathers s node (Leaving h) m p c = absurd p
next_gathers s node d m p c = absurd c

pub by_gathers : (s : State) (node : ℕ) (d : Doing) (ms : List Moment) → IsGathering d → MayCome s node d ms → IsGathering (left_by s node d ms)
by_gathers s node d [] p may = p
by_gathers s node d (m ∷ ms) p may = by_gathers (moved s m) node (next s node d m).after ms (next_gathers s node d m p may.1) may.2

-- ---- the begin

unless_gathers : (q : Option Refusal) (d : Doing) → IsGathering d → IsGathering (unless_refused q d)
unless_gathers (Some r) d p = tt
unless_gathers None d p = p

lending_gathers : (s : State) (copying : Bool) (h : Handle) → IsGathering (lending s copying h)
lending_gathers s copying h = loaning_gathers s copying h (lending_ways s.fixed h)

response_gathers : (s : State) (c : Choice) (h : Handle) (o : Order) (p : Option Port)
    → IsGathering (option_map_or (λ q. lends_response s c h q o) p (refused UnknownNumber))
response_gathers s c h o None = tt
response_gathers s c h o (Some p) =
    let d : Doing = lending s o.copies (loan_of s.fixed p o h.client h.lane h.request) in
    unless_gathers (response_loan_refusal s.fixed h p o.elements) (unless_refused (memory_refusal s c p.number) d)
    (unless_gathers (memory_refusal s c p.number) d (lending_gathers s o.copies (loan_of s.fixed p o h.client h.lane h.request)))

lends_by_gathers : (s : State) (c : Choice) (x : Subject) (o : Order) → IsGathering (lends_by s c x o)
lends_by_gathers s c (ThePort p) o =
    let h : Handle = loan_of s.fixed p o p.number c.lane (next_request s.fixed p.number) in
    unless_gathers (request_loan_refusal s.fixed p o.elements) (unless_refused (memory_refusal s c p.number) (lending s o.copies h))
    (unless_gathers (memory_refusal s c p.number) (lending s o.copies h) (lending_gathers s o.copies h))
lends_by_gathers s c (TheHandle h) o = response_gathers s c h o (port_at s.fixed h.port)

lends_gathers : (s : State) (c : Choice) (x : Subject) (o : Order) → IsGathering (lends s c x o)
lends_gathers s c x o =
    either_gathers (is_count (shape_for s.fixed x) o.elements) (lends_by s c x o) (refused WrongLength) (lends_by_gathers s c x o) tt

copies_gathers : (s : State) (c : Choice) (x : Subject) (k : Option ℕ) (words : List ℕ) → IsGathering (copies s c x k words)
copies_gathers s c x None words = tt
copies_gathers s c x (Some k) words =
    lends_gathers s c x (record { elements = k; filled = k; payload = words; copies = true; uninit = false })

port_gathers : (s : State) (c : Choice) (call : Call) (p : Port) → spends call ≡ false → IsGathering (begins_at s c call (ThePort p))
port_gathers s c (Loan n k) p e = lends_gathers s c (ThePort p) (ordered k false)
port_gathers s c (LoanUninit n k) p e = lends_gathers s c (ThePort p) (ordered k true)
port_gathers s c (SendCopy n x) p e = copies_gathers s c (ThePort p) x.elements x.words
port_gathers s c (Receive n) p e =
    visiting_gathers (record { port = p.number; role = Server; lane = 0; request = 0 }) (server_ways s.fixed p) false
port_gathers s c (HasRequests n) p e = seeking_gathers (server_ways s.fixed p)
port_gathers s c (Release n) p e = absurd (true≢false e)
port_gathers s c call p e = tt

handle_gathers : (s : State) (c : Choice) (call : Call) (h : Handle) → spends call ≡ false → IsGathering (begins_at s c call (TheHandle h))
handle_gathers s c (Loan n k) h e = lends_gathers s c (TheHandle h) (ordered k false)
handle_gathers s c (LoanUninit n k) h e = lends_gathers s c (TheHandle h) (ordered k true)
handle_gathers s c (Write n x) h e = absurd (true≢false e)
handle_gathers s c (Send n) h e = absurd (true≢false e)
handle_gathers s c (SendCopy n x) h e = copies_gathers s c (TheHandle h) x.elements x.words
handle_gathers s c (Receive n) h e =
    visiting_gathers (record { port = h.port; role = Client; lane = h.lane; request = h.request }) (pending_ways s.fixed h) false
handle_gathers s c (Read n) h e =
    either_gathers c.memory (Ended (Tells (Words (h.message.user ++ h.message.payload)))) (refused WantOfMemory) tt tt
handle_gathers s c (Release n) h e = absurd (true≢false e)
handle_gathers s c (IsConnected n) h e = checking_gathers h false (states_of s.fixed h)
handle_gathers s c (SetHint n) h e = hinting_gathers h (states_of s.fixed h)
handle_gathers s c (HasHint n) h e = checking_gathers h true (states_of s.fixed h)
handle_gathers s c (HasRequests n) h e = tt
handle_gathers s c (HasResponse n) h e = seeking_gathers (pending_ways s.fixed h)

pub at_gathers : (s : State) (c : Choice) (call : Call) (x : Option Subject) → spends call ≡ false
    → IsGathering (option_map_or (begins_at s c call) x (refused UnknownNumber))
at_gathers s c call None e = tt
at_gathers s c call (Some (ThePort p)) e = port_gathers s c call p e
at_gathers s c call (Some (TheHandle h)) e = handle_gathers s c call h e

-- ---- the end

pub ended_gathers : (s : State) (d : Doing) (o : Outcome) → IsGathering d → ends s d ≡ Some o → Gathers o
ended_gathers s (Ended a) o p e = subst Gathers (some-is a o e) p
ended_gathers s (Delivering x last [] count) o p e =
    by_cases (is_over s last)
    (λ over. none-some o (sym (ap (λ (b : Bool). if b then None else Some (Sends x.loan x.copied count)) over) ∙ e))
    (λ done.
    let is : Some (Sends x.loan x.copied count) ≡ Some o = sym (ap (λ (b : Bool). if b then None else Some (Sends x.loan x.copied count)) done) ∙ e in
    subst Gathers (some-is (Sends x.loan x.copied count) o is) p)
ended_gathers s (Delivering x last (w ∷ left) count) o p e = none-some o e
ended_gathers s d o p e = none-some o e
