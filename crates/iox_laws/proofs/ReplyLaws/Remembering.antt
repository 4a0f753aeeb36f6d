-- No call of a hub forgets a node, so nobody is forgotten there.
use Rattle.std.specs.Prelude.{◌≡◌, ℕ, ◌+◌, ◌-◌, Bool, true, false, if◌then◌else◌, ◌==◌, List, [], ◌∷◌, ◌++◌, map, Option, Some, None, refl}
use Rattle.std.specs.List.{list_any}
use Rattle.std.specs.Option.{option_map_or}
use Rattle.std.proofs.Common.{sym, subst, ap, ◌∙◌}
use Rattle.iox_model.specs.declared.call.Call.TheVariants.{Loan, LoanUninit, Write, Send, SendCopy, Receive, Read, Release, IsConnected, SetHint, HasHint, HasRequests, HasResponse}
use Rattle.iox_model.specs.declared.kind.Kind.TheVariants.{PendingResponse, ActiveRequest}
use Rattle.iox_model.specs.declared.kind.Role.TheVariants.{Client, Server}
use Rattle.iox_model.specs.declared.reply.Refusal.TheVariants.{UnknownNumber, WrongLength, OutOfMemory, WantOfMemory, ExceedsMaxActiveRequests, UnableToDeliver}
use Rattle.iox_model.specs.declared.reply.Reply.TheVariants.{Answer, Words}
use Rattle.iox_model.specs.declared.way.Way.{Way}
use Rattle.iox_model.specs.Begins.{written, writes, begins_at, start}
use Rattle.iox_model.specs.Commands.{Refusal, Reply, Call, number_of}
use Rattle.iox_model.specs.Counts.{with_fixed, added, changed, dropped, numbered, called, gives_up, sent_handle}
use Rattle.iox_model.specs.Doings.{refused, Receiver, Sending, Outcome, Tells, Loans, Fills, Sends, FailsToSend, Receives, Drops, DropsPort, Forgets, Doing, Ended, Loaning, Asking, Emptying, Looking, Opening, Delivering, Evicted, Visiting, Again, Judging, Stale, Closing, Returning, Leaving, Checking, Hinting, Seeking}
use Rattle.iox_model.specs.Ends.{is_nothing, port_dropped, settled}
use Rattle.iox_model.specs.Expiries.{is_last_gone, disconnected, released}
use Rattle.iox_model.specs.Handles.{is_request_loan, is_received, same_kind, subject, way_of, Subject, ThePort, TheHandle}
use Rattle.iox_model.specs.Loans.{Choice, Order, loan_of, next_request, request_loan_refusal, response_loan_refusal, memory_refusal, unless_refused, lending_ways}
use Rattle.iox_model.specs.Looks.{checking, hinting, is_shown}
use Rattle.iox_model.specs.Maps.{has_number, put_at, put, without_way}
use Rattle.iox_model.specs.Messages.{request_way, names, Message}
use Rattle.iox_model.specs.Moments.{moved, Moment, Deliver, Evict, Take, GiveBack, GetBack, SeesEmpty, SeesWaiting, SeesFull, SeesRoom, SeesNoneBack, Open, Close, Hint, Look}
use Rattle.iox_model.specs.Outstandings.{kept, is_dry}
use Rattle.iox_model.specs.Peers.{others, port_at, forgot_port}
use Rattle.iox_model.specs.Receives.{visiting, stale, took, seeking, server_ways, pending_ways}
use Rattle.iox_model.specs.Releases.{states_of, closing, returning, releases_handle}
use Rattle.iox_model.specs.Requests.{is_over, targets, to_open, sending_of, opening, looking, emptying, is_active_spent, sends_request}
use Rattle.iox_model.specs.Responses.{sends_response, sends, loaning, lending, lends_response, lends_by, lends, shape_for, copies, ordered}
use Rattle.iox_model.specs.Runs.{IsReachableState}
use Rattle.iox_model.specs.Settings.{is_client, is_count}
use Rattle.iox_model.specs.States.{Port, Handle, Fixed, State}
use Rattle.iox_model.specs.Transitions.{next, ends}
use Rattle.iox_model.specs.WholeCalls.{moved_by, left_by, MayCome, IsDone}
use Rattle.iox_laws.proofs.WeaveWorlds.Inductions.{IsKept, reached_keeps}
use Rattle.iox_laws.proofs.WeaveLaws.MapLemmas.{either}
use Rattle.iox_laws.proofs.WeaveLaws.WholeLemmas.{some-is, moved_by-fixed}
use Rattle.iox_laws.proofs.WeaveLedger.Truths.{by_cases, none-some}

-- ---- what a call has to do is not to forget

abbrev pub IsNoForget : Outcome → Type 0
IsNoForget (Forgets dead) = ⊥
IsNoForget o = Unit {0}

abbrev pub Remembers : Doing → Type 0
Remembers (Ended o) = IsNoForget o
Remembers d = Unit {0}

either_does : (b : Bool) (d e : Doing) → Remembers d → Remembers e → Remembers (if b then d else e)
either_does b d e p q = either Remembers b d e (λ u. p) (λ u. q)

opening_does : (x : Sending) (left full : List Way) → Remembers (opening x left full)
opening_does x [] full = tt
opening_does x (w ∷ left) full = tt

looking_does : (x : Sending) (left full : List Way) → Remembers (looking x left full)
looking_does x [] full =
    either_does (list_any x.fails full) (Ended (FailsToSend x.loan x.copied UnableToDeliver)) (opening x (to_open x) full) tt (opening_does x (to_open x) full)
looking_does x (w ∷ left) full = tt

emptying_does : (x : Sending) (left : List Way) → Remembers (emptying x left)
emptying_does x [] =
    either_does x.overflow (opening x (to_open x) []) (looking x (targets x) []) (opening_does x (to_open x) []) (looking_does x (targets x) [])
emptying_does x (w ∷ left) = tt

sends_does : (f : Fixed) (h : Handle) (copied : Bool) → Remembers (sends f h copied)
sends_does f h copied =
    let x : Sending = sending_of f h copied (others f h.node Server) in
    let ways : List Way = map (request_way h.port) (others f h.node Server) in
    either_does (is_request_loan h.kind) (sends_request f h copied (others f h.node Server)) (sends_response f h copied)
    (either_does (is_active_spent f h) (Ended (FailsToSend h copied ExceedsMaxActiveRequests)) (emptying x ways) tt (emptying_does x ways))
    (either_does (has_number h.client (others f h.node Client)) (Asking (sending_of f h copied (h.client ∷ []))) (Ended (Sends h copied 0)) tt tt)

loaning_does : (s : State) (copying : Bool) (h : Handle) (left : List Way) → Remembers (loaning s copying h left)
loaning_does s copying h [] =
    either_does (is_dry s.fixed h.port (kept s h.port [])) (refused OutOfMemory) (if copying then sends s.fixed h true else Ended (Loans h)) tt
    (either_does copying (sends s.fixed h true) (Ended (Loans h)) (sends_does s.fixed h true) tt)
loaning_does s copying h (w ∷ left) = tt

visiting_does : (x : Receiver) (left : List Way) (seen : Bool) → Remembers (visiting x left seen)
visiting_does x [] seen = tt
visiting_does x (w ∷ left) seen = tt

took_does : (f : Fixed) (node : ℕ) (x : Receiver) (w : Way) (m : Message) (left : List Way) (seen : Bool) → Remembers (took f node x w m left seen)
took_does f node x w m left seen =
    either_does (is_client x.role) (if m.request == x.request then Ended (Receives x w m) else stale f node x w m left seen)
    (if f.limits.fire_and_forget then Ended (Receives x w m) else Judging x w m left seen)
    (either_does (m.request == x.request) (Ended (Receives x w m)) (stale f node x w m left seen) tt
    (either_does (forgot_port f node w.sender) (Again x w left seen) (Stale x w m left seen) tt tt))
    (either_does f.limits.fire_and_forget (Ended (Receives x w m)) (Judging x w m left seen) tt tt)

closing_does : (h : Handle) (left : List Way) → Remembers (closing h left)
closing_does h [] = tt
closing_does h (w ∷ left) = tt

checking_does : (h : Handle) (hinted : Bool) (left : List Way) → Remembers (checking h hinted left)
checking_does h hinted [] = tt
checking_does h hinted (w ∷ left) = tt

hinting_does : (h : Handle) (left : List Way) → Remembers (hinting h left)
hinting_does h [] = tt
hinting_does h (w ∷ left) = tt

seeking_does : (left : List Way) → Remembers (seeking left)
seeking_does [] = tt
seeking_does (w ∷ left) = tt

next_does : (s : State) (node : ℕ) (d : Doing) (m : Moment) → (next s node d m).condition → Remembers (next s node d m).after
next_does s node (Loaning copying h left) (GetBack w k) c = tt
next_does s node (Loaning copying h left) (SeesNoneBack w) c = loaning_does s copying h (without_way w left)
next_does s node (Asking x) (Look w shown) c =
    either_does (names shown x.loan.request) (emptying x (targets x)) (Ended (Sends x.loan x.copied 0)) (emptying_does x (targets x)) tt
next_does s node (Emptying x left) (GetBack w k) c = tt
next_does s node (Emptying x left) (SeesNoneBack w) c = emptying_does x (without_way w left)
next_does s node (Looking x left full) (SeesFull w) c = looking_does x (without_way w left) (w ∷ full)
next_does s node (Looking x left full) (SeesRoom w) c = looking_does x (without_way w left) full
next_does s node (Opening x left full) (Open w id) c = opening_does x (without_way w left) full
next_does s node (Delivering x last left count) (Deliver w m) c = tt
next_does s node (Delivering x last left count) (Evict w) c = tt
next_does s node (Evicted x v left count) (GetBack w k) c = tt
next_does s node (Visiting x left seen) (SeesEmpty w) c = visiting_does x (without_way w left) seen
next_does s node (Visiting x left seen) (SeesWaiting w) c = visiting_does x (without_way w left) true
next_does s node (Visiting x left seen) (Take w m) c = took_does s.fixed node x w m left seen
next_does s node (Again x v left seen) (SeesEmpty w) c = visiting_does x (without_way v left) seen
next_does s node (Again x v left seen) (Take w m) c = took_does s.fixed node x v m left seen
next_does s node (Judging x v m left seen) (Look w shown) c =
    either_does (names shown m.request) (Ended (Receives x v m)) (Stale x v m left seen) tt tt
next_does s node (Stale x v m left seen) (GiveBack w k) c = tt
next_does s node (Closing h left) (Close w id) c = closing_does h (without_way w left)
next_does s node (Returning h) (GiveBack w k) c = either_does (same_kind h.kind ActiveRequest) (Leaving h) (Ended (Drops h)) tt tt
next_does s node (Leaving h) (Look w shown) c = tt
next_does s node (Leaving h) (Close w id) c = tt
next_does s node (Checking h hinted left) (Look w shown) c =
    either_does (is_shown h hinted shown) (Ended (Tells (Answer true))) (checking h hinted (without_way w left)) tt
    (checking_does h hinted (without_way w left))
next_does s node (Hinting h left) (Hint w id) c = hinting_does h (without_way w left)
next_does s node (Hinting h left) (Look w shown) c = hinting_does h (without_way w left)
next_does s node (Seeking left) (SeesEmpty w) c = seeking_does (without_way w left)
next_does s node (Seeking left) (SeesWaiting w) c = tt
next_does s node d m c = absurd c

by_does : (s : State) (node : ℕ) (d : Doing) (ms : List Moment) → Remembers d → MayCome s node d ms → Remembers (left_by s node d ms)
by_does s node d [] p may = p
by_does s node d (m ∷ ms) p may = by_does (moved s m) node (next s node d m).after ms (next_does s node d m may.1) may.2

-- ---- the begin

unless_does : (q : Option Refusal) (d : Doing) → Remembers d → Remembers (unless_refused q d)
unless_does (Some r) d p = tt
unless_does None d p = p

lending_does : (s : State) (copying : Bool) (h : Handle) → Remembers (lending s copying h)
lending_does s copying h = loaning_does s copying h (lending_ways s.fixed h)

response_does : (s : State) (c : Choice) (h : Handle) (o : Order) (p : Option Port)
    → Remembers (option_map_or (λ q. lends_response s c h q o) p (refused UnknownNumber))
response_does s c h o None = tt
response_does s c h o (Some p) =
    let d : Doing = lending s o.copies (loan_of s.fixed p o h.client h.lane h.request) in
    unless_does (response_loan_refusal s.fixed h p o.elements) (unless_refused (memory_refusal s c p.number) d)
    (unless_does (memory_refusal s c p.number) d (lending_does s o.copies (loan_of s.fixed p o h.client h.lane h.request)))

lends_by_does : (s : State) (c : Choice) (x : Subject) (o : Order) → Remembers (lends_by s c x o)
lends_by_does s c (ThePort p) o =
    let h : Handle = loan_of s.fixed p o p.number c.lane (next_request s.fixed p.number) in
    unless_does (request_loan_refusal s.fixed p o.elements) (unless_refused (memory_refusal s c p.number) (lending s o.copies h))
    (unless_does (memory_refusal s c p.number) (lending s o.copies h) (lending_does s o.copies h))
lends_by_does s c (TheHandle h) o = response_does s c h o (port_at s.fixed h.port)

lends_does : (s : State) (c : Choice) (x : Subject) (o : Order) → Remembers (lends s c x o)
lends_does s c x o = either_does (is_count (shape_for s.fixed x) o.elements) (lends_by s c x o) (refused WrongLength) (lends_by_does s c x o) tt

copies_does : (s : State) (c : Choice) (x : Subject) (k : Option ℕ) (words : List ℕ) → Remembers (copies s c x k words)
copies_does s c x None words = tt
copies_does s c x (Some k) words = lends_does s c x (record { elements = k; filled = k; payload = words; copies = true; uninit = false })

port_does : (s : State) (c : Choice) (call : Call) (p : Port) → Remembers (begins_at s c call (ThePort p))
port_does s c (Loan n k) p = lends_does s c (ThePort p) (ordered k false)
port_does s c (LoanUninit n k) p = lends_does s c (ThePort p) (ordered k true)
port_does s c (SendCopy n x) p = copies_does s c (ThePort p) x.elements x.words
port_does s c (Receive n) p =
    visiting_does (record { port = p.number; role = Server; lane = 0; request = 0 }) (server_ways s.fixed p) false
port_does s c (HasRequests n) p = seeking_does (server_ways s.fixed p)
port_does s c call p = tt

writes_does : (h : Handle) (k : Option ℕ) (words : List ℕ) → Remembers (writes h k words)
writes_does h None words = tt
writes_does h (Some k) words = either_does (k == h.message.elements) (Ended (Fills (written h words))) (refused WrongLength) tt tt

releases_does : (f : Fixed) (h : Handle) → Remembers (releases_handle f h)
releases_does f h =
    either_does (is_received h.kind) (returning f h) (if same_kind h.kind PendingResponse then closing h (states_of f h) else Ended (Drops h))
    (either_does (forgot_port f h.node (way_of h).sender) (Ended (Drops h)) (Returning h) tt tt)
    (either_does (same_kind h.kind PendingResponse) (closing h (states_of f h)) (Ended (Drops h)) (closing_does h (states_of f h)) tt)

handle_does : (s : State) (c : Choice) (call : Call) (h : Handle) → Remembers (begins_at s c call (TheHandle h))
handle_does s c (Loan n k) h = lends_does s c (TheHandle h) (ordered k false)
handle_does s c (LoanUninit n k) h = lends_does s c (TheHandle h) (ordered k true)
handle_does s c (Write n x) h = writes_does h x.elements x.words
handle_does s c (Send n) h = sends_does s.fixed h false
handle_does s c (SendCopy n x) h = copies_does s c (TheHandle h) x.elements x.words
handle_does s c (Receive n) h =
    visiting_does (record { port = h.port; role = Client; lane = h.lane; request = h.request }) (pending_ways s.fixed h) false
handle_does s c (Read n) h =
    either_does c.memory (Ended (Tells (Words (h.message.user ++ h.message.payload)))) (refused WantOfMemory) tt tt
handle_does s c (Release n) h = releases_does s.fixed h
handle_does s c (IsConnected n) h = checking_does h false (states_of s.fixed h)
handle_does s c (SetHint n) h = hinting_does h (states_of s.fixed h)
handle_does s c (HasHint n) h = checking_does h true (states_of s.fixed h)
handle_does s c (HasRequests n) h = tt
handle_does s c (HasResponse n) h = seeking_does (pending_ways s.fixed h)

at_does : (s : State) (c : Choice) (call : Call) (x : Option Subject) → Remembers (option_map_or (begins_at s c call) x (refused UnknownNumber))
at_does s c call None = tt
at_does s c call (Some (ThePort p)) = port_does s c call p
at_does s c call (Some (TheHandle h)) = handle_does s c call h

-- ---- the end

ended_does : (s : State) (d : Doing) (o : Outcome) → Remembers d → ends s d ≡ Some o → IsNoForget o
ended_does s (Ended a) o p e = subst IsNoForget (some-is a o e) p
ended_does s (Delivering x last [] count) o p e =
    by_cases (is_over s last)
    (λ over. none-some o (sym (ap (λ (b : Bool). if b then None else Some (Sends x.loan x.copied count)) over) ∙ e))
    (λ done.
    let is : Some (Sends x.loan x.copied count) ≡ Some o = sym (ap (λ (b : Bool). if b then None else Some (Sends x.loan x.copied count)) done) ∙ e in
    subst IsNoForget (some-is (Sends x.loan x.copied count) o is) tt)
ended_does s (Delivering x last (w ∷ left) count) o p e = none-some o e
ended_does s d o p e = none-some o e

abbrev NobodyIn : Fixed → Type 0
NobodyIn f = (n : ℕ) → f.forgot n ≡ []

numbered_forgot : (f : Fixed) (node : ℕ) → NobodyIn f → NobodyIn (numbered f node)
numbered_forgot f node none =
    either NobodyIn f.on_wire (record f { handles_made = put_at f.handles_made node (f.handles_made node + 1) })
    (record f { next_number = f.next_number + 1 }) (λ u. none) (λ u. none)

released_forgot : (s : State) (port : ℕ) → NobodyIn s.fixed → NobodyIn (released s port).fixed
released_forgot s port none =
    either (λ (t : State). NobodyIn t.fixed) (is_last_gone s.fixed port) (disconnected s port) s (λ u. none) (λ u. none)

gives_up_forgot : (f : Fixed) (h : Handle) → NobodyIn f → NobodyIn (gives_up f h)
gives_up_forgot f h none =
    either NobodyIn (is_received h.kind) (record f { borrowed = put f.borrowed (way_of h) (f.borrowed (way_of h) - 1) }) f (λ u. none) (λ u. none)

settled_forgot : (s : State) (node : ℕ) (payload : List ℕ) (o : Outcome) → IsNoForget o → NobodyIn s.fixed → NobodyIn (settled s node payload o).fixed
settled_forgot s node payload (Tells reply) p none =
    either (λ (t : State). NobodyIn t.fixed) (is_nothing reply) (with_fixed s (called s.fixed)) s (λ u. none) (λ u. none)
settled_forgot s node payload (Loans h) p none = numbered_forgot s.fixed node none
settled_forgot s node payload (Fills h) p none = none
settled_forgot s node payload (Sends h true count) p none =
    either NobodyIn (is_request_loan h.kind) (added (numbered s.fixed h.node) (sent_handle h count)) s.fixed
    (λ u. numbered_forgot s.fixed h.node none) (λ u. none)
settled_forgot s node payload (Sends h false count) p none =
    either (λ (t : State). NobodyIn t.fixed) (is_request_loan h.kind) (with_fixed s (changed s.fixed (sent_handle h count)))
    (released (with_fixed s (dropped s.fixed h)) h.port) (λ u. none) (λ u. released_forgot (with_fixed s (dropped s.fixed h)) h.port none)
settled_forgot s node payload (FailsToSend h true refusal) p none = none
settled_forgot s node payload (FailsToSend h false refusal) p none = released_forgot (with_fixed s (dropped s.fixed h)) h.port none
settled_forgot s node payload (Receives x w m) p none = numbered_forgot s.fixed node none
settled_forgot s node payload (Drops h) p none =
    released_forgot (with_fixed s (gives_up (dropped s.fixed h) h)) h.port (gives_up_forgot (dropped s.fixed h) h none)
settled_forgot s node payload (DropsPort port) p none =
    released_forgot (with_fixed s (record (s.fixed) { ports = map (port_dropped port) s.fixed.ports })) port none
settled_forgot s node payload (Forgets dead) p none = absurd p

done_forgot : (s : State) (node : ℕ) (call : Call) (reply : Reply) (t : State) → IsDone s node call reply t → NobodyIn s.fixed → NobodyIn t.fixed
done_forgot s node call reply t done none =
    let d : Doing = start s node done.0 call in
    let u : State = moved_by s done.2 in
    subst (λ (v : State). NobodyIn v.fixed) (sym done.9)
    (settled_forgot u node done.6 done.4
    (ended_does u (left_by s node d done.2) done.4
    (by_does s node d done.2 (at_does s done.0 call (subject s.fixed node (number_of call))) done.3) done.5)
    (subst NobodyIn (sym (moved_by-fixed s done.2)) none))

forgot_kept : IsKept (λ s. NobodyIn s.fixed)
forgot_kept = record {
  nodes = λ s x u none. none;
  makes = λ s node role id o memory allowed none. none;
  calls = λ s node call reply t named done none. done_forgot s node call reply t done none;
  fills = λ s node number h x there may none. none;
}

-- On a hub nobody forgot anybody.
pub nobody_forgot : (s : State) → IsReachableState s → (n : ℕ) → s.fixed.forgot n ≡ []
nobody_forgot = reached_keeps (λ s. NobodyIn s.fixed) forgot_kept (λ l acts id n. refl)
