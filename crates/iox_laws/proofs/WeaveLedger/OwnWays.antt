-- Who empties a way is its sender's node, and who opens a request state is its receiver's.
use Rattle.std.specs.Prelude.{◌≡◌, ℕ, Bool, true, false, if◌then◌else◌, ◌==◌, List, [], ◌∷◌, ◌++◌, map, Option, Some, None, ⊤}
use Rattle.std.specs.List.{list_any, range_with_len}
use Rattle.std.specs.Option.{option_map_or}
use Rattle.std.proofs.Common.{sym, subst, ap, ◌∙◌}
use Rattle.iox_model.specs.declared.call.Call.TheVariants.{Loan, LoanUninit, Write, Send, SendCopy, Receive, Read, Release, IsConnected, SetHint, HasHint, HasRequests, HasResponse}
use Rattle.iox_model.specs.declared.call.WireCall.TheVariants.{Forget}
use Rattle.iox_model.specs.declared.call.WireCall.TheVariants as wire_calls
use Rattle.iox_model.specs.declared.kind.Kind.TheVariants.{ActiveRequest, PendingResponse}
use Rattle.iox_model.specs.declared.kind.Role.TheVariants.{Client, Server}
use Rattle.iox_model.specs.declared.reply.Refusal.TheVariants.{UnknownNumber, WrongLength, WantOfMemory, OutOfMemory, ExceedsMaxActiveRequests, UnableToDeliver}
use Rattle.iox_model.specs.declared.reply.Reply.TheVariants.{Answer, Words}
use Rattle.iox_model.specs.declared.way.RequestState.{RequestState}
use Rattle.iox_model.specs.declared.way.Way.{Way}
use Rattle.iox_model.specs.Begins.{written, writes, begins_at}
use Rattle.iox_model.specs.Commands.{Refusal, Call, WireCall, number_of}
use Rattle.iox_model.specs.Doings.{refused, Receiver, Sending, Tells, Loans, Fills, Sends, FailsToSend, Receives, Drops, Doing, Ended, Loaning, Asking, Emptying, Looking, Opening, Delivering, Evicted, Visiting, Again, Judging, Stale, Closing, Returning, Leaving, Checking, Hinting, Seeking}
use Rattle.iox_model.specs.Handles.{is_request_loan, is_received, same_kind, subject, way_of, Subject, ThePort, TheHandle}
use Rattle.iox_model.specs.Loans.{loan_of, next_request, request_loan_refusal, response_loan_refusal, memory_refusal, request_ways, response_ways, lending_ways, unless_refused, Choice, Order}
use Rattle.iox_model.specs.Looks.{checking, is_shown, hinting}
use Rattle.iox_model.specs.Maps.{has_number, without_way}
use Rattle.iox_model.specs.Messages.{request_way, response_way, names, Message}
use Rattle.iox_model.specs.Moments.{Moment, Deliver, Evict, Take, GiveBack, GetBack, SeesEmpty, SeesWaiting, SeesFull, SeesRoom, SeesNoneBack, Open, Close, Hint, Look}
use Rattle.iox_model.specs.Outstandings.{kept, is_dry}
use Rattle.iox_model.specs.Peers.{port_at, lanes_of, lanes_to, others, forgot_port}
use Rattle.iox_model.specs.Receives.{server_ways, pending_ways, visiting, stale, took_response, took_request, took, seeking}
use Rattle.iox_model.specs.Releases.{states_of, closing, returning, releases_handle}
use Rattle.iox_model.specs.Requests.{is_request, targets, to_open, sending_of, opening, looking, emptying, is_active_spent, sends_request}
use Rattle.iox_model.specs.Responses.{sends_response, asked, sends, loaning, lending, lends_response, lends_by, lends, copies, shape_for, ordered}
use Rattle.iox_model.specs.Settings.{is_client, is_count}
use Rattle.iox_model.specs.States.{Port, Handle, Fixed, State}
use Rattle.iox_model.specs.Transitions.{next}
use Rattle.iox_model.specs.Weaves.{wire_start, IsBeat, IsWeave, World, Beat, Begins, Makes, Ends, Dies}
use Rattle.iox_laws.proofs.WeaveLaws.MapLemmas.{either}
use Rattle.iox_laws.proofs.WeaveLedger.Lists.{IsAmong, map-among, flat-among, way-among, without-among}
use Rattle.iox_laws.proofs.WeaveLedger.Views.{view, IsAt, node_in}
use Rattle.iox_laws.proofs.WeaveLedger.Senders.{FitsDoing}
use Rattle.iox_laws.proofs.WeaveLedger.Phases.{target-of}
use Rattle.iox_laws.proofs.WeaveLedger.LedgerKept.{put-call}

abbrev IsFrom : ℕ → List Way → Type 0
IsFrom port left = (w : Way) → IsAmong w left → w.sender ≡ port

abbrev IsInto : ℕ → List Way → Type 0
IsInto port left = (w : Way) → IsAmong w left → w.receiver ≡ port

-- what a call has yet to empty are ways of its own port, and what it has yet to open are request
-- states of that
abbrev pub IsOnOwn : Doing → Type 0
IsOnOwn (Loaning copies h left) = IsFrom h.port left
IsOnOwn (Emptying x left) = IsFrom x.loan.port left
IsOnOwn (Opening x left full) = IsInto x.loan.port left
IsOnOwn d = ⊤

-- ---- phases

to_open-into : (x : Sending) → IsInto x.loan.port (to_open x)
to_open-into x =
    either (IsInto x.loan.port) (is_request x) (map (response_way x.loan.port x.loan.lane) x.to) []
    (λ u w a. ap (λ (v : Way). v.receiver) (map-among (response_way x.loan.port x.loan.lane) w x.to a).2) (λ u w a. absurd a)

opening-own : (x : Sending) (left full : List Way) → IsInto x.loan.port left → IsOnOwn (opening x left full)
opening-own x [] full own = tt
opening-own x (w ∷ left) full own = own

looking-own : (x : Sending) (left full : List Way) → IsOnOwn (looking x left full)
looking-own x [] full =
    either IsOnOwn (list_any x.fails full) (Ended (FailsToSend x.loan x.copied UnableToDeliver)) (opening x (to_open x) full) (λ u. tt)
    (λ u. opening-own x (to_open x) full (to_open-into x))
looking-own x (w ∷ left) full = tt

emptying-own : (x : Sending) (left : List Way) → IsFrom x.loan.port left → IsOnOwn (emptying x left)
emptying-own x [] own =
    either IsOnOwn x.overflow (opening x (to_open x) []) (looking x (targets x) []) (λ u. opening-own x (to_open x) [] (to_open-into x)) (λ u. looking-own x (targets x) [])
emptying-own x (w ∷ left) own = own

asked-own : (x : Sending) (shown : RequestState) → IsOnOwn (asked x shown)
asked-own x shown =
    either IsOnOwn (names shown x.loan.request) (emptying x (targets x)) (Ended (Sends x.loan x.copied 0))
    (λ u. emptying-own x (targets x) (λ w a. (target-of x w a).0)) (λ u. tt)

request-own : (f : Fixed) (h : Handle) (copied : Bool) (to : List ℕ) → IsOnOwn (sends_request f h copied to)
request-own f h copied to =
    either IsOnOwn (is_active_spent f h) (Ended (FailsToSend h copied ExceedsMaxActiveRequests))
    (emptying (sending_of f h copied to) (map (request_way h.port) to)) (λ u. tt)
    (λ u. emptying-own (sending_of f h copied to) (map (request_way h.port) to)
    (λ w a. ap (λ (v : Way). v.sender) (map-among (request_way h.port) w to a).2))

sends-own : (f : Fixed) (h : Handle) (copied : Bool) → IsOnOwn (sends f h copied)
sends-own f h copied =
    either IsOnOwn (is_request_loan h.kind) (sends_request f h copied (others f h.node Server)) (sends_response f h copied)
    (λ u. request-own f h copied (others f h.node Server))
    (λ u. either IsOnOwn (has_number h.client (others f h.node Client)) (Asking (sending_of f h copied (h.client ∷ []))) (Ended (Sends h copied 0))
    (λ y. tt) (λ y. tt))

loaning-own : (s : State) (copies : Bool) (h : Handle) (left : List Way) → IsFrom h.port left → IsOnOwn (loaning s copies h left)
loaning-own s copies h [] own =
    either IsOnOwn (is_dry s.fixed h.port (kept s h.port [])) (refused OutOfMemory) (if copies then sends s.fixed h true else Ended (Loans h)) (λ u. tt)
    (λ u. either IsOnOwn copies (sends s.fixed h true) (Ended (Loans h)) (λ y. sends-own s.fixed h true) (λ y. tt))
loaning-own s copies h (w ∷ left) own = own

visiting-own : (x : Receiver) (left : List Way) (seen : Bool) → IsOnOwn (visiting x left seen)
visiting-own x [] seen = tt
visiting-own x (w ∷ left) seen = tt

took-own : (f : Fixed) (n : ℕ) (x : Receiver) (w : Way) (m : Message) (left : List Way) (seen : Bool) → IsOnOwn (took f n x w m left seen)
took-own f n x w m left seen =
    either IsOnOwn (is_client x.role) (took_response f n x w m left seen) (took_request f x w m left seen)
    (λ u. either IsOnOwn (m.request == x.request) (Ended (Receives x w m)) (stale f n x w m left seen) (λ y. tt)
    (λ y. either IsOnOwn (forgot_port f n w.sender) (Again x w left seen) (Stale x w m left seen) (λ z. tt) (λ z. tt)))
    (λ u. either IsOnOwn f.limits.fire_and_forget (Ended (Receives x w m)) (Judging x w m left seen) (λ y. tt) (λ y. tt))

closing-own : (h : Handle) (left : List Way) → IsOnOwn (closing h left)
closing-own h [] = tt
closing-own h (w ∷ left) = tt

checking-own : (h : Handle) (hinted : Bool) (left : List Way) → IsOnOwn (checking h hinted left)
checking-own h hinted [] = tt
checking-own h hinted (w ∷ left) = tt

hinting-own : (h : Handle) (left : List Way) → IsOnOwn (hinting h left)
hinting-own h [] = tt
hinting-own h (w ∷ left) = tt

seeking-own : (left : List Way) → IsOnOwn (seeking left)
seeking-own [] = tt
seeking-own (w ∷ left) = tt

-- ---- moments

fewer : (port : ℕ) (w : Way) (left : List Way) → IsFrom port left → IsFrom port (without_way w left)
fewer port w left own v a = own v (without-among w v left a)

fewer_into : (port : ℕ) (w : Way) (left : List Way) → IsInto port left → IsInto port (without_way w left)
fewer_into port w left own v a = own v (without-among w v left a)

next-own : (s : State) (n : ℕ) (d : Doing) (m : Moment) → (next s n d m).condition → IsOnOwn d → IsOnOwn (next s n d m).after
next-own s n (Loaning copies h left) (GetBack w k) c p = p
next-own s n (Loaning copies h left) (SeesNoneBack w) c p = loaning-own s copies h (without_way w left) (fewer h.port w left p)
next-own s n (Asking x) (Look w shown) c p = asked-own x shown
next-own s n (Emptying x left) (GetBack w k) c p = p
next-own s n (Emptying x left) (SeesNoneBack w) c p = emptying-own x (without_way w left) (fewer x.loan.port w left p)
next-own s n (Looking x left full) (SeesFull w) c p = looking-own x (without_way w left) (w ∷ full)
next-own s n (Looking x left full) (SeesRoom w) c p = looking-own x (without_way w left) full
next-own s n (Opening x left full) (Open w id) c p = opening-own x (without_way w left) full (fewer_into x.loan.port w left p)
next-own s n (Delivering x last left count) (Deliver w m) c p = tt
next-own s n (Delivering x last left count) (Evict w) c p = tt
next-own s n (Evicted x v left count) (GetBack w k) c p = tt
next-own s n (Visiting x left seen) (SeesEmpty w) c p = visiting-own x (without_way w left) seen
next-own s n (Visiting x left seen) (SeesWaiting w) c p = visiting-own x (without_way w left) true
next-own s n (Visiting x left seen) (Take w m) c p = took-own s.fixed n x w m left seen
next-own s n (Again x v left seen) (SeesEmpty w) c p = visiting-own x (without_way v left) seen
next-own s n (Again x v left seen) (Take w m) c p = took-own s.fixed n x v m left seen
next-own s n (Judging x v m left seen) (Look w shown) c p =
    either IsOnOwn (names shown m.request) (Ended (Receives x v m)) (Stale x v m left seen) (λ u. tt) (λ u. tt)
next-own s n (Stale x v m left seen) (GiveBack w k) c p = tt
next-own s n (Closing h left) (Close w id) c p = closing-own h (without_way w left)
next-own s n (Returning h) (GiveBack w k) c p = either IsOnOwn (same_kind h.kind ActiveRequest) (Leaving h) (Ended (Drops h)) (λ u. tt) (λ u. tt)
next-own s n (Leaving h) (Look w shown) c p = tt
next-own s n (Leaving h) (Close w id) c p = tt
next-own s n (Checking h hinted left) (Look w shown) c p =
    either IsOnOwn (is_shown h hinted shown) (Ended (Tells (Answer true))) (checking h hinted (without_way w left)) (λ u. tt)
    (λ u. checking-own h hinted (without_way w left))
next-own s n (Hinting h left) (Hint w id) c p = hinting-own h (without_way w left)
next-own s n (Hinting h left) (Look w shown) c p = hinting-own h (without_way w left)
next-own s n (Seeking left) (SeesEmpty w) c p = seeking-own (without_way w left)
next-own s n (Seeking left) (SeesWaiting w) c p = tt
next-own s n d m c p = absurd c

-- ---- as a call begins

lending-own : (s : State) (copies : Bool) (h : Handle) → IsOnOwn (lending s copies h)
lending-own s copies h = loaning-own s copies h (lending_ways s.fixed h)
    (either (IsFrom h.port) (is_request_loan h.kind) (request_ways s.fixed h.node h.port) (response_ways s.fixed h.node h.port)
    (λ u w a. ap (λ (v : Way). v.sender) (map-among (request_way h.port) w (others s.fixed h.node Server) a).2)
    (λ u w a. on_lane w (flat-among (lanes_to s.fixed h.port) w (others s.fixed h.node Client) a)))
  where
    on_lane : (w : Way) → (client : ℕ) × IsAmong client (others s.fixed h.node Client) × IsAmong w (lanes_to s.fixed h.port client) → w.sender ≡ h.port
    on_lane w r =
        ap (λ (v : Way). v.sender) (map-among (λ lane. response_way r.0 lane h.port) w (range_with_len 0 (lanes_of s.fixed r.0)) r.2).2

unless-own : (r : Option Refusal) (d : Doing) → IsOnOwn d → IsOnOwn (unless_refused r d)
unless-own (Some r) d p = tt
unless-own None d p = p

lends_by-own : (s : State) (c : Choice) (x : Subject) (o : Order) → IsOnOwn (lends_by s c x o)
lends_by-own s c (ThePort p) o =
    let h : Handle = loan_of s.fixed p o p.number c.lane (next_request s.fixed p.number) in
    unless-own (request_loan_refusal s.fixed p o.elements) (unless_refused (memory_refusal s c p.number) (lending s o.copies h))
    (unless-own (memory_refusal s c p.number) (lending s o.copies h) (lending-own s o.copies h))
lends_by-own s c (TheHandle h) o = by_case (port_at s.fixed h.port)
  where
    by_case : (q : Option Port) → IsOnOwn (option_map_or (λ p. lends_response s c h p o) q (refused UnknownNumber))
    by_case None = tt
    by_case (Some p) =
        let l : Handle = loan_of s.fixed p o h.client h.lane h.request in
        unless-own (response_loan_refusal s.fixed h p o.elements) (unless_refused (memory_refusal s c p.number) (lending s o.copies l))
        (unless-own (memory_refusal s c p.number) (lending s o.copies l) (lending-own s o.copies l))

lends-own : (s : State) (c : Choice) (x : Subject) (o : Order) → IsOnOwn (lends s c x o)
lends-own s c x o =
    either IsOnOwn (is_count (shape_for s.fixed x) o.elements) (lends_by s c x o) (refused WrongLength) (λ u. lends_by-own s c x o) (λ u. tt)

copies-own : (s : State) (c : Choice) (x : Subject) (k : Option ℕ) (words : List ℕ) → IsOnOwn (copies s c x k words)
copies-own s c x None words = tt
copies-own s c x (Some k) words = lends-own s c x (record { elements = k; filled = k; payload = words; copies = true; uninit = false })

writes-own : (h : Handle) (k : Option ℕ) (words : List ℕ) → IsOnOwn (writes h k words)
writes-own h None words = tt
writes-own h (Some k) words =
    either IsOnOwn (k == h.message.elements) (Ended (Fills (written h words))) (refused WrongLength) (λ u. tt) (λ u. tt)

releases-own : (f : Fixed) (h : Handle) → IsOnOwn (releases_handle f h)
releases-own f h =
    either IsOnOwn (is_received h.kind) (returning f h) (if same_kind h.kind PendingResponse then closing h (states_of f h) else Ended (Drops h))
    (λ u. either IsOnOwn (forgot_port f h.node (way_of h).sender) (Ended (Drops h)) (Returning h) (λ y. tt) (λ y. tt))
    (λ u. either IsOnOwn (same_kind h.kind PendingResponse) (closing h (states_of f h)) (Ended (Drops h)) (λ y. closing-own h (states_of f h)) (λ y. tt))

begins-own : (s : State) (c : Choice) (call : Call) (x : Subject) → IsOnOwn (begins_at s c call x)
begins-own s c (Loan k l) x = lends-own s c x (ordered l false)
begins-own s c (LoanUninit k l) x = lends-own s c x (ordered l true)
begins-own s c (Write k p) (TheHandle h) = writes-own h p.elements p.words
begins-own s c (Send k) (TheHandle h) = sends-own s.fixed h false
begins-own s c (SendCopy k p) x = copies-own s c x p.elements p.words
begins-own s c (Receive k) (ThePort p) = visiting-own (record { port = p.number; role = Server; lane = 0; request = 0 }) (server_ways s.fixed p) false
begins-own s c (Receive k) (TheHandle h) =
    visiting-own (record { port = h.port; role = Client; lane = h.lane; request = h.request }) (pending_ways s.fixed h) false
begins-own s c (Read k) (TheHandle h) =
    either IsOnOwn c.memory (Ended (Tells (Words (h.message.user ++ h.message.payload)))) (refused WantOfMemory) (λ u. tt) (λ u. tt)
begins-own s c (Release k) (ThePort p) = tt
begins-own s c (Release k) (TheHandle h) = releases-own s.fixed h
begins-own s c (IsConnected k) (TheHandle h) = checking-own h false (states_of s.fixed h)
begins-own s c (SetHint k) (TheHandle h) = hinting-own h (states_of s.fixed h)
begins-own s c (HasHint k) (TheHandle h) = checking-own h true (states_of s.fixed h)
begins-own s c (HasRequests k) (ThePort p) = seeking-own (server_ways s.fixed p)
begins-own s c (HasResponse k) (TheHandle h) = seeking-own (pending_ways s.fixed h)
begins-own s c call x = tt

wire_start-own : (s : State) (n : ℕ) (c : Choice) (call : WireCall) → IsOnOwn (wire_start s n c call)
wire_start-own s n c (wire_calls.Port call) = by_case (subject s.fixed n (number_of call))
  where
    by_case : (o : Option Subject) → IsOnOwn (option_map_or (begins_at s c call) o (refused UnknownNumber))
    by_case None = tt
    by_case (Some x) = begins-own s c call x
wire_start-own s n c (Forget dead) = tt

-- ---- a weave

abbrev pub CallsOwn : Option Doing → Type 0
CallsOwn None = ⊤
CallsOwn (Some d) = IsOnOwn d

pub own-is : (o : Option Doing) (d : Doing) → o ≡ Some d → CallsOwn o → IsOnOwn d
own-is o d e p = subst CallsOwn e p

beat-own : (w u : World) (b : Beat) → IsBeat w b u → ((k : ℕ) → CallsOwn (w.doing k)) → (k : ℕ) → CallsOwn (u.doing k)
beat-own w u (Begins node call c) beat p k =
    subst (λ (v : World). CallsOwn (v.doing k)) (sym beat.2)
    (put-call CallsOwn w.doing node k (Some (wire_start w.state node c call)) (wire_start-own w.state node c call) (p k))
beat-own w u (Makes node m) beat p k =
    subst (λ (v : World). CallsOwn (v.doing k)) (sym beat.5)
    (put-call CallsOwn w.doing node k (Some (next w.state node beat.1 m).after)
    (next-own w.state node beat.1 m beat.4 (own-is (w.doing node) beat.1 beat.2 (p node))) (p k))
beat-own w u (Ends node reply payload) beat p k =
    subst (λ (v : World). CallsOwn (v.doing k)) (sym beat.7) (put-call CallsOwn w.doing node k None tt (p k))
beat-own w u (Dies node) beat p k = subst (λ (v : World). CallsOwn (v.doing k)) (sym beat.1) (p k)

pub weave-own : (w v : World) (bs : List Beat) → IsWeave w bs v → ((k : ℕ) → CallsOwn (w.doing k)) → (k : ℕ) → CallsOwn (v.doing k)
weave-own w v [] weave p k = subst (λ (u : World). CallsOwn (u.doing k)) (sym weave) (p k)
weave-own w v (b ∷ bs) weave p k = weave-own weave.0 v bs weave.2 (beat-own w weave.0 b weave.1 p) k

pub empties-here : (s : State) (n : ℕ) (d : Doing) (y : Way) → FitsDoing (view s.fixed n) n d → IsOnOwn d → (next s n d (SeesNoneBack y)).condition
    → IsAt s.fixed.ports y.sender n
empties-here s n (Loaning copies h left) y fits own c = ap (node_in s.fixed.ports) (own y (way-among y left c)) ∙ fits.of_port
empties-here s n (Emptying x left) y fits own c = ap (node_in s.fixed.ports) (own y (way-among y left c)) ∙ (fits.loan).of_port
empties-here s n d y fits own c = absurd c

pub opens-here : (s : State) (n : ℕ) (d : Doing) (y : Way) (id : ℕ) → FitsDoing (view s.fixed n) n d → IsOnOwn d → (next s n d (Open y id)).condition
    → IsAt s.fixed.ports y.receiver n
opens-here s n (Opening x left full) y id fits own c = ap (node_in s.fixed.ports) (own y (way-among y left c.0)) ∙ fits.loan.of_port
opens-here s n d y id fits own c = absurd c
