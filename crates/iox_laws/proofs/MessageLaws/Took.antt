-- What a call is to hand out, it took: the message of a receive is one of those that were taken on its way.
use Rattle.std.specs.Prelude.{◌≡◌, ℕ, Bool, true, false, if◌then◌else◌, ◌==◌, List, [], ◌∷◌, ◌++◌, map, Option, Some, None, refl}
use Rattle.std.specs.Option.{option_map_or}
use Rattle.std.proofs.Common.{sym, subst, true≢false, append_assoc, inl}
use Rattle.std.proofs.lemmas.Grind.{flat_map-append}
use Rattle.std.proofs.lemmas.List.{append-nil}
use Rattle.iox_model.specs.declared.kind.Kind.TheVariants.{PendingResponse, ActiveRequest}
use Rattle.iox_model.specs.declared.call.Call.TheVariants.{Loan, LoanUninit, Write, Send, SendCopy, Receive, Read, Release, IsConnected, SetHint, HasHint, HasRequests, HasResponse}
use Rattle.iox_model.specs.declared.call.WireCall.TheVariants.{Forget}
use Rattle.iox_model.specs.declared.call.WireCall.TheVariants as wire_calls
use Rattle.iox_model.specs.declared.reply.Refusal.TheVariants.{UnknownNumber, WrongLength, WantOfMemory}
use Rattle.iox_model.specs.declared.reply.Reply.TheVariants.{Words}
use Rattle.iox_model.specs.declared.way.Way.{Way}
use Rattle.iox_model.specs.Begins.{written, writes, begins_at, start}
use Rattle.iox_model.specs.Commands.{Refusal, Call, WireCall, number_of}
use Rattle.iox_model.specs.Doings.{refused, Receiver, Outcome, Tells, Fills, Sends, Receives, Drops, Doing, Ended, Loaning, Asking, Emptying, Looking, Opening, Delivering, Evicted, Visiting, Again, Judging, Stale, Closing, Returning, Leaving, Checking, Hinting, Seeking}
use Rattle.iox_model.specs.Handles.{same_kind, is_received, way_of, subject, Subject, ThePort, TheHandle}
use Rattle.iox_model.specs.Loans.{loan_of, next_request, request_loan_refusal, response_loan_refusal, memory_refusal, lending_ways, unless_refused, Choice, Order}
use Rattle.iox_model.specs.Maps.{without_way}
use Rattle.iox_model.specs.Messages.{names, Message}
use Rattle.iox_model.specs.Moments.{moved, Moment, Deliver, Evict, Take, GiveBack, GetBack, SeesEmpty, SeesWaiting, SeesFull, SeesRoom, SeesNoneBack, Open, Close, Hint, Look}
use Rattle.iox_model.specs.Peers.{port_at, forgot_port}
use Rattle.iox_model.specs.Receives.{stale, took_response, took_request, took, server_ways, pending_ways}
use Rattle.iox_model.specs.Releases.{closing, returning, states_of}
use Rattle.iox_model.specs.Requests.{is_over}
use Rattle.iox_model.specs.Responses.{copies, lends_response, lending, lends_by, lends, shape_for, ordered}
use Rattle.iox_model.specs.Settings.{is_client, is_count}
use Rattle.iox_model.specs.States.{Port, Handle, Fixed, State}
use Rattle.iox_model.specs.Transitions.{next, ends}
use Rattle.iox_model.specs.Weaves.{wire_start, Beat, Makes}
use Rattle.iox_model.specs.WholeCalls.{left_by, MayCome}
use Rattle.iox_laws.proofs.WeaveLaws.MapLemmas.{either, same_way-refl, same_way-true}
use Rattle.iox_laws.proofs.WeaveLaws.WholeLemmas.{some-is}
use Rattle.iox_laws.proofs.WeaveLedger.Truths.{none-some}
use Rattle.iox_laws.proofs.WeaveLedger.Quiet.{IsQuiet, asked-quiet, emptying-quiet, looking-quiet, opening-quiet, loaning-quiet, sends-quiet, visiting-quiet, checking-quiet, checked-quiet, hinting-quiet, seeking-quiet}
use Rattle.iox_laws.specs.MessageLaws.Deliveries.{message_taken_from, messages_taken_from}
use Rattle.iox_laws.specs.MessageLaws.Lists.{IsOneOf}
use Rattle.iox_laws.proofs.MessageLaws.Lists.{one-front, one-back}

-- what is in hand was taken by these beats
abbrev pub IsTook : List Beat → Doing → Type 0
IsTook bs (Judging x w m left seen) = IsOneOf m (messages_taken_from w bs)
IsTook bs (Ended (Receives x w m)) = IsOneOf m (messages_taken_from w bs)
IsTook bs d = Unit {0}

quiet_took : (bs : List Beat) (d : Doing) → IsQuiet d → IsTook bs d
quiet_took bs (Judging x w m left seen) e = absurd (true≢false (sym e))
quiet_took bs (Ended (Receives x w m)) e = absurd (true≢false (sym e))
quiet_took bs d e = tt

-- ---- more beats

pub taken-front : (y : Way) (m : Message) (bs cs : List Beat) → IsOneOf m (messages_taken_from y bs) → IsOneOf m (messages_taken_from y (bs ++ cs))
taken-front y m bs cs p =
    subst (IsOneOf m) (sym (flat_map-append (message_taken_from y) bs cs)) (one-front m (messages_taken_from y bs) (messages_taken_from y cs) p)

pub taken-back : (y : Way) (m : Message) (bs cs : List Beat) → IsOneOf m (messages_taken_from y cs) → IsOneOf m (messages_taken_from y (bs ++ cs))
taken-back y m bs cs p =
    subst (IsOneOf m) (sym (flat_map-append (message_taken_from y) bs cs)) (one-back m (messages_taken_from y bs) (messages_taken_from y cs) p)

pub took-front : (bs cs : List Beat) (d : Doing) → IsTook bs d → IsTook (bs ++ cs) d
took-front bs cs (Judging x w m left seen) p = taken-front w m bs cs p
took-front bs cs (Ended (Receives x w m)) p = taken-front w m bs cs p
took-front bs cs d p = tt

-- a take is one of those taken on its way
just_taken : (bs : List Beat) (node : ℕ) (w : Way) (m : Message) → IsOneOf m (messages_taken_from w (bs ++ Makes node (Take w m) ∷ []))
just_taken bs node w m =
    taken-back w m bs (Makes node (Take w m) ∷ [])
    (subst (λ (b : Bool). IsOneOf m ((if b then m ∷ [] else []) ++ [])) (sym (same_way-refl w)) (inl refl))

-- ---- a moment

took_took : (bs : List Beat) (f : Fixed) (node : ℕ) (x : Receiver) (w : Way) (m : Message) (left : List Way) (seen : Bool)
    → IsOneOf m (messages_taken_from w bs) → IsTook bs (took f node x w m left seen)
took_took bs f node x w m left seen p =
    either (IsTook bs) (is_client x.role) (took_response f node x w m left seen) (took_request f x w m left seen)
    (λ u. either (IsTook bs) (m.request == x.request) (Ended (Receives x w m)) (stale f node x w m left seen) (λ v. p)
    (λ v. either (IsTook bs) (forgot_port f node w.sender) (Again x w left seen) (Stale x w m left seen) (λ i. tt) (λ i. tt)))
    (λ u. either (IsTook bs) f.limits.fire_and_forget (Ended (Receives x w m)) (Judging x w m left seen) (λ v. p) (λ v. p))

closing_took : (bs : List Beat) (h : Handle) (left : List Way) → IsTook bs (closing h left)
closing_took bs h [] = tt
closing_took bs h (w ∷ left) = tt

pub next_took : (bs : List Beat) (s : State) (node : ℕ) (d : Doing) (a : Moment) → (next s node d a).condition → IsTook bs d
    → IsTook (bs ++ Makes node a ∷ []) (next s node d a).after
next_took bs s node (Loaning copies h left) (GetBack w k) c p = tt
next_took bs s node (Loaning copies h left) (SeesNoneBack w) c p =
    quiet_took (bs ++ Makes node (SeesNoneBack w) ∷ []) _ (loaning-quiet s copies h (without_way w left))
next_took bs s node (Asking x) (Look w shown) c p = quiet_took (bs ++ Makes node (Look w shown) ∷ []) _ (asked-quiet x shown)
next_took bs s node (Emptying x left) (GetBack w k) c p = tt
next_took bs s node (Emptying x left) (SeesNoneBack w) c p = quiet_took (bs ++ Makes node (SeesNoneBack w) ∷ []) _ (emptying-quiet x (without_way w left))
next_took bs s node (Looking x left full) (SeesFull w) c p = quiet_took (bs ++ Makes node (SeesFull w) ∷ []) _ (looking-quiet x (without_way w left) (w ∷ full))
next_took bs s node (Looking x left full) (SeesRoom w) c p = quiet_took (bs ++ Makes node (SeesRoom w) ∷ []) _ (looking-quiet x (without_way w left) full)
next_took bs s node (Opening x left full) (Open w id) c p = quiet_took (bs ++ Makes node (Open w id) ∷ []) _ (opening-quiet x (without_way w left) full)
next_took bs s node (Delivering x last left count) (Deliver w m) c p = tt
next_took bs s node (Delivering x last left count) (Evict w) c p = tt
next_took bs s node (Evicted x v left count) (GetBack w k) c p = tt
next_took bs s node (Visiting x left seen) (SeesEmpty w) c p = quiet_took (bs ++ Makes node (SeesEmpty w) ∷ []) _ (visiting-quiet x (without_way w left) seen)
next_took bs s node (Visiting x left seen) (SeesWaiting w) c p =
    quiet_took (bs ++ Makes node (SeesWaiting w) ∷ []) _ (visiting-quiet x (without_way w left) true)
next_took bs s node (Visiting x left seen) (Take w m) c p =
    took_took (bs ++ Makes node (Take w m) ∷ []) s.fixed node x w m left seen (just_taken bs node w m)
next_took bs s node (Again x v left seen) (SeesEmpty w) c p = quiet_took (bs ++ Makes node (SeesEmpty w) ∷ []) _ (visiting-quiet x (without_way v left) seen)
next_took bs s node (Again x v left seen) (Take w m) c p =
    took_took (bs ++ Makes node (Take w m) ∷ []) s.fixed node x v m left seen
    (subst (λ u. IsOneOf m (messages_taken_from u (bs ++ Makes node (Take w m) ∷ []))) (same_way-true w v c) (just_taken bs node w m))
next_took bs s node (Judging x v m left seen) (Look w shown) c p =
    either (IsTook (bs ++ Makes node (Look w shown) ∷ [])) (names shown m.request) (Ended (Receives x v m)) (Stale x v m left seen)
    (λ u. taken-front v m bs (Makes node (Look w shown) ∷ []) p) (λ u. tt)
next_took bs s node (Stale x v m left seen) (GiveBack w k) c p = tt
next_took bs s node (Closing h left) (Close w id) c p = closing_took (bs ++ Makes node (Close w id) ∷ []) h (without_way w left)
next_took bs s node (Returning h) (GiveBack w k) c p =
    either (IsTook (bs ++ Makes node (GiveBack w k) ∷ [])) (same_kind h.kind ActiveRequest) (Leaving h) (Ended (Drops h)) (λ u. tt) (λ u. tt)
next_took bs s node (Leaving h) (Look w shown) c p = tt
next_took bs s node (Leaving h) (Close w id) c p = tt
next_took bs s node (Checking h hinted left) (Look w shown) c p = quiet_took (bs ++ Makes node (Look w shown) ∷ []) _ (checked-quiet h hinted left w shown)
next_took bs s node (Hinting h left) (Hint w id) c p = quiet_took (bs ++ Makes node (Hint w id) ∷ []) _ (hinting-quiet h (without_way w left))
next_took bs s node (Hinting h left) (Look w shown) c p = quiet_took (bs ++ Makes node (Look w shown) ∷ []) _ (hinting-quiet h (without_way w left))
next_took bs s node (Seeking left) (SeesEmpty w) c p = quiet_took (bs ++ Makes node (SeesEmpty w) ∷ []) _ (seeking-quiet (without_way w left))
next_took bs s node (Seeking left) (SeesWaiting w) c p = tt
next_took bs s node d a c p = absurd c

-- along the moments of a call
pub moments_took : (bs : List Beat) (s : State) (node : ℕ) (d : Doing) (ms : List Moment) → MayCome s node d ms → IsTook bs d
    → IsTook (bs ++ map (Makes node) ms) (left_by s node d ms)
moments_took bs s node d [] may p = subst (λ cs. IsTook cs d) (sym (append-nil bs)) p
moments_took bs s node d (m ∷ ms) may p =
    subst (λ cs. IsTook cs (left_by s node d (m ∷ ms))) (append_assoc bs (Makes node m ∷ []) (map (Makes node) ms))
    (moments_took (bs ++ Makes node m ∷ []) (moved s m) node (next s node d m).after ms may.2 (next_took bs s node d m may.1 p))

-- ---- the end

pub ended_took : (bs : List Beat) (s : State) (d : Doing) (o : Outcome) → ends s d ≡ Some o → IsTook bs d → IsTook bs (Ended o)
ended_took bs s (Ended a) o e p = subst (λ u. IsTook bs (Ended u)) (some-is a o e) p
ended_took bs s (Delivering x last [] count) o e p = by_case (is_over s last) e
  where
    by_case : (b : Bool) → (if b then None else Some (Sends x.loan x.copied count)) ≡ Some o → IsTook bs (Ended o)
    by_case true e = absurd (none-some o e)
    by_case false e = subst (λ u. IsTook bs (Ended u)) (some-is (Sends x.loan x.copied count) o e) tt
ended_took bs s (Delivering x last (v ∷ left) count) o e p = absurd (none-some o e)
ended_took bs s d o e p = absurd (none-some o e)

-- ---- the begin: nothing is in hand

unless_took : (bs : List Beat) (r : Option Refusal) (d : Doing) → IsTook bs d → IsTook bs (unless_refused r d)
unless_took bs (Some r) d p = tt
unless_took bs None d p = p

lending_took : (bs : List Beat) (s : State) (copies : Bool) (h : Handle) → IsTook bs (lending s copies h)
lending_took bs s copies h = quiet_took bs _ (loaning-quiet s copies h (lending_ways s.fixed h))

lends_by_took : (bs : List Beat) (s : State) (c : Choice) (x : Subject) (o : Order) → IsTook bs (lends_by s c x o)
lends_by_took bs s c (ThePort p) o =
    let h : Handle = loan_of s.fixed p o p.number c.lane (next_request s.fixed p.number) in
    unless_took bs (request_loan_refusal s.fixed p o.elements) (unless_refused (memory_refusal s c p.number) (lending s o.copies h))
    (unless_took bs (memory_refusal s c p.number) (lending s o.copies h) (lending_took bs s o.copies h))
lends_by_took bs s c (TheHandle h) o = by_case (port_at s.fixed h.port)
  where
    by_case : (q : Option Port) → IsTook bs (option_map_or (λ p. lends_response s c h p o) q (refused UnknownNumber))
    by_case None = tt
    by_case (Some p) =
        let l : Handle = loan_of s.fixed p o h.client h.lane h.request in
        unless_took bs (response_loan_refusal s.fixed h p o.elements) (unless_refused (memory_refusal s c p.number) (lending s o.copies l))
        (unless_took bs (memory_refusal s c p.number) (lending s o.copies l) (lending_took bs s o.copies l))

lends_took : (bs : List Beat) (s : State) (c : Choice) (x : Subject) (o : Order) → IsTook bs (lends s c x o)
lends_took bs s c x o =
    either (IsTook bs) (is_count (shape_for s.fixed x) o.elements) (lends_by s c x o) (refused WrongLength) (λ u. lends_by_took bs s c x o) (λ u. tt)

writes_took : (bs : List Beat) (h : Handle) (elements : Option ℕ) (words : List ℕ) → IsTook bs (writes h elements words)
writes_took bs h None words = tt
writes_took bs h (Some k) words =
    either (IsTook bs) (k == h.message.elements) (Ended (Fills (written h words))) (refused WrongLength) (λ u. tt) (λ u. tt)

releases_took : (bs : List Beat) (f : Fixed) (h : Handle)
    → IsTook bs (if is_received h.kind then returning f h else (if same_kind h.kind PendingResponse then closing h (states_of f h) else Ended (Drops h)))
releases_took bs f h =
    either (IsTook bs) (is_received h.kind) (returning f h) (if same_kind h.kind PendingResponse then closing h (states_of f h) else Ended (Drops h))
    (λ u. either (IsTook bs) (forgot_port f h.node (way_of h).sender) (Ended (Drops h)) (Returning h) (λ v. tt) (λ v. tt))
    (λ u. either (IsTook bs) (same_kind h.kind PendingResponse) (closing h (states_of f h)) (Ended (Drops h))
    (λ v. closing_took bs h (states_of f h)) (λ v. tt))

begins_took : (bs : List Beat) (s : State) (c : Choice) (call : Call) (x : Subject) → IsTook bs (begins_at s c call x)
begins_took bs s c (Loan n k) x = lends_took bs s c x (ordered k false)
begins_took bs s c (LoanUninit n k) x = lends_took bs s c x (ordered k true)
begins_took bs s c (Write n p) (TheHandle h) = writes_took bs h p.elements p.words
begins_took bs s c (Write n p) (ThePort q) = tt
begins_took bs s c (Send n) (TheHandle h) = quiet_took bs _ (sends-quiet s.fixed h false)
begins_took bs s c (Send n) (ThePort q) = tt
begins_took bs s c (SendCopy n p) x = by_case p.elements
  where
    by_case : (o : Option ℕ) → IsTook bs (copies s c x o p.words)
    by_case None = tt
    by_case (Some k) = lends_took bs s c x (record { elements = k; filled = k; payload = p.words; copies = true; uninit = false })
begins_took bs s c (Receive n) (ThePort p) = quiet_took bs _ (visiting-quiet _ (server_ways s.fixed p) false)
begins_took bs s c (Receive n) (TheHandle h) = quiet_took bs _ (visiting-quiet _ (pending_ways s.fixed h) false)
begins_took bs s c (Read n) (TheHandle h) =
    either (IsTook bs) c.memory (Ended (Tells (Words (h.message.user ++ h.message.payload)))) (refused WantOfMemory) (λ u. tt) (λ u. tt)
begins_took bs s c (Read n) (ThePort q) = tt
begins_took bs s c (Release n) (ThePort p) = tt
begins_took bs s c (Release n) (TheHandle h) = releases_took bs s.fixed h
begins_took bs s c (IsConnected n) (TheHandle h) = quiet_took bs _ (checking-quiet h false (states_of s.fixed h))
begins_took bs s c (IsConnected n) (ThePort q) = tt
begins_took bs s c (SetHint n) (TheHandle h) = quiet_took bs _ (hinting-quiet h (states_of s.fixed h))
begins_took bs s c (SetHint n) (ThePort q) = tt
begins_took bs s c (HasHint n) (TheHandle h) = quiet_took bs _ (checking-quiet h true (states_of s.fixed h))
begins_took bs s c (HasHint n) (ThePort q) = tt
begins_took bs s c (HasRequests n) (ThePort p) = quiet_took bs _ (seeking-quiet (server_ways s.fixed p))
begins_took bs s c (HasRequests n) (TheHandle h) = tt
begins_took bs s c (HasResponse n) (TheHandle h) = quiet_took bs _ (seeking-quiet (pending_ways s.fixed h))
begins_took bs s c (HasResponse n) (ThePort q) = tt

pub start_took : (bs : List Beat) (s : State) (node : ℕ) (c : Choice) (call : Call) → IsTook bs (start s node c call)
start_took bs s node c call = by_case (subject s.fixed node (number_of call))
  where
    by_case : (o : Option Subject) → IsTook bs (option_map_or (begins_at s c call) o (refused UnknownNumber))
    by_case None = tt
    by_case (Some x) = begins_took bs s c call x

pub wire_start_took : (bs : List Beat) (s : State) (node : ℕ) (c : Choice) (call : WireCall) → IsTook bs (wire_start s node c call)
wire_start_took bs s node c (wire_calls.Port call) = start_took bs s node c call
wire_start_took bs s node c (Forget dead) = tt
