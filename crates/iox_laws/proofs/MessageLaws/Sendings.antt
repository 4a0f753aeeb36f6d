-- What a call delivers is the message that it sends.
use Rattle.std.specs.Prelude.{◌≡◌, ℕ, Bool, true, false, if◌then◌else◌, ◌==◌, List, ◌++◌, Option, Some, None, refl}
use Rattle.std.specs.Option.{option_map_or}
use Rattle.std.proofs.Common.{ap, ◌∙◌}
use Rattle.iox_model.specs.declared.call.Call.TheVariants.{Loan, LoanUninit, Write, Send, SendCopy, Receive, Read, Release, IsConnected, SetHint, HasHint, HasRequests, HasResponse}
use Rattle.iox_model.specs.declared.kind.Kind.TheVariants.{PendingResponse}
use Rattle.iox_model.specs.declared.reply.Refusal.TheVariants.{UnknownNumber, WrongLength, WantOfMemory}
use Rattle.iox_model.specs.declared.reply.Reply.TheVariants.{Words}
use Rattle.iox_model.specs.declared.way.Way.{Way}
use Rattle.iox_model.specs.Begins.{written, writes, begins_at, start}
use Rattle.iox_model.specs.Commands.{Refusal, Reply, Call, Payload, number_of}
use Rattle.iox_model.specs.Doings.{refused, Tells, Fills, Drops, Doing, Ended, Returning}
use Rattle.iox_model.specs.Handles.{same_kind, is_received, way_of, subject, Subject, ThePort, TheHandle}
use Rattle.iox_model.specs.Loans.{loan_of, next_message, next_request, request_loan_refusal, response_loan_refusal, memory_refusal, lending_ways, unless_refused, Choice, Order}
use Rattle.iox_model.specs.Messages.{Message}
use Rattle.iox_model.specs.Names.{misnamed}
use Rattle.iox_model.specs.Peers.{port_at, forgot_port}
use Rattle.iox_model.specs.Receives.{server_ways, pending_ways}
use Rattle.iox_model.specs.Releases.{closing, returning, states_of}
use Rattle.iox_model.specs.Responses.{copies, lends_response, lending, lends_by, lends, shape_for, ordered}
use Rattle.iox_model.specs.Settings.{is_count}
use Rattle.iox_model.specs.States.{Port, Handle, Fixed, State}
use Rattle.iox_model.specs.Weaves.{Beat}
use Rattle.iox_model.specs.WholeCalls.{UnlessRefused, spent, IsDone}
use Rattle.iox_laws.proofs.WeaveLaws.MapLemmas.{either}
use Rattle.iox_laws.specs.RunLaws.Traces as traces
use Rattle.iox_laws.specs.MessageLaws.Deliveries.{messages_put_on}
use Rattle.iox_laws.specs.MessageLaws.Lists.{IsOneOf}
use Rattle.iox_laws.specs.MessageLaws.Sendings.{own_message, copied_message, sent_message, DeliversWhatIsSent}
use Rattle.iox_laws.proofs.MessageLaws.Carries.{Carries, IfCopies, sends_carries, loaning_carries, visiting_carries, closing_carries, checking_carries, hinting_carries, seeking_carries, moments_put}
use Rattle.iox_laws.specs.CallFunctions.Copies.{copied_order}

-- ---- loans

unless_carries : (P : Message → Type 0) (r : Option Refusal) (d : Doing) → Carries P d → Carries P (unless_refused r d)
unless_carries P (Some r) d p = tt
unless_carries P None d p = p

-- a loan that is to be copied has the message of the words
abbrev LendsRight : (Message → Type 0) → State → Choice → Order → Subject → Type 0
LendsRight P s c o x = (m : Message) → copied_message s.fixed c.lane o x ≡ Some m → P m

if_copies : (P : Message → Type 0) (s : State) (c : Choice) (x : Subject) (o : Order) (m : Message) → IfCopies (LendsRight P s c o x) o.copies
    → copied_message s.fixed c.lane o x ≡ Some m → IfCopies (P m) o.copies
if_copies P s c x o m = by_case o.copies
  where
    by_case : (b : Bool) → IfCopies (LendsRight P s c o x) b → copied_message s.fixed c.lane o x ≡ Some m → IfCopies (P m) b
    by_case true right e = right m e
    by_case false right e = tt

lends_by_carries : (P : Message → Type 0) (s : State) (c : Choice) (x : Subject) (o : Order) → IfCopies (LendsRight P s c o x) o.copies
    → Carries P (lends_by s c x o)
lends_by_carries P s c (ThePort p) o right =
    let h : Handle = loan_of s.fixed p o p.number c.lane (next_request s.fixed p.number) in
    unless_carries P (request_loan_refusal s.fixed p o.elements) (unless_refused (memory_refusal s c p.number) (lending s o.copies h))
    (unless_carries P (memory_refusal s c p.number) (lending s o.copies h)
    (loaning_carries P s o.copies h (lending_ways s.fixed h) (if_copies P s c (ThePort p) o h.message right refl)))
lends_by_carries P s c (TheHandle h) o right = by_case (port_at s.fixed h.port) refl
  where
    by_case : (q : Option Port) → port_at s.fixed h.port ≡ q → Carries P (option_map_or (λ p. lends_response s c h p o) q (refused UnknownNumber))
    by_case None e = tt
    by_case (Some p) e =
        let l : Handle = loan_of s.fixed p o h.client h.lane h.request in
        unless_carries P (response_loan_refusal s.fixed h p o.elements) (unless_refused (memory_refusal s c p.number) (lending s o.copies l))
        (unless_carries P (memory_refusal s c p.number) (lending s o.copies l)
        (loaning_carries P s o.copies l (lending_ways s.fixed l) (if_copies P s c (TheHandle h) o l.message right
        (ap (λ a. option_map_or (λ k. Some (next_message s.fixed k o h.lane h.request)) a None) e))))

lends_carries : (P : Message → Type 0) (s : State) (c : Choice) (x : Subject) (o : Order) → IfCopies (LendsRight P s c o x) o.copies
    → Carries P (lends s c x o)
lends_carries P s c x o right =
    either (Carries P) (is_count (shape_for s.fixed x) o.elements) (lends_by s c x o) (refused WrongLength) (λ u. lends_by_carries P s c x o right) (λ u. tt)

-- ---- the begin of a call

writes_carries : (P : Message → Type 0) (h : Handle) (elements : Option ℕ) (words : List ℕ) → Carries P (writes h elements words)
writes_carries P h None words = tt
writes_carries P h (Some k) words =
    either (Carries P) (k == h.message.elements) (Ended (Fills (written h words))) (refused WrongLength) (λ u. tt) (λ u. tt)

releases_carries : (P : Message → Type 0) (f : Fixed) (h : Handle)
    → Carries P (if is_received h.kind then returning f h else (if same_kind h.kind PendingResponse then closing h (states_of f h) else Ended (Drops h)))
releases_carries P f h =
    either (Carries P) (is_received h.kind) (returning f h) (if same_kind h.kind PendingResponse then closing h (states_of f h) else Ended (Drops h))
    (λ u. either (Carries P) (forgot_port f h.node (way_of h).sender) (Ended (Drops h)) (Returning h) (λ v. tt) (λ v. tt))
    (λ u. either (Carries P) (same_kind h.kind PendingResponse) (closing h (states_of f h)) (Ended (Drops h))
    (λ v. closing_carries P h (states_of f h)) (λ v. tt))

-- this is what the call sends
abbrev pub IsSent : State → ℕ → Choice → Call → Message → Type 0
IsSent s node c call m = sent_message s.fixed node c.lane call ≡ Some m

copies_carries : (s : State) (node n : ℕ) (c : Choice) (p : Payload) (x : Subject) → subject s.fixed node n ≡ Some x
    → Carries (IsSent s node c (SendCopy n p)) (copies s c x p.elements p.words)
copies_carries s node n c p x is = by_case p.elements refl
  where
    by_case : (o : Option ℕ) → p.elements ≡ o → Carries (IsSent s node c (SendCopy n p)) (copies s c x o p.words)
    by_case None e = tt
    by_case (Some k) e =
        lends_carries (IsSent s node c (SendCopy n p)) s c x (copied_order k p.words)
        (λ m same.
        ap (λ a. option_map_or (λ j. option_map_or (copied_message s.fixed c.lane (copied_order j p.words)) (subject s.fixed node n) None) a None) e
        ∙ ap (λ a. option_map_or (copied_message s.fixed c.lane (copied_order k p.words)) a None) is ∙ same)

begins_carries : (s : State) (node : ℕ) (c : Choice) (call : Call) (x : Subject) → subject s.fixed node (number_of call) ≡ Some x
    → Carries (IsSent s node c call) (begins_at s c call x)
begins_carries s node c (Loan n k) x is = lends_carries (IsSent s node c (Loan n k)) s c x (ordered k false) tt
begins_carries s node c (LoanUninit n k) x is = lends_carries (IsSent s node c (LoanUninit n k)) s c x (ordered k true) tt
begins_carries s node c (Write n p) (TheHandle h) is = writes_carries (IsSent s node c (Write n p)) h p.elements p.words
begins_carries s node c (Write n p) (ThePort q) is = tt
begins_carries s node c (Send n) (TheHandle h) is =
    sends_carries (IsSent s node c (Send n)) s.fixed h false (ap (λ a. option_map_or own_message a None) is)
begins_carries s node c (Send n) (ThePort q) is = tt
begins_carries s node c (SendCopy n p) x is = copies_carries s node n c p x is
begins_carries s node c (Receive n) (ThePort p) is = visiting_carries (IsSent s node c (Receive n)) _ (server_ways s.fixed p) false
begins_carries s node c (Receive n) (TheHandle h) is = visiting_carries (IsSent s node c (Receive n)) _ (pending_ways s.fixed h) false
begins_carries s node c (Read n) (TheHandle h) is =
    either (Carries (IsSent s node c (Read n))) c.memory (Ended (Tells (Words (h.message.user ++ h.message.payload)))) (refused WantOfMemory)
    (λ u. tt) (λ u. tt)
begins_carries s node c (Read n) (ThePort q) is = tt
begins_carries s node c (Release n) (ThePort p) is = tt
begins_carries s node c (Release n) (TheHandle h) is = releases_carries (IsSent s node c (Release n)) s.fixed h
begins_carries s node c (IsConnected n) (TheHandle h) is = checking_carries (IsSent s node c (IsConnected n)) h false (states_of s.fixed h)
begins_carries s node c (IsConnected n) (ThePort q) is = tt
begins_carries s node c (SetHint n) (TheHandle h) is = hinting_carries (IsSent s node c (SetHint n)) h (states_of s.fixed h)
begins_carries s node c (SetHint n) (ThePort q) is = tt
begins_carries s node c (HasHint n) (TheHandle h) is = checking_carries (IsSent s node c (HasHint n)) h true (states_of s.fixed h)
begins_carries s node c (HasHint n) (ThePort q) is = tt
begins_carries s node c (HasRequests n) (ThePort p) is = seeking_carries (IsSent s node c (HasRequests n)) (server_ways s.fixed p)
begins_carries s node c (HasRequests n) (TheHandle h) is = tt
begins_carries s node c (HasResponse n) (TheHandle h) is = seeking_carries (IsSent s node c (HasResponse n)) (pending_ways s.fixed h)
begins_carries s node c (HasResponse n) (ThePort q) is = tt

pub start_carries : (s : State) (node : ℕ) (c : Choice) (call : Call) → Carries (IsSent s node c call) (start s node c call)
start_carries s node c call = by_case (subject s.fixed node (number_of call)) refl
  where
    by_case : (o : Option Subject) → subject s.fixed node (number_of call) ≡ o
        → Carries (IsSent s node c call) (option_map_or (begins_at s c call) o (refused UnknownNumber))
    by_case None e = tt
    by_case (Some x) e = begins_carries s node c call x e

-- ---- the whole call

-- on one lane, all that the beats put on any way is what the call sends
abbrev PutsWhatIsSent : State → ℕ → Call → List Beat → Type 0
PutsWhatIsSent s node call bs =
    (lane : ℕ) × ((y : Way) (m : Message) → IsOneOf m (messages_put_on y bs) → sent_message s.fixed node lane call ≡ Some m)

unless_puts : (s : State) (node : ℕ) (call : Call) (r : Option Refusal) (reply : Reply) (t : State) (Q : Type 0) (beats : Q → List Beat)
    → ((q : Q) → PutsWhatIsSent s node call (beats q)) → (u : UnlessRefused r s reply t Q)
    → PutsWhatIsSent s node call (traces.unless_refused r s reply t Q beats u)
unless_puts s node call (Some x) reply t Q beats f u = (0, λ y m among. absurd among)
unless_puts s node call None reply t Q beats f u = f u

pub delivers_what_is_sent : DeliversWhatIsSent
delivers_what_is_sent s t node call reply =
    let Q : Type 0 = IsDone s node call reply t in
    unless_puts s node call (misnamed s.fixed node call) reply t (UnlessRefused (spent s.fixed call) s reply t Q)
    (traces.unless_refused (spent s.fixed call) s reply t Q (traces.beats_of_done s node call reply t))
    (unless_puts s node call (spent s.fixed call) reply t Q (traces.beats_of_done s node call reply t)
    (λ done. (
      (done.0).lane,
      λ y m. moments_put (IsSent s node done.0 call) s node (start s node done.0 call) done.2 y m done.3 (start_carries s node done.0 call),
    )))
