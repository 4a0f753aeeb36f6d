-- The message that a call under way holds, before it is a handle's.
use Rattle.std.specs.Prelude.{◌≡◌, ℕ, Bool, true, false, ◌||◌, if◌then◌else◌, ◌==◌, List, [], ◌∷◌, ◌++◌, Option, Some, None, refl}
use Rattle.std.specs.List.{list_any}
use Rattle.std.specs.Option.{option_map_or}
use Rattle.std.proofs.Common.{sym, subst, ap, ◌∙◌, eqb-true, true≢false}
use Rattle.iox_model.specs.declared.kind.Role.TheVariants.{Client, Server}
use Rattle.iox_model.specs.declared.kind.Kind.TheVariants.{ActiveRequest, PendingResponse}
use Rattle.iox_model.specs.declared.way.Way.{Way}
use Rattle.iox_model.specs.declared.way.RequestState.{RequestState}
use Rattle.iox_model.specs.declared.call.Call.TheVariants.{Loan, LoanUninit, Write, Send, SendCopy, Receive, Read, Release, IsConnected, SetHint, HasHint, HasRequests, HasResponse}
use Rattle.iox_model.specs.declared.call.WireCall.TheVariants.{Forget}
use Rattle.iox_model.specs.declared.call.WireCall.TheVariants as wire_calls
use Rattle.iox_model.specs.declared.reply.Refusal.TheVariants.{UnknownNumber, OutOfMemory, WrongLength, WantOfMemory, ExceedsMaxActiveRequests, UnableToDeliver}
use Rattle.iox_model.specs.declared.reply.Reply.TheVariants.{Answer, Words}
use Rattle.iox_model.specs.Commands.{Refusal, Call, WireCall, number_of}
use Rattle.iox_model.specs.Doings.{refused, Receiver, Sending, Outcome, Tells, Loans, Fills, Sends, FailsToSend, Receives, Drops, Doing, Ended, Loaning, Asking, Emptying, Looking, Opening, Delivering, Evicted, Visiting, Again, Judging, Stale, Closing, Returning, Leaving, Checking, Hinting, Seeking}
use Rattle.iox_model.specs.Settings.{is_client, is_count}
use Rattle.iox_model.specs.States.{Port, Handle, Fixed, State}
use Rattle.iox_model.specs.Requests.{targets, to_open, sending_of, opening, looking, emptying, is_active_spent, sends_request, is_over}
use Rattle.iox_model.specs.Responses.{sends_response, asked, sends, loaning, lending, lends_request, lends_response, lends_by, lends, copies, shape_for, ordered}
use Rattle.iox_model.specs.Receives.{server_ways, pending_ways, visiting, stale, took_response, took_request, took, seeking}
use Rattle.iox_model.specs.Releases.{states_of, closing, returning, releases_handle}
use Rattle.iox_model.specs.Looks.{checking, is_shown, hinting}
use Rattle.iox_model.specs.Begins.{written, writes, begins_at}
use Rattle.iox_model.specs.Weaves.{wire_start}
use Rattle.iox_model.specs.Loans.{loan_of, next_request, request_loan_refusal, response_loan_refusal, memory_refusal, lending_ways, unless_refused, Choice, Order}
use Rattle.iox_model.specs.Handles.{is_request_loan, is_received, same_kind, way_of, subject, Subject, ThePort, TheHandle}
use Rattle.iox_model.specs.Maps.{has_number, without_way}
use Rattle.iox_model.specs.Messages.{names, Message}
use Rattle.iox_model.specs.Moments.{Moment, Deliver, Evict, Take, GiveBack, GetBack, SeesEmpty, SeesWaiting, SeesFull, SeesRoom, SeesNoneBack, Open, Close, Hint, Look}
use Rattle.iox_model.specs.Outstandings.{kept, is_dry}
use Rattle.iox_model.specs.Peers.{port_at, others, forgot_port}
use Rattle.iox_model.specs.Keeping.{serials_of_loan, serials_of_outcome, under_way}
use Rattle.iox_model.specs.Transitions.{next, ends}
use Rattle.iox_laws.proofs.WeaveLaws.MapLemmas.{either}
use Rattle.iox_laws.proofs.WeaveLaws.WholeLemmas.{some-is}
use Rattle.iox_laws.proofs.WeaveLedger.Truths.{none-some}

-- each of these serials is as it may be: the first number is the port's
abbrev pub AreSo : (ℕ → ℕ → Type 0) → (ℕ → List ℕ) → Type 0
AreSo Ok ks = (q k : ℕ) → has_number k (ks q) ≡ true → Ok q k

abbrev pub UnderIs : (ℕ → ℕ → Type 0) → Doing → Type 0
UnderIs Ok d = AreSo Ok (λ q. under_way q d)

abbrev pub LoanIs : (ℕ → ℕ → Type 0) → Handle → Bool → Type 0
LoanIs Ok h made = AreSo Ok (serials_of_loan h made)

pub none-so : (Ok : ℕ → ℕ → Type 0) → AreSo Ok (λ q. [])
none-so Ok q k e = absurd (true≢false (sym e))

-- ---- sends

opening-under : (Ok : ℕ → ℕ → Type 0) (x : Sending) (left full : List Way) → LoanIs Ok x.loan x.copied → UnderIs Ok (opening x left full)
opening-under Ok x [] full p = p
opening-under Ok x (w ∷ left) full p = p

looking-under : (Ok : ℕ → ℕ → Type 0) (x : Sending) (left full : List Way) → LoanIs Ok x.loan x.copied → UnderIs Ok (looking x left full)
looking-under Ok x [] full p =
    either (UnderIs Ok) (list_any x.fails full) (Ended (FailsToSend x.loan x.copied UnableToDeliver)) (opening x (to_open x) full)
    (λ u. p) (λ u. opening-under Ok x (to_open x) full p)
looking-under Ok x (w ∷ left) full p = p

emptying-under : (Ok : ℕ → ℕ → Type 0) (x : Sending) (left : List Way) → LoanIs Ok x.loan x.copied → UnderIs Ok (emptying x left)
emptying-under Ok x [] p =
    either (UnderIs Ok) x.overflow (opening x (to_open x) []) (looking x (targets x) [])
    (λ u. opening-under Ok x (to_open x) [] p) (λ u. looking-under Ok x (targets x) [] p)
emptying-under Ok x (w ∷ left) p = p

asked-under : (Ok : ℕ → ℕ → Type 0) (x : Sending) (shown : RequestState) → LoanIs Ok x.loan x.copied → UnderIs Ok (asked x shown)
asked-under Ok x shown p =
    either (UnderIs Ok) (names shown x.loan.request) (emptying x (targets x)) (Ended (Sends x.loan x.copied 0))
    (λ u. emptying-under Ok x (targets x) p) (λ u. p)

sends-under : (Ok : ℕ → ℕ → Type 0) (f : Fixed) (h : Handle) (copied : Bool) → LoanIs Ok h copied → UnderIs Ok (sends f h copied)
sends-under Ok f h copied p =
    either (UnderIs Ok) (is_request_loan h.kind) (sends_request f h copied (others f h.node Server)) (sends_response f h copied)
    (λ u. either (UnderIs Ok) (is_active_spent f h) (Ended (FailsToSend h copied ExceedsMaxActiveRequests))
    (emptying (sending_of f h copied (others f h.node Server)) _)
    (λ y. p) (λ y. emptying-under Ok (sending_of f h copied (others f h.node Server)) _ p))
    (λ u. either (UnderIs Ok) (has_number h.client (others f h.node Client)) (Asking (sending_of f h copied (h.client ∷ [])))
    (Ended (Sends h copied 0)) (λ y. p) (λ y. p))

loaning-under : (Ok : ℕ → ℕ → Type 0) (s : State) (copies : Bool) (h : Handle) (left : List Way)
    → (is_dry s.fixed h.port (kept s h.port []) ≡ false → LoanIs Ok h true)
    → UnderIs Ok (loaning s copies h left)
loaning-under Ok s copies h [] p =
    either (UnderIs Ok) (is_dry s.fixed h.port (kept s h.port [])) (refused OutOfMemory) (if copies then sends s.fixed h true else Ended (Loans h))
    (λ u. none-so Ok)
    (λ e. either (UnderIs Ok) copies (sends s.fixed h true) (Ended (Loans h)) (λ y. sends-under Ok s.fixed h true (p e)) (λ y. p e))
loaning-under Ok s copies h (w ∷ left) p = none-so Ok

-- ---- others hold none

visiting-under : (Ok : ℕ → ℕ → Type 0) (x : Receiver) (left : List Way) (seen : Bool) → UnderIs Ok (visiting x left seen)
visiting-under Ok x [] seen = none-so Ok
visiting-under Ok x (w ∷ left) seen = none-so Ok

took-under : (Ok : ℕ → ℕ → Type 0) (f : Fixed) (n : ℕ) (x : Receiver) (w : Way) (m : Message) (left : List Way) (seen : Bool)
    → UnderIs Ok (took f n x w m left seen)
took-under Ok f n x w m left seen =
    either (UnderIs Ok) (is_client x.role) (took_response f n x w m left seen) (took_request f x w m left seen)
    (λ u. either (UnderIs Ok) (m.request == x.request) (Ended (Receives x w m)) (stale f n x w m left seen) (λ y. none-so Ok)
    (λ y. either (UnderIs Ok) (forgot_port f n w.sender) (Again x w left seen) (Stale x w m left seen) (λ z. none-so Ok) (λ z. none-so Ok)))
    (λ u. either (UnderIs Ok) f.limits.fire_and_forget (Ended (Receives x w m)) (Judging x w m left seen) (λ y. none-so Ok) (λ y. none-so Ok))

closing-under : (Ok : ℕ → ℕ → Type 0) (h : Handle) (left : List Way) → UnderIs Ok (closing h left)
closing-under Ok h [] = none-so Ok
closing-under Ok h (w ∷ left) = none-so Ok

checking-under : (Ok : ℕ → ℕ → Type 0) (h : Handle) (hinted : Bool) (left : List Way) → UnderIs Ok (checking h hinted left)
checking-under Ok h hinted [] = none-so Ok
checking-under Ok h hinted (w ∷ left) = none-so Ok

hinting-under : (Ok : ℕ → ℕ → Type 0) (h : Handle) (left : List Way) → UnderIs Ok (hinting h left)
hinting-under Ok h [] = none-so Ok
hinting-under Ok h (w ∷ left) = none-so Ok

seeking-under : (Ok : ℕ → ℕ → Type 0) (left : List Way) → UnderIs Ok (seeking left)
seeking-under Ok [] = none-so Ok
seeking-under Ok (w ∷ left) = none-so Ok

-- ---- moments

-- what a loan holds once its pool gave it a message
abbrev pub PickIs : (ℕ → ℕ → Type 0) → State → Doing → Type 0
PickIs Ok s (Loaning copies h left) = is_dry s.fixed h.port (kept s h.port []) ≡ false → LoanIs Ok h true
PickIs Ok s d = Unit {0}

pub next-under : (Ok : ℕ → ℕ → Type 0) (s : State) (n : ℕ) (d : Doing) (m : Moment) → PickIs Ok s d → (next s n d m).condition → UnderIs Ok d
    → UnderIs Ok (next s n d m).after
next-under Ok s n (Loaning copies h left) (GetBack w k) pick c p = p
next-under Ok s n (Loaning copies h left) (SeesNoneBack w) pick c p = loaning-under Ok s copies h (without_way w left) pick
next-under Ok s n (Asking x) (Look w shown) pick c p = asked-under Ok x shown p
next-under Ok s n (Emptying x left) (GetBack w k) pick c p = p
next-under Ok s n (Emptying x left) (SeesNoneBack w) pick c p = emptying-under Ok x (without_way w left) p
next-under Ok s n (Looking x left full) (SeesFull w) pick c p = looking-under Ok x (without_way w left) (w ∷ full) p
next-under Ok s n (Looking x left full) (SeesRoom w) pick c p = looking-under Ok x (without_way w left) full p
next-under Ok s n (Opening x left full) (Open w id) pick c p = opening-under Ok x (without_way w left) full p
next-under Ok s n (Delivering x last left count) (Deliver w m) pick c p = p
next-under Ok s n (Delivering x last left count) (Evict w) pick c p = p
next-under Ok s n (Evicted x v left count) (GetBack w k) pick c p = p
next-under Ok s n (Visiting x left seen) (SeesEmpty w) pick c p = visiting-under Ok x (without_way w left) seen
next-under Ok s n (Visiting x left seen) (SeesWaiting w) pick c p = visiting-under Ok x (without_way w left) true
next-under Ok s n (Visiting x left seen) (Take w m) pick c p = took-under Ok s.fixed n x w m left seen
next-under Ok s n (Again x v left seen) (SeesEmpty w) pick c p = visiting-under Ok x (without_way v left) seen
next-under Ok s n (Again x v left seen) (Take w m) pick c p = took-under Ok s.fixed n x v m left seen
next-under Ok s n (Judging x v m left seen) (Look w shown) pick c p =
    either (UnderIs Ok) (names shown m.request) (Ended (Receives x v m)) (Stale x v m left seen) (λ u. none-so Ok) (λ u. none-so Ok)
next-under Ok s n (Stale x v m left seen) (GiveBack w k) pick c p = none-so Ok
next-under Ok s n (Closing h left) (Close w id) pick c p = closing-under Ok h (without_way w left)
next-under Ok s n (Returning h) (GiveBack w k) pick c p =
    either (UnderIs Ok) (same_kind h.kind ActiveRequest) (Leaving h) (Ended (Drops h)) (λ u. none-so Ok) (λ u. none-so Ok)
next-under Ok s n (Leaving h) (Look w shown) pick c p = none-so Ok
next-under Ok s n (Leaving h) (Close w id) pick c p = none-so Ok
next-under Ok s n (Checking h hinted left) (Look w shown) pick c p =
    either (UnderIs Ok) (is_shown h hinted shown) (Ended (Tells (Answer true))) (checking h hinted (without_way w left))
    (λ u. none-so Ok) (λ u. checking-under Ok h hinted (without_way w left))
next-under Ok s n (Hinting h left) (Hint w id) pick c p = hinting-under Ok h (without_way w left)
next-under Ok s n (Hinting h left) (Look w shown) pick c p = hinting-under Ok h (without_way w left)
next-under Ok s n (Seeking left) (SeesEmpty w) pick c p = seeking-under Ok (without_way w left)
next-under Ok s n (Seeking left) (SeesWaiting w) pick c p = none-so Ok
next-under Ok s n d m pick c p = absurd c

-- what a call ends with
pub ends-under : (Ok : ℕ → ℕ → Type 0) (s : State) (d : Doing) (o : Outcome) → ends s d ≡ Some o → UnderIs Ok d → UnderIs Ok (Ended o)
ends-under Ok s (Ended a) o e p = subst (λ (b : Outcome). UnderIs Ok (Ended b)) (some-is a o e) p
ends-under Ok s (Delivering x last [] count) o e p = by_case (is_over s last) e
  where
    by_case : (b : Bool) → (if b then None else Some (Sends x.loan x.copied count)) ≡ Some o → UnderIs Ok (Ended o)
    by_case true e = absurd (none-some o e)
    by_case false e = subst (λ (b : Outcome). UnderIs Ok (Ended b)) (some-is (Sends x.loan x.copied count) o e) p
ends-under Ok s d o e p = absurd (none-some o e)

-- ---- it stays until the call ends

opening-same : (q : ℕ) (x : Sending) (left full : List Way) → under_way q (opening x left full) ≡ serials_of_loan x.loan x.copied q
opening-same q x [] full = refl
opening-same q x (w ∷ left) full = refl

looking-same : (q : ℕ) (x : Sending) (left full : List Way) → under_way q (looking x left full) ≡ serials_of_loan x.loan x.copied q
looking-same q x [] full =
    either (λ (d : Doing). under_way q d ≡ serials_of_loan x.loan x.copied q) (list_any x.fails full) (Ended (FailsToSend x.loan x.copied UnableToDeliver))
    (opening x (to_open x) full) (λ u. refl) (λ u. opening-same q x (to_open x) full)
looking-same q x (w ∷ left) full = refl

emptying-same : (q : ℕ) (x : Sending) (left : List Way) → under_way q (emptying x left) ≡ serials_of_loan x.loan x.copied q
emptying-same q x [] =
    either (λ (d : Doing). under_way q d ≡ serials_of_loan x.loan x.copied q) x.overflow (opening x (to_open x) []) (looking x (targets x) [])
    (λ u. opening-same q x (to_open x) []) (λ u. looking-same q x (targets x) [])
emptying-same q x (w ∷ left) = refl

asked-same : (q : ℕ) (x : Sending) (shown : RequestState) → under_way q (asked x shown) ≡ serials_of_loan x.loan x.copied q
asked-same q x shown =
    either (λ (d : Doing). under_way q d ≡ serials_of_loan x.loan x.copied q) (names shown x.loan.request) (emptying x (targets x))
    (Ended (Sends x.loan x.copied 0))
    (λ u. emptying-same q x (targets x)) (λ u. refl)

-- a call that holds nothing, or keeps holding it
pub next-stays : (s : State) (n q k : ℕ) (d : Doing) (m : Moment) → (next s n d m).condition → has_number k (under_way q d) ≡ true
    → has_number k (under_way q (next s n d m).after) ≡ true
next-stays s n q k (Asking x) (Look w shown) c e = ap (has_number k) (asked-same q x shown) ∙ e
next-stays s n q k (Emptying x left) (GetBack w j) c e = e
next-stays s n q k (Emptying x left) (SeesNoneBack w) c e = ap (has_number k) (emptying-same q x (without_way w left)) ∙ e
next-stays s n q k (Looking x left full) (SeesFull w) c e = ap (has_number k) (looking-same q x (without_way w left) (w ∷ full)) ∙ e
next-stays s n q k (Looking x left full) (SeesRoom w) c e = ap (has_number k) (looking-same q x (without_way w left) full) ∙ e
next-stays s n q k (Opening x left full) (Open w id) c e = ap (has_number k) (opening-same q x (without_way w left) full) ∙ e
next-stays s n q k (Delivering x last left count) (Deliver w m) c e = e
next-stays s n q k (Delivering x last left count) (Evict w) c e = e
next-stays s n q k (Evicted x v left count) (GetBack w j) c e = e
next-stays s n q k (Loaning copies h left) m c e = absurd (true≢false (sym e))
next-stays s n q k (Visiting x left seen) m c e = absurd (true≢false (sym e))
next-stays s n q k (Again x v left seen) m c e = absurd (true≢false (sym e))
next-stays s n q k (Judging x v j left seen) m c e = absurd (true≢false (sym e))
next-stays s n q k (Stale x v j left seen) m c e = absurd (true≢false (sym e))
next-stays s n q k (Closing h left) m c e = absurd (true≢false (sym e))
next-stays s n q k (Returning h) m c e = absurd (true≢false (sym e))
next-stays s n q k (Leaving h) m c e = absurd (true≢false (sym e))
next-stays s n q k (Checking h hinted left) m c e = absurd (true≢false (sym e))
next-stays s n q k (Hinting h left) m c e = absurd (true≢false (sym e))
next-stays s n q k (Seeking left) m c e = absurd (true≢false (sym e))
next-stays s n q k d m c e = absurd c

pub ends-same : (s : State) (q : ℕ) (d : Doing) (o : Outcome) → ends s d ≡ Some o → under_way q d ≡ serials_of_outcome q o
ends-same s q (Ended a) o e = ap (serials_of_outcome q) (some-is a o e)
ends-same s q (Delivering x last [] count) o e = by_case (is_over s last) e
  where
    by_case : (b : Bool) → (if b then None else Some (Sends x.loan x.copied count)) ≡ Some o → serials_of_loan x.loan x.copied q ≡ serials_of_outcome q o
    by_case true e = absurd (none-some o e)
    by_case false e = ap (serials_of_outcome q) (some-is (Sends x.loan x.copied count) o e)
ends-same s q d o e = absurd (none-some o e)

-- ---- begins

-- the serial of the port's next loan, where its pool gives it
abbrev pub GivesNext : State → ℕ → ℕ → Type 0
GivesNext s q k = (k ≡ s.fixed.loans q) × (is_dry s.fixed q (kept s q []) ≡ false)

unless-under : (Ok : ℕ → ℕ → Type 0) (r : Option Refusal) (d : Doing) → UnderIs Ok d → UnderIs Ok (unless_refused r d)
unless-under Ok (Some r) d p = none-so Ok
unless-under Ok None d p = p

-- a loan that is made holds its serial, of its port
pub loan-serial : (h : Handle) (q k : ℕ) → has_number k (serials_of_loan h true q) ≡ true → (h.port ≡ q) × (h.message.serial ≡ k)
loan-serial h q k e = by_case (h.port == q) refl e
  where
    only : (b : Bool) → (b || false) ≡ true → b ≡ true
    only true e = refl
    only false e = e

    by_case : (b : Bool) → (h.port == q) ≡ b → has_number k (if b then h.message.serial ∷ [] else []) ≡ true → (h.port ≡ q) × (h.message.serial ≡ k)
    by_case true is e = (eqb-true h.port q is, eqb-true h.message.serial k (only (h.message.serial == k) e))
    by_case false is e = absurd (true≢false (sym e))

loan-next : (s : State) (p : Port) (o : Order) (client lane request : ℕ) → is_dry s.fixed p.number (kept s p.number []) ≡ false
    → LoanIs (GivesNext s) (loan_of s.fixed p o client lane request) true
loan-next s p o client lane request free q k e =
    let r : (p.number ≡ q) × (s.fixed.loans p.number ≡ k) = loan-serial (loan_of s.fixed p o client lane request) q k e in
    (sym r.1 ∙ ap s.fixed.loans r.0, subst (λ j. is_dry s.fixed j (kept s j []) ≡ false) r.0 free)

lends_request-under : (s : State) (c : Choice) (p : Port) (o : Order) → UnderIs (GivesNext s) (lends_request s c p o)
lends_request-under s c p o =
    let h : Handle = loan_of s.fixed p o p.number c.lane (next_request s.fixed p.number) in
    unless-under (GivesNext s) (request_loan_refusal s.fixed p o.elements) (unless_refused (memory_refusal s c p.number) (lending s o.copies h))
    (unless-under (GivesNext s) (memory_refusal s c p.number) (lending s o.copies h)
    (loaning-under (GivesNext s) s o.copies h (lending_ways s.fixed h) (loan-next s p o p.number c.lane (next_request s.fixed p.number))))

lends_response-under : (s : State) (c : Choice) (h : Handle) (p : Port) (o : Order) → UnderIs (GivesNext s) (lends_response s c h p o)
lends_response-under s c h p o =
    let l : Handle = loan_of s.fixed p o h.client h.lane h.request in
    unless-under (GivesNext s) (response_loan_refusal s.fixed h p o.elements) (unless_refused (memory_refusal s c p.number) (lending s o.copies l))
    (unless-under (GivesNext s) (memory_refusal s c p.number) (lending s o.copies l)
    (loaning-under (GivesNext s) s o.copies l (lending_ways s.fixed l) (loan-next s p o h.client h.lane h.request)))

lends-under : (s : State) (c : Choice) (x : Subject) (o : Order) → UnderIs (GivesNext s) (lends s c x o)
lends-under s c x o =
    either (UnderIs (GivesNext s)) (is_count (shape_for s.fixed x) o.elements) (lends_by s c x o) (refused WrongLength)
    (λ u. by_subject x) (λ u. none-so (GivesNext s))
  where
    by_port : (h : Handle) (q : Option Port) → UnderIs (GivesNext s) (option_map_or (λ p. lends_response s c h p o) q (refused UnknownNumber))
    by_port h None = none-so (GivesNext s)
    by_port h (Some p) = lends_response-under s c h p o

    by_subject : (y : Subject) → UnderIs (GivesNext s) (lends_by s c y o)
    by_subject (ThePort p) = lends_request-under s c p o
    by_subject (TheHandle h) = by_port h (port_at s.fixed h.port)

copies-under : (s : State) (c : Choice) (x : Subject) (k : Option ℕ) (words : List ℕ) → UnderIs (GivesNext s) (copies s c x k words)
copies-under s c x None words = none-so (GivesNext s)
copies-under s c x (Some k) words = lends-under s c x (record { elements = k; filled = k; payload = words; copies = true; uninit = false })

writes-under : (Ok : ℕ → ℕ → Type 0) (h : Handle) (k : Option ℕ) (words : List ℕ) → UnderIs Ok (writes h k words)
writes-under Ok h None words = none-so Ok
writes-under Ok h (Some k) words =
    either (UnderIs Ok) (k == h.message.elements) (Ended (Fills (written h words))) (refused WrongLength) (λ u. none-so Ok) (λ u. none-so Ok)

releases-under : (Ok : ℕ → ℕ → Type 0) (f : Fixed) (h : Handle) → UnderIs Ok (releases_handle f h)
releases-under Ok f h =
    either (UnderIs Ok) (is_received h.kind) (returning f h)
    (if same_kind h.kind PendingResponse then closing h (states_of f h) else Ended (Drops h))
    (λ u. either (UnderIs Ok) (forgot_port f h.node (way_of h).sender) (Ended (Drops h)) (Returning h) (λ y. none-so Ok) (λ y. none-so Ok))
    (λ u. either (UnderIs Ok) (same_kind h.kind PendingResponse) (closing h (states_of f h)) (Ended (Drops h))
    (λ y. closing-under Ok h (states_of f h)) (λ y. none-so Ok))

begins-under : (s : State) (c : Choice) (call : Call) (x : Subject) → UnderIs (GivesNext s) (begins_at s c call x)
begins-under s c (Loan k l) x = lends-under s c x (ordered l false)
begins-under s c (LoanUninit k l) x = lends-under s c x (ordered l true)
begins-under s c (Write k p) (TheHandle h) = writes-under (GivesNext s) h p.elements p.words
begins-under s c (Send k) (TheHandle h) = sends-under (GivesNext s) s.fixed h false (none-so (GivesNext s))
begins-under s c (SendCopy k p) x = copies-under s c x p.elements p.words
begins-under s c (Receive k) (ThePort p) =
    visiting-under (GivesNext s) (record { port = p.number; role = Server; lane = 0; request = 0 }) (server_ways s.fixed p) false
begins-under s c (Receive k) (TheHandle h) =
    visiting-under (GivesNext s) (record { port = h.port; role = Client; lane = h.lane; request = h.request }) (pending_ways s.fixed h) false
begins-under s c (Read k) (TheHandle h) =
    either (UnderIs (GivesNext s)) c.memory (Ended (Tells (Words (h.message.user ++ h.message.payload)))) (refused WantOfMemory)
    (λ u. none-so (GivesNext s)) (λ u. none-so (GivesNext s))
begins-under s c (Release k) (ThePort p) = none-so (GivesNext s)
begins-under s c (Release k) (TheHandle h) = releases-under (GivesNext s) s.fixed h
begins-under s c (IsConnected k) (TheHandle h) = checking-under (GivesNext s) h false (states_of s.fixed h)
begins-under s c (SetHint k) (TheHandle h) = hinting-under (GivesNext s) h (states_of s.fixed h)
begins-under s c (HasHint k) (TheHandle h) = checking-under (GivesNext s) h true (states_of s.fixed h)
begins-under s c (HasRequests k) (ThePort p) = seeking-under (GivesNext s) (server_ways s.fixed p)
begins-under s c (HasResponse k) (TheHandle h) = seeking-under (GivesNext s) (pending_ways s.fixed h)
begins-under s c call x = none-so (GivesNext s)

pub start-under : (s : State) (n : ℕ) (c : Choice) (call : WireCall) → UnderIs (GivesNext s) (wire_start s n c call)
start-under s n c (wire_calls.Port call) = by_subject (subject s.fixed n (number_of call))
  where
    by_subject : (x : Option Subject) → UnderIs (GivesNext s) (option_map_or (begins_at s c call) x (refused UnknownNumber))
    by_subject None = none-so (GivesNext s)
    by_subject (Some x) = begins-under s c call x
start-under s n c (Forget dead) = none-so (GivesNext s)
