-- Each moment of a call keeps what its counts were at its tests.
use Rattle.std.specs.Prelude.{◌≡◌, ℕ, ◌<◌, Bool, true, false, if◌then◌else◌, ◌==◌, List, [], ◌∷◌, Some, None, refl}
use Rattle.std.specs.List.{list_any}
use Rattle.std.proofs.Common.{sym, subst, ◌∙◌, true≢false}
use Rattle.iox_model.specs.declared.kind.Role.TheVariants.{Client, Server}
use Rattle.iox_model.specs.declared.kind.Kind.TheVariants.{ActiveRequest}
use Rattle.iox_model.specs.declared.way.Way.{Way}
use Rattle.iox_model.specs.declared.way.RequestState.{RequestState}
use Rattle.iox_model.specs.declared.reply.Refusal.TheVariants.{OutOfMemory, ExceedsMaxActiveRequests, ExceedsMaxBorrows, UnableToDeliver}
use Rattle.iox_model.specs.declared.reply.Reply.TheVariants.{Nothing, Answer, Refused}
use Rattle.iox_model.specs.Commands.{Reply}
use Rattle.iox_model.specs.Doings.{refused, Receiver, Sending, Outcome, Tells, Loans, Sends, FailsToSend, Receives, Drops, Doing, Ended, Loaning, Asking, Emptying, Looking, Opening, Delivering, Evicted, Visiting, Again, Judging, Stale, Closing, Returning, Leaving, Checking, Hinting, Seeking}
use Rattle.iox_model.specs.Settings.{is_client}
use Rattle.iox_model.specs.States.{Handle, Fixed, State}
use Rattle.iox_model.specs.Requests.{to_open, sending_of, opening, looking, emptying, is_active_spent, sends_request, is_over, targets}
use Rattle.iox_model.specs.Responses.{sends_response, asked, sends, loaning}
use Rattle.iox_model.specs.Receives.{visiting, stale, took_response, took_request, took, seeking}
use Rattle.iox_model.specs.Releases.{closing, given_back}
use Rattle.iox_model.specs.Looks.{checking, checked, is_shown, hinting}
use Rattle.iox_model.specs.Handles.{is_request_loan, same_kind}
use Rattle.iox_model.specs.Maps.{has_number, without_way}
use Rattle.iox_model.specs.Messages.{names, Message}
use Rattle.iox_model.specs.Outstandings.{kept, is_dry}
use Rattle.iox_model.specs.Peers.{others, forgot_port}
use Rattle.iox_model.specs.Moments.{Moment, Deliver, Evict, Take, GiveBack, GetBack, SeesEmpty, SeesWaiting, SeesFull, SeesRoom, SeesNoneBack, Open, Close, Hint, Look}
use Rattle.iox_model.specs.Transitions.{next, ends}
use Rattle.iox_laws.proofs.WeaveLaws.MapLemmas.{either}
use Rattle.iox_laws.proofs.WeaveLaws.WholeLemmas.{some-is}
use Rattle.iox_laws.proofs.WeaveLedger.Orders.{less}
use Rattle.iox_laws.proofs.WeaveLedger.Truths.{none-some}
use Rattle.iox_laws.proofs.WeaveLedger.Views.{View, view, IsAt}
use Rattle.iox_laws.proofs.WeavePools.Spare.{is_pending, count-is, SpareLoan, SparePending, IsOfRole, SpareOutcome, SpareDoing}

-- ---- sends

opening-spare : (v : View) (gone : ℕ → Type 0) (out : Type 0) (x : Sending) (left full : List Way) → SparePending v x.loan
    → SpareDoing v gone out (opening x left full)
opening-spare v gone out x [] full p = p
opening-spare v gone out x (w ∷ left) full p = p

looking-spare : (v : View) (gone : ℕ → Type 0) (out : Type 0) (x : Sending) (left full : List Way) → SparePending v x.loan
    → SpareDoing v gone out (looking x left full)
looking-spare v gone out x [] full p =
    either (SpareDoing v gone out) (list_any x.fails full) (Ended (FailsToSend x.loan x.copied UnableToDeliver)) (opening x (to_open x) full)
    (λ u. tt) (λ u. opening-spare v gone out x (to_open x) full p)
looking-spare v gone out x (w ∷ left) full p = p

emptying-spare : (v : View) (gone : ℕ → Type 0) (out : Type 0) (x : Sending) (left : List Way) → SparePending v x.loan → SpareDoing v gone out (emptying x left)
emptying-spare v gone out x [] p =
    either (SpareDoing v gone out) x.overflow (opening x (to_open x) []) (looking x (targets x) [])
    (λ u. opening-spare v gone out x (to_open x) [] p) (λ u. looking-spare v gone out x (targets x) [] p)
emptying-spare v gone out x (w ∷ left) p = p

asked-spare : (v : View) (gone : ℕ → Type 0) (out : Type 0) (x : Sending) (shown : RequestState) → SparePending v x.loan → SpareDoing v gone out (asked x shown)
asked-spare v gone out x shown p =
    either (SpareDoing v gone out) (names shown x.loan.request) (emptying x (targets x)) (Ended (Sends x.loan x.copied 0))
    (λ u. emptying-spare v gone out x (targets x) p) (λ u. p)

-- the count is below its limit where the limit is not spent
spare-pending : (f : Fixed) (n : ℕ) (h : Handle) → IsAt f.ports h.port n → is_active_spent f h ≡ false → SparePending (view f n) h
spare-pending f n h at e u = subst (λ k. k < f.limits.active_requests) (count-is f n h.port is_pending at) (less _ _ e)

request-spare : (f : Fixed) (n : ℕ) (gone : ℕ → Type 0) (out : Type 0) (h : Handle) (copied : Bool) (to : List ℕ) → IsAt f.ports h.port n
    → SpareDoing (view f n) gone out (sends_request f h copied to)
request-spare f n gone out h copied to at =
    either (SpareDoing (view f n) gone out) (is_active_spent f h) (Ended (FailsToSend h copied ExceedsMaxActiveRequests))
    (emptying (sending_of f h copied to) _) (λ u. tt)
    (λ e. emptying-spare (view f n) gone out (sending_of f h copied to) _ (spare-pending f n h at e))

response-spare : (f : Fixed) (n : ℕ) (gone : ℕ → Type 0) (out : Type 0) (h : Handle) (copied : Bool) → is_request_loan h.kind ≡ false
    → SpareDoing (view f n) gone out (sends_response f h copied)
response-spare f n gone out h copied other =
    either (SpareDoing (view f n) gone out) (has_number h.client (others f h.node Client)) (Asking (sending_of f h copied (h.client ∷ [])))
    (Ended (Sends h copied 0))
    (λ u e. absurd (true≢false (sym e ∙ other))) (λ u e. absurd (true≢false (sym e ∙ other)))

pub sends-spare : (f : Fixed) (n : ℕ) (gone : ℕ → Type 0) (out : Type 0) (h : Handle) (copied : Bool) → IsAt f.ports h.port n
    → SpareDoing (view f n) gone out (sends f h copied)
sends-spare f n gone out h copied at =
    either (SpareDoing (view f n) gone out) (is_request_loan h.kind) (sends_request f h copied (others f h.node Server)) (sends_response f h copied)
    (λ u. request-spare f n gone out h copied (others f h.node Server) at) (λ e. response-spare f n gone out h copied e)

pub loaning-spare : (s : State) (n : ℕ) (gone : ℕ → Type 0) (out : Type 0) (copies : Bool) (h : Handle) (left : List Way) → IsAt s.fixed.ports h.port n
    → (left ≡ [] → is_dry s.fixed h.port (kept s h.port []) ≡ true → out) → SpareLoan (view s.fixed n) h.port
    → SpareDoing (view s.fixed n) gone out (loaning s copies h left)
loaning-spare s n gone out copies h [] at dry p =
    either (SpareDoing (view s.fixed n) gone out) (is_dry s.fixed h.port (kept s h.port [])) (refused OutOfMemory)
    (if copies then sends s.fixed h true else Ended (Loans h))
    (λ e. dry refl e)
    (λ u. either (SpareDoing (view s.fixed n) gone out) copies (sends s.fixed h true) (Ended (Loans h))
    (λ y. sends-spare s.fixed n gone out h true at) (λ y. tt))
loaning-spare s n gone out copies h (w ∷ left) at dry p = p

-- ---- receives

pub visiting-spare : (v : View) (gone : ℕ → Type 0) (out : Type 0) (x : Receiver) (left : List Way) (seen : Bool) → IsOfRole v x
    → SpareDoing v gone out (visiting x left seen)
visiting-spare v gone out x [] seen p =
    either (λ (r : Reply). SpareDoing v gone out (Ended (Tells r))) seen (Refused ExceedsMaxBorrows) Nothing (λ u. tt) (λ u. tt)
visiting-spare v gone out x (w ∷ left) seen p = p

took-spare : (v : View) (gone : ℕ → Type 0) (out : Type 0) (f : Fixed) (n : ℕ) (x : Receiver) (w : Way) (m : Message) (left : List Way) (seen : Bool)
    → IsOfRole v x
    → SpareDoing v gone out (took f n x w m left seen)
took-spare v gone out f n x w m left seen p =
    either (SpareDoing v gone out) (is_client x.role) (took_response f n x w m left seen) (took_request f x w m left seen)
    (λ u. either (SpareDoing v gone out) (m.request == x.request) (Ended (Receives x w m)) (stale f n x w m left seen) (λ y. p)
    (λ y. either (SpareDoing v gone out) (forgot_port f n w.sender) (Again x w left seen) (Stale x w m left seen) (λ z. p) (λ z. p)))
    (λ u. either (SpareDoing v gone out) f.limits.fire_and_forget (Ended (Receives x w m)) (Judging x w m left seen) (λ y. p) (λ y. p))

-- ---- others

pub closing-spare : (v : View) (gone : ℕ → Type 0) (out : Type 0) (h : Handle) (left : List Way) → SpareDoing v gone out (closing h left)
closing-spare v gone out h [] = tt
closing-spare v gone out h (w ∷ left) = tt

given_back-spare : (v : View) (gone : ℕ → Type 0) (out : Type 0) (h : Handle) → SpareDoing v gone out (given_back h)
given_back-spare v gone out h = either (SpareDoing v gone out) (same_kind h.kind ActiveRequest) (Leaving h) (Ended (Drops h)) (λ u. tt) (λ u. tt)

pub checking-spare : (v : View) (gone : ℕ → Type 0) (out : Type 0) (h : Handle) (hinted : Bool) (left : List Way)
    → SpareDoing v gone out (checking h hinted left)
checking-spare v gone out h hinted [] = tt
checking-spare v gone out h hinted (w ∷ left) = tt

checked-spare : (v : View) (gone : ℕ → Type 0) (out : Type 0) (h : Handle) (hinted : Bool) (left : List Way) (w : Way) (shown : RequestState)
    → SpareDoing v gone out (checked h hinted left w shown)
checked-spare v gone out h hinted left w shown =
    either (SpareDoing v gone out) (is_shown h hinted shown) (Ended (Tells (Answer true))) (checking h hinted (without_way w left))
    (λ u. tt) (λ u. checking-spare v gone out h hinted (without_way w left))

pub hinting-spare : (v : View) (gone : ℕ → Type 0) (out : Type 0) (h : Handle) (left : List Way) → SpareDoing v gone out (hinting h left)
hinting-spare v gone out h [] = tt
hinting-spare v gone out h (w ∷ left) = tt

pub seeking-spare : (v : View) (gone : ℕ → Type 0) (out : Type 0) (left : List Way) → SpareDoing v gone out (seeking left)
seeking-spare v gone out [] = tt
seeking-spare v gone out (w ∷ left) = tt

-- ---- moments

-- a loan that saw the last of its ways is refused only where its pool may refuse
abbrev pub DryIf : State → Type 0 → Doing → Moment → Type 0
DryIf s out (Loaning copies h left) (SeesNoneBack w) =
    without_way w left ≡ [] → is_dry s.fixed h.port (kept s h.port []) ≡ true → out
DryIf s out d m = Unit {0}

abbrev pub LoanIsAt : Fixed → ℕ → Doing → Type 0
LoanIsAt f n (Loaning copies h left) = IsAt f.ports h.port n
LoanIsAt f n d = Unit {0}

pub next-spare : (s : State) (n : ℕ) (gone : ℕ → Type 0) (out : Type 0) (d : Doing) (m : Moment) → DryIf s out d m → LoanIsAt s.fixed n d
    → (next s n d m).condition → SpareDoing (view s.fixed n) gone out d → SpareDoing (view s.fixed n) gone out (next s n d m).after
next-spare s n gone out (Loaning copies h left) (GetBack w k) dry at c p = p
next-spare s n gone out (Loaning copies h left) (SeesNoneBack w) dry at c p = loaning-spare s n gone out copies h (without_way w left) at dry p
next-spare s n gone out (Asking x) (Look w shown) dry at c p = asked-spare (view s.fixed n) gone out x shown p
next-spare s n gone out (Emptying x left) (GetBack w k) dry at c p = p
next-spare s n gone out (Emptying x left) (SeesNoneBack w) dry at c p = emptying-spare (view s.fixed n) gone out x (without_way w left) p
next-spare s n gone out (Looking x left full) (SeesFull w) dry at c p = looking-spare (view s.fixed n) gone out x (without_way w left) (w ∷ full) p
next-spare s n gone out (Looking x left full) (SeesRoom w) dry at c p = looking-spare (view s.fixed n) gone out x (without_way w left) full p
next-spare s n gone out (Opening x left full) (Open w id) dry at c p = opening-spare (view s.fixed n) gone out x (without_way w left) full p
next-spare s n gone out (Delivering x last left count) (Deliver w m) dry at c p = p
next-spare s n gone out (Delivering x last left count) (Evict w) dry at c p = p
next-spare s n gone out (Evicted x v left count) (GetBack w k) dry at c p = p
next-spare s n gone out (Visiting x left seen) (SeesEmpty w) dry at c p = visiting-spare (view s.fixed n) gone out x (without_way w left) seen p
next-spare s n gone out (Visiting x left seen) (SeesWaiting w) dry at c p = visiting-spare (view s.fixed n) gone out x (without_way w left) true p
next-spare s n gone out (Visiting x left seen) (Take w m) dry at c p = took-spare (view s.fixed n) gone out s.fixed n x w m left seen p
next-spare s n gone out (Again x v left seen) (SeesEmpty w) dry at c p = visiting-spare (view s.fixed n) gone out x (without_way v left) seen p
next-spare s n gone out (Again x v left seen) (Take w m) dry at c p = took-spare (view s.fixed n) gone out s.fixed n x v m left seen p
next-spare s n gone out (Judging x v m left seen) (Look w shown) dry at c p =
    either (SpareDoing (view s.fixed n) gone out) (names shown m.request) (Ended (Receives x v m)) (Stale x v m left seen) (λ u. p) (λ u. p)
next-spare s n gone out (Stale x v m left seen) (GiveBack w k) dry at c p = p
next-spare s n gone out (Closing h left) (Close w id) dry at c p = closing-spare (view s.fixed n) gone out h (without_way w left)
next-spare s n gone out (Returning h) (GiveBack w k) dry at c p = given_back-spare (view s.fixed n) gone out h
next-spare s n gone out (Leaving h) (Look w shown) dry at c p = tt
next-spare s n gone out (Leaving h) (Close w id) dry at c p = tt
next-spare s n gone out (Checking h hinted left) (Look w shown) dry at c p = checked-spare (view s.fixed n) gone out h hinted left w shown
next-spare s n gone out (Hinting h left) (Hint w id) dry at c p = hinting-spare (view s.fixed n) gone out h (without_way w left)
next-spare s n gone out (Hinting h left) (Look w shown) dry at c p = hinting-spare (view s.fixed n) gone out h (without_way w left)
next-spare s n gone out (Seeking left) (SeesEmpty w) dry at c p = seeking-spare (view s.fixed n) gone out (without_way w left)
next-spare s n gone out (Seeking left) (SeesWaiting w) dry at c p = tt
next-spare s n gone out d m dry at c p = absurd c

-- what a call ends with
pub ends-spare : (s : State) (v : View) (gone : ℕ → Type 0) (out : Type 0) (d : Doing) (o : Outcome) → SpareDoing v gone out d → ends s d ≡ Some o
    → SpareOutcome v gone out o
ends-spare s v gone out (Ended a) o p e = subst (SpareOutcome v gone out) (some-is a o e) p
ends-spare s v gone out (Delivering x last [] count) o p e = by_case (is_over s last) e
  where
    by_case : (b : Bool) → (if b then None else Some (Sends x.loan x.copied count)) ≡ Some o → SpareOutcome v gone out o
    by_case true e = absurd (none-some o e)
    by_case false e = subst (SpareOutcome v gone out) (some-is (Sends x.loan x.copied count) o e) p
ends-spare s v gone out d o p e = absurd (none-some o e)
