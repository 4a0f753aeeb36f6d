-- What holds of a call of a hub under way, as far as it loans, sends and releases: as on a wire, but
-- that a receive may visit senders that are gone, and that a port may be released.
use Rattle.std.specs.Prelude.{◌≡◌, ℕ, Bool, true, if◌then◌else◌, ◌==◌, List, [], ◌∷◌, map, Option, Some, None, ⊤}
use Rattle.std.specs.List.{list_any}
use Rattle.std.proofs.Common.{subst}
use Rattle.iox_model.specs.declared.kind.Role.TheVariants.{Client, Server}
use Rattle.iox_model.specs.declared.kind.Kind.TheVariants.{ActiveRequest}
use Rattle.iox_model.specs.declared.way.Way.{Way}
use Rattle.iox_model.specs.declared.way.RequestState.{RequestState}
use Rattle.iox_model.specs.declared.reply.Refusal.TheVariants.{OutOfMemory, UnableToDeliver, ExceedsMaxActiveRequests}
use Rattle.iox_model.specs.declared.reply.Reply.TheVariants.{Answer}
use Rattle.iox_model.specs.Doings.{refused, Receiver, Sending, Outcome, Tells, Loans, Sends, FailsToSend, Receives, Drops, DropsPort, Forgets, Doing, Ended, Loaning, Asking, Emptying, Looking, Opening, Delivering, Evicted, Visiting, Again, Judging, Stale, Closing, Returning, Leaving, Checking, Hinting, Seeking}
use Rattle.iox_model.specs.Handles.{same_kind, is_request_loan}
use Rattle.iox_model.specs.Looks.{checking, is_shown, hinting}
use Rattle.iox_model.specs.Maps.{has_number, without_way}
use Rattle.iox_model.specs.Messages.{request_way, names, Message}
use Rattle.iox_model.specs.Moments.{Holds, Moment, Deliver, Evict, Take, GiveBack, GetBack, SeesEmpty, SeesWaiting, SeesFull, SeesRoom, SeesNoneBack, Open, Close, Hint, Look}
use Rattle.iox_model.specs.Outstandings.{kept, is_dry}
use Rattle.iox_model.specs.Peers.{others, forgot_port}
use Rattle.iox_model.specs.Receives.{visiting, stale, took_response, took_request, took, seeking}
use Rattle.iox_model.specs.Releases.{closing}
use Rattle.iox_model.specs.Requests.{targets, to_open, sending_of, opening, looking, emptying, is_active_spent, sends_request, is_over}
use Rattle.iox_model.specs.Responses.{sends_response, asked, sends, loaning}
use Rattle.iox_model.specs.Settings.{is_client}
use Rattle.iox_model.specs.States.{Handle, Fixed, State}
use Rattle.iox_model.specs.Transitions.{next, ends}
use Rattle.iox_laws.proofs.WeaveLaws.MapLemmas.{either}
use Rattle.iox_laws.proofs.WeaveLaws.WholeLemmas.{some-is}
use Rattle.iox_laws.proofs.WeaveLedger.Truths.{none-some}
use Rattle.iox_laws.proofs.WeaveLedger.Lists.{IsAmong}
use Rattle.iox_laws.proofs.WeaveLedger.Moves.{WaitsFit, next-fits}
use Rattle.iox_laws.proofs.WeaveLedger.Phases.{HasOwnPorts, opening-fits, looking-fits, emptying-fits, asked-fits, loaning-fits}
use Rattle.iox_laws.proofs.WeaveLedger.Senders.{FitsOutcome, FitsDoing}
use Rattle.iox_laws.proofs.WeaveLedger.Views.{view, View}

abbrev pub StandsEnd : View → ℕ → Outcome → Type 0
StandsEnd v n (Receives x w m) = ⊤
StandsEnd v n (DropsPort port) = ⊤
-- nobody is forgotten on a hub
StandsEnd v n (Forgets dead) = ⊥
StandsEnd v n o = FitsOutcome v n o

abbrev pub Stands : View → ℕ → Doing → Type 0
Stands v n (Ended o) = StandsEnd v n o
Stands v n (Visiting x left seen) = ⊤
Stands v n (Again x w left seen) = ⊤
Stands v n (Judging x w m left seen) = ⊤
Stands v n (Stale x w m left seen) = ⊤
Stands v n d = FitsDoing v n d

-- ---- phases

-- what fits a wire stands
abbrev WillStand : View → ℕ → Doing → Type 0
WillStand v n d = FitsDoing v n d → Stands v n d

opening-stands : (v : View) (n : ℕ) (x : Sending) (left full : List Way) → WillStand v n (opening x left full)
opening-stands v n x [] full p = p
opening-stands v n x (w ∷ left) full p = p

looking-stands : (v : View) (n : ℕ) (x : Sending) (left full : List Way) → WillStand v n (looking x left full)
looking-stands v n x [] full =
    either (WillStand v n) (list_any x.fails full) (Ended (FailsToSend x.loan x.copied UnableToDeliver)) (opening x (to_open x) full) (λ u p. p)
    (λ u. opening-stands v n x (to_open x) full)
looking-stands v n x (w ∷ left) full = λ p. p

emptying-stands : (v : View) (n : ℕ) (x : Sending) (left : List Way) → WillStand v n (emptying x left)
emptying-stands v n x [] =
    either (WillStand v n) x.overflow (opening x (to_open x) []) (looking x (targets x) []) (λ u. opening-stands v n x (to_open x) [])
    (λ u. looking-stands v n x (targets x) [])
emptying-stands v n x (w ∷ left) = λ p. p

asked-stands : (v : View) (n : ℕ) (x : Sending) (shown : RequestState) → WillStand v n (asked x shown)
asked-stands v n x shown =
    either (WillStand v n) (names shown x.loan.request) (emptying x (targets x)) (Ended (Sends x.loan x.copied 0))
    (λ u. emptying-stands v n x (targets x)) (λ u p. p)

pub sends-stands : (v : View) (n : ℕ) (f : Fixed) (h : Handle) (copied : Bool) → WillStand v n (sends f h copied)
sends-stands v n f h copied =
    let to : List ℕ = others f h.node Server in
    either (WillStand v n) (is_request_loan h.kind) (sends_request f h copied to) (sends_response f h copied)
    (λ u. either (WillStand v n) (is_active_spent f h) (Ended (FailsToSend h copied ExceedsMaxActiveRequests))
    (emptying (sending_of f h copied to) (map (request_way h.port) to)) (λ y p. p)
    (λ y. emptying-stands v n (sending_of f h copied to) (map (request_way h.port) to)))
    (λ u. either (WillStand v n) (has_number h.client (others f h.node Client)) (Asking (sending_of f h copied (h.client ∷ [])))
    (Ended (Sends h copied 0)) (λ y p. p) (λ y p. p))

pub loaning-stands : (v : View) (n : ℕ) (s : State) (copied : Bool) (h : Handle) (left : List Way) → WillStand v n (loaning s copied h left)
loaning-stands v n s copied h [] =
    either (WillStand v n) (is_dry s.fixed h.port (kept s h.port [])) (refused OutOfMemory) (if copied then sends s.fixed h true else Ended (Loans h))
    (λ u p. p)
    (λ u. either (WillStand v n) copied (sends s.fixed h true) (Ended (Loans h)) (λ y. sends-stands v n s.fixed h true) (λ y p. p))
loaning-stands v n s copied h (w ∷ left) = λ p. p

pub visiting-stands : (v : View) (n : ℕ) (x : Receiver) (left : List Way) (seen : Bool) → Stands v n (visiting x left seen)
visiting-stands v n x [] seen = tt
visiting-stands v n x (w ∷ left) seen = tt

took-stands : (v : View) (f : Fixed) (n : ℕ) (x : Receiver) (w : Way) (m : Message) (left : List Way) (seen : Bool) → Stands v n (took f n x w m left seen)
took-stands v f n x w m left seen =
    either (Stands v n) (is_client x.role) (took_response f n x w m left seen) (took_request f x w m left seen)
    (λ u. either (Stands v n) (m.request == x.request) (Ended (Receives x w m)) (stale f n x w m left seen) (λ y. tt)
    (λ y. either (Stands v n) (forgot_port f n w.sender) (Again x w left seen) (Stale x w m left seen) (λ z. tt) (λ z. tt)))
    (λ u. either (Stands v n) f.limits.fire_and_forget (Ended (Receives x w m)) (Judging x w m left seen) (λ y. tt) (λ y. tt))

pub closing-stands : (v : View) (n : ℕ) (h : Handle) (left : List Way) → IsAmong h v.handles → Stands v n (closing h left)
closing-stands v n h [] p = p
closing-stands v n h (w ∷ left) p = p

pub checking-stands : (v : View) (n : ℕ) (h : Handle) (hinted : Bool) (left : List Way) → Stands v n (checking h hinted left)
checking-stands v n h hinted [] = tt
checking-stands v n h hinted (w ∷ left) = tt

pub hinting-stands : (v : View) (n : ℕ) (h : Handle) (left : List Way) → Stands v n (hinting h left)
hinting-stands v n h [] = tt
hinting-stands v n h (w ∷ left) = tt

pub seeking-stands : (v : View) (n : ℕ) (left : List Way) → Stands v n (seeking left)
seeking-stands v n [] = tt
seeking-stands v n (w ∷ left) = tt

-- ---- a moment

pub next-stands : (s : State) (n : ℕ) (d : Doing) (m : Moment) → HasOwnPorts s.fixed → WaitsFit s → Holds s m → Stands (view s.fixed n) n d
    → (next s n d m).condition
    → Stands (view s.fixed n) n (next s n d m).after
next-stands s n (Loaning copied h left) (GetBack w k) own waits first p c = p
next-stands s n (Loaning copied h left) (SeesNoneBack w) own waits first p c =
    loaning-stands (view s.fixed n) n s copied h (without_way w left) (loaning-fits s n copied h (without_way w left) own p)
next-stands s n (Asking x) (Look w shown) own waits first p c = asked-stands (view s.fixed n) n x shown (asked-fits (view s.fixed n) n x shown p)
next-stands s n (Emptying x left) (GetBack w k) own waits first p c = p
next-stands s n (Emptying x left) (SeesNoneBack w) own waits first p c =
    emptying-stands (view s.fixed n) n x (without_way w left) (emptying-fits (view s.fixed n) n x (without_way w left) p)
next-stands s n (Looking x left full) (SeesFull w) own waits first p c =
    looking-stands (view s.fixed n) n x (without_way w left) (w ∷ full) (looking-fits (view s.fixed n) n x (without_way w left) (w ∷ full) p)
next-stands s n (Looking x left full) (SeesRoom w) own waits first p c =
    looking-stands (view s.fixed n) n x (without_way w left) full (looking-fits (view s.fixed n) n x (without_way w left) full p)
next-stands s n (Opening x left full) (Open w id) own waits first p c =
    opening-stands (view s.fixed n) n x (without_way w left) full (opening-fits (view s.fixed n) n x (without_way w left) full p)
next-stands s n (Delivering x last left count) (Deliver w m) own waits first p c =
    next-fits s n (Delivering x last left count) (Deliver w m) own waits first p c
next-stands s n (Delivering x last left count) (Evict w) own waits first p c = next-fits s n (Delivering x last left count) (Evict w) own waits first p c
next-stands s n (Evicted x v left count) (GetBack w k) own waits first p c = (p.0, p.1, tt)
next-stands s n (Visiting x left seen) (SeesEmpty w) own waits first p c = visiting-stands (view s.fixed n) n x (without_way w left) seen
next-stands s n (Visiting x left seen) (SeesWaiting w) own waits first p c = visiting-stands (view s.fixed n) n x (without_way w left) true
next-stands s n (Visiting x left seen) (Take w m) own waits first p c = took-stands (view s.fixed n) s.fixed n x w m left seen
next-stands s n (Again x v left seen) (SeesEmpty w) own waits first p c = visiting-stands (view s.fixed n) n x (without_way v left) seen
next-stands s n (Again x v left seen) (Take w m) own waits first p c = took-stands (view s.fixed n) s.fixed n x v m left seen
next-stands s n (Judging x v m left seen) (Look w shown) own waits first p c =
    either (Stands (view s.fixed n) n) (names shown m.request) (Ended (Receives x v m)) (Stale x v m left seen) (λ u. tt) (λ u. tt)
next-stands s n (Stale x v m left seen) (GiveBack w k) own waits first p c = tt
next-stands s n (Closing h left) (Close w id) own waits first p c = closing-stands (view s.fixed n) n h (without_way w left) p
next-stands s n (Returning h) (GiveBack w k) own waits first p c =
    either (Stands (view s.fixed n) n) (same_kind h.kind ActiveRequest) (Leaving h) (Ended (Drops h)) (λ u. p) (λ u. p)
next-stands s n (Leaving h) (Look w shown) own waits first p c = p
next-stands s n (Leaving h) (Close w id) own waits first p c = p
next-stands s n (Checking h hinted left) (Look w shown) own waits first p c =
    either (Stands (view s.fixed n) n) (is_shown h hinted shown) (Ended (Tells (Answer true))) (checking h hinted (without_way w left)) (λ u. tt)
    (λ u. checking-stands (view s.fixed n) n h hinted (without_way w left))
next-stands s n (Hinting h left) (Hint w id) own waits first p c = hinting-stands (view s.fixed n) n h (without_way w left)
next-stands s n (Hinting h left) (Look w shown) own waits first p c = hinting-stands (view s.fixed n) n h (without_way w left)
next-stands s n (Seeking left) (SeesEmpty w) own waits first p c = seeking-stands (view s.fixed n) n (without_way w left)
next-stands s n (Seeking left) (SeesWaiting w) own waits first p c = tt
next-stands s n d m own waits first p c = absurd c

-- ---- the end

pub ends-stands : (s : State) (n : ℕ) (d : Doing) (o : Outcome) → Stands (view s.fixed n) n d → ends s d ≡ Some o → StandsEnd (view s.fixed n) n o
ends-stands s n (Ended a) o p e = subst (StandsEnd (view s.fixed n) n) (some-is a o e) p
ends-stands s n (Delivering x last [] count) o p e =
    either (λ (r : Option Outcome). r ≡ Some o → StandsEnd (view s.fixed n) n o) (is_over s last) None (Some (Sends x.loan x.copied count))
    (λ u f. absurd (none-some o f))
    (λ u f. subst (StandsEnd (view s.fixed n) n) (some-is (Sends x.loan x.copied count) o f) (p.0).loan) e
ends-stands s n d o p e = absurd (none-some o e)
