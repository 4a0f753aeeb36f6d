-- What is known about a call as it continues: of what it got back or took until it is refused, and of the
-- loan that it sends or fills.
use Rattle.std.specs.Prelude.{◌≡◌, ℕ, Bool, true, false, if◌then◌else◌, ◌==◌, List, [], ◌∷◌, map, Option, Some, None, refl}
use Rattle.std.specs.List.{list_any}
use Rattle.std.proofs.Common.{sym, subst, ap, ◌∙◌, eqb-true}
use Rattle.iox_model.specs.declared.kind.Kind.TheVariants.{ActiveRequest}
use Rattle.iox_model.specs.declared.kind.Role.TheVariants.{Client, Server}
use Rattle.iox_model.specs.declared.reply.Refusal.TheVariants.{ExceedsMaxActiveRequests, UnableToDeliver, OutOfMemory, ExceedsMaxBorrows}
use Rattle.iox_model.specs.declared.reply.Reply.TheVariants.{Nothing, Answer, Refused}
use Rattle.iox_model.specs.declared.way.RequestState.{RequestState}
use Rattle.iox_model.specs.declared.way.Way.{Way}
use Rattle.iox_model.specs.Commands.{Refusal}
use Rattle.iox_model.specs.Doings.{refused, Receiver, Sending, Outcome, Tells, Loans, Fills, Sends, FailsToSend, Receives, Drops, Forgets, Doing, Ended, Loaning, Asking, Emptying, Looking, Opening, Delivering, Evicted, Visiting, Again, Judging, Stale, Closing, Returning, Leaving, Checking, Hinting, Seeking}
use Rattle.iox_model.specs.Ends.{after_refused_send}
use Rattle.iox_model.specs.Handles.{is_request_loan, same_kind}
use Rattle.iox_model.specs.Looks.{checking, hinting, is_shown}
use Rattle.iox_model.specs.Maps.{has_number, has_way, without_way, same_way}
use Rattle.iox_model.specs.Messages.{request_way, response_way, names, Message}
use Rattle.iox_model.specs.Moments.{Holds, moved, Moment, Deliver, Evict, Take, GiveBack, GetBack, SeesEmpty, SeesWaiting, SeesFull, SeesRoom, SeesNoneBack, Open, Close, Hint, Look}
use Rattle.iox_model.specs.Outstandings.{kept, is_dry}
use Rattle.iox_model.specs.Peers.{forgot_port, others}
use Rattle.iox_model.specs.Receives.{visiting, stale, took_response, took_request, took, seeking}
use Rattle.iox_model.specs.Releases.{closing}
use Rattle.iox_model.specs.Requests.{targets, to_open, is_request, opening, looking, emptying, sending_of, sends_request, is_active_spent, is_over}
use Rattle.iox_model.specs.Responses.{asked, sends, sends_response, loaned, loaning}
use Rattle.iox_model.specs.Settings.{is_client}
use Rattle.iox_model.specs.States.{Handle, Fixed, State}
use Rattle.iox_model.specs.Transitions.{next, ends}
use Rattle.iox_model.specs.WholeCalls.{moved_by, left_by, MayCome}
use Rattle.iox_laws.proofs.WeaveLaws.MapLemmas.{either, same_way-true}
use Rattle.iox_laws.proofs.WeaveLedger.Lists.{among-way, way-among, without-among, map-among}
use Rattle.iox_laws.proofs.WeaveWorlds.Sound.{AreFrom}
use Rattle.iox_laws.proofs.WeaveWorlds.WayLemmas.{from_map, from-targets}
use Rattle.iox_laws.proofs.WeaveLaws.WholeLemmas.{split, some-is}
use Rattle.iox_laws.proofs.WeaveLedger.Truths.{none-some}

-- all these ways go to the port
abbrev pub AreInto : ℕ → List Way → Type 0
AreInto port ways = (v : Way) → has_way v ways ≡ true → v.receiver ≡ port

pub record Story (port : ℕ) : Type 1 where
  -- what a refusal may leave; what is so once something was got back; and once something stale was
  -- dropped, or was taken and not yet given back
  pub leaves : Refusal → State → Type 0
  pub got : State → Type 0
  pub dropped : State → Type 0
  pub taken : Way → Message → State → Type 0
  -- whether it lends, which loans it sends, copied or not, and which it fills
  pub lends : Type 0
  pub sent : Handle → Bool → Type 0
  pub filled : Handle → Type 0
  pub own : (h : Handle) (copied : Bool) → sent h copied → h.port ≡ port
  pub gets : (u : State) (w : Way) (k : ℕ) → w.sender ≡ port → Holds u (GetBack w k) → got u → got (moved u (GetBack w k))
  pub takes : (u : State) (w : Way) (m : Message) → Holds u (Take w m) → dropped u → taken w m (moved u (Take w m))
  pub gives : (u : State) (w : Way) (m : Message) → w.receiver ≡ port → taken w m u → dropped (moved u (GiveBack w m.serial))
  pub skips : (u : State) (node : ℕ) (w : Way) (m : Message) → w.receiver ≡ port → forgot_port u.fixed node w.sender ≡ true → taken w m u → dropped u
  pub dry : (u : State) → lends → got u → leaves OutOfMemory u
  pub active : (u : State) (h : Handle) → sent h true → got u → leaves ExceedsMaxActiveRequests (after_refused_send u h true)
  pub unable : (u : State) (h : Handle) (copied : Bool) → sent h copied → got u → leaves UnableToDeliver (after_refused_send u h copied)
  pub borrowed : (u : State) → dropped u → leaves ExceedsMaxBorrows u

abbrev pub ToldEnd : (port : ℕ) → Story port → State → Outcome → Type 0
ToldEnd port y u (Tells (Refused r)) = y.leaves r u
ToldEnd port y u (FailsToSend h copied r) = y.sent h copied × y.leaves r (after_refused_send u h copied)
ToldEnd port y u (Sends h copied count) = y.sent h copied
ToldEnd port y u (Fills h) = y.filled h
ToldEnd port y u (Forgets dead) = ⊥
ToldEnd port y u o = Unit {0}

abbrev pub Told : (port : ℕ) → Story port → State → Doing → Type 0
Told port y u (Ended o) = ToldEnd port y u o
Told port y u (Loaning copies h left) = y.lends × (copies ≡ true → y.sent h true) × y.got u × AreFrom port left
Told port y u (Asking x) = y.sent x.loan x.copied × y.got u
Told port y u (Emptying x left) = y.sent x.loan x.copied × y.got u × AreFrom port left
Told port y u (Looking x left full) = y.sent x.loan x.copied × y.got u
Told port y u (Opening x left full) = y.sent x.loan x.copied × AreInto x.loan.port left
Told port y u (Delivering x last left count) = y.sent x.loan x.copied
Told port y u (Evicted x w left count) = y.sent x.loan x.copied
Told port y u (Visiting x left seen) = y.dropped u × AreInto port left
Told port y u (Again x w left seen) = y.dropped u × AreInto port left × (w.receiver ≡ port)
Told port y u (Judging x w m left seen) = y.taken w m u × AreInto port left × (w.receiver ≡ port)
Told port y u (Stale x w m left seen) = y.taken w m u × AreInto port left × (w.receiver ≡ port)
Told port y u d = Unit {0}

-- ---- ways that are left

from_less : (port : ℕ) (w : Way) (left : List Way) → AreFrom port left → AreFrom port (without_way w left)
from_less port w left p v there = p v (among-way v left (without-among w v left (way-among v (without_way w left) there)))

into_less : (port : ℕ) (w : Way) (left : List Way) → AreInto port left → AreInto port (without_way w left)
into_less port w left p v there = p v (among-way v left (without-among w v left (way-among v (without_way w left) there)))

to_open_into : (x : Sending) → AreInto x.loan.port (to_open x)
to_open_into x =
    either (AreInto x.loan.port) (is_request x) (map (response_way x.loan.port x.loan.lane) x.to) []
    (λ u v there. ap (λ (w : Way). w.receiver) (map-among (response_way x.loan.port x.loan.lane) v x.to
    (way-among v (map (response_way x.loan.port x.loan.lane) x.to) there)).2) (λ u v there. absurd (none there))
  where
    none : false ≡ true → ⊥
    none e = subst IsFalseOnly e tt
      where
        IsFalseOnly : Bool → Type 0
        IsFalseOnly true = ⊥
        IsFalseOnly false = Unit {0}

-- ---- sends

pub opening_told : (port : ℕ) (y : Story port) (u : State) (x : Sending) (left full : List Way) → y.sent x.loan x.copied → AreInto x.loan.port left
    → Told port y u (opening x left full)
opening_told port y u x [] full p into = p
opening_told port y u x (w ∷ left) full p into = (p, into)

looking_told : (port : ℕ) (y : Story port) (u : State) (x : Sending) (left full : List Way) → y.sent x.loan x.copied → y.got u
    → Told port y u (looking x left full)
looking_told port y u x [] full p g =
    either (Told port y u) (list_any x.fails full) (Ended (FailsToSend x.loan x.copied UnableToDeliver)) (opening x (to_open x) full)
    (λ v. (p, y.unable u x.loan x.copied p g)) (λ v. opening_told port y u x (to_open x) full p (to_open_into x))
looking_told port y u x (w ∷ left) full p g = (p, g)

emptying_told : (port : ℕ) (y : Story port) (u : State) (x : Sending) (left : List Way) → y.sent x.loan x.copied → y.got u → AreFrom port left
    → Told port y u (emptying x left)
emptying_told port y u x [] p g from =
    either (Told port y u) x.overflow (opening x (to_open x) []) (looking x (targets x) [])
    (λ v. opening_told port y u x (to_open x) [] p (to_open_into x)) (λ v. looking_told port y u x (targets x) [] p g)
emptying_told port y u x (w ∷ left) p g from = (p, g, from)

own_from : (port : ℕ) (y : Story port) (h : Handle) (copied : Bool) (ways : List Way) → y.sent h copied → AreFrom h.port ways → AreFrom port ways
own_from port y h copied ways p from v there = from v there ∙ y.own h copied p

asked_told : (port : ℕ) (y : Story port) (u : State) (x : Sending) (shown : RequestState) → y.sent x.loan x.copied → y.got u
    → Told port y u (asked x shown)
asked_told port y u x shown p g =
    either (Told port y u) (names shown x.loan.request) (emptying x (targets x)) (Ended (Sends x.loan x.copied 0))
    (λ v. emptying_told port y u x (targets x) p g (own_from port y x.loan x.copied (targets x) p (from-targets x))) (λ v. p)

pub sends_told : (port : ℕ) (y : Story port) (u : State) (f : Fixed) (h : Handle) (copied : Bool) → y.sent h copied → y.got u
    → y.leaves ExceedsMaxActiveRequests (after_refused_send u h copied) → Told port y u (sends f h copied)
sends_told port y u f h copied p g spent =
    let to : List ℕ = others f h.node Server in
    either (Told port y u) (is_request_loan h.kind) (sends_request f h copied to) (sends_response f h copied)
    (λ request. either (Told port y u) (is_active_spent f h) (Ended (FailsToSend h copied ExceedsMaxActiveRequests))
    (emptying (sending_of f h copied to) (map (request_way h.port) to)) (λ v. (p, spent))
    (λ v. emptying_told port y u (sending_of f h copied to) (map (request_way h.port) to) p g
    (own_from port y h copied (map (request_way h.port) to) p (from_map h.port (request_way h.port) (λ n. refl) to))))
    (λ response. either (Told port y u) (has_number h.client (others f h.node Client)) (Asking (sending_of f h copied (h.client ∷ [])))
    (Ended (Sends h copied 0)) (λ v. (p, g)) (λ v. p))

-- ---- loans

loaned_told : (port : ℕ) (y : Story port) (u v : State) (copies : Bool) (h : Handle) → y.lends → (copies ≡ true → y.sent h true) → y.got u
    → Told port y u (loaned v copies h)
loaned_told port y u v copies h lends p g =
    either (Told port y u) (is_dry v.fixed h.port (kept v h.port [])) (refused OutOfMemory) (if copies then sends v.fixed h true else Ended (Loans h))
    (λ e. y.dry u lends g)
    (λ e. either (Told port y u) copies (sends v.fixed h true) (Ended (Loans h))
    (λ c. sends_told port y u v.fixed h true (p c) g (y.active u h (p c) g)) (λ c. tt))

pub loaning_told : (port : ℕ) (y : Story port) (u v : State) (copies : Bool) (h : Handle) (left : List Way) → y.lends
    → (copies ≡ true → y.sent h true) → y.got u
    → AreFrom port left → Told port y u (loaning v copies h left)
loaning_told port y u v copies h [] lends p g from = loaned_told port y u v copies h lends p g
loaning_told port y u v copies h (w ∷ left) lends p g from = (lends, p, g, from)

-- ---- receives

pub visiting_told : (port : ℕ) (y : Story port) (u : State) (x : Receiver) (left : List Way) (seen : Bool) → y.dropped u → AreInto port left
    → Told port y u (visiting x left seen)
visiting_told port y u x [] seen p into =
    either (λ reply. ToldEnd port y u (Tells reply)) seen (Refused ExceedsMaxBorrows) Nothing (λ e. y.borrowed u p) (λ e. tt)
visiting_told port y u x (w ∷ left) seen p into = (p, into)

stale_told : (port : ℕ) (y : Story port) (u : State) (f : Fixed) (node : ℕ) (x : Receiver) (w : Way) (m : Message) (left : List Way) (seen : Bool)
    → u.fixed ≡ f → y.taken w m u → AreInto port left → w.receiver ≡ port → Told port y u (stale f node x w m left seen)
stale_told port y u f node x w m left seen same p into at =
    either (Told port y u) (forgot_port f node w.sender) (Again x w left seen) (Stale x w m left seen)
    (λ e. (y.skips u node w m at (ap (λ (g : Fixed). forgot_port g node w.sender) same ∙ e) p, into, at)) (λ e. (p, into, at))

took_told : (port : ℕ) (y : Story port) (u : State) (f : Fixed) (node : ℕ) (x : Receiver) (w : Way) (m : Message) (left : List Way) (seen : Bool)
    → u.fixed ≡ f → y.taken w m u → AreInto port left → w.receiver ≡ port → Told port y u (took f node x w m left seen)
took_told port y u f node x w m left seen same p into at =
    either (Told port y u) (is_client x.role) (took_response f node x w m left seen) (took_request f x w m left seen)
    (λ e. either (Told port y u) (m.request == x.request) (Ended (Receives x w m)) (stale f node x w m left seen) (λ v. tt)
    (λ v. stale_told port y u f node x w m left seen same p into at))
    (λ e. either (Told port y u) f.limits.fire_and_forget (Ended (Receives x w m)) (Judging x w m left seen) (λ v. tt) (λ v. (p, into, at)))

-- ---- what is never refused

pub closing_told : (port : ℕ) (y : Story port) (u : State) (h : Handle) (left : List Way) → Told port y u (closing h left)
closing_told port y u h [] = tt
closing_told port y u h (w ∷ left) = tt

pub checking_told : (port : ℕ) (y : Story port) (u : State) (h : Handle) (hinted : Bool) (left : List Way) → Told port y u (checking h hinted left)
checking_told port y u h hinted [] = tt
checking_told port y u h hinted (w ∷ left) = tt

pub hinting_told : (port : ℕ) (y : Story port) (u : State) (h : Handle) (left : List Way) → Told port y u (hinting h left)
hinting_told port y u h [] = tt
hinting_told port y u h (w ∷ left) = tt

pub seeking_told : (port : ℕ) (y : Story port) (u : State) (left : List Way) → Told port y u (seeking left)
seeking_told port y u [] = tt
seeking_told port y u (w ∷ left) = tt

-- ---- a moment

pub told_moved : (port : ℕ) (y : Story port) (u : State) (node : ℕ) (d : Doing) (m : Moment) → Told port y u d → Holds u m → (next u node d m).condition
    → Told port y (moved u m) (next u node d m).after
told_moved port y u node (Loaning copies h left) (GetBack w k) p holds c = (p.0, p.1, y.gets u w k (p.3 w c) holds p.2, p.3)
told_moved port y u node (Loaning copies h left) (SeesNoneBack w) p holds c =
    loaning_told port y u u copies h (without_way w left) p.0 p.1 p.2 (from_less port w left p.3)
told_moved port y u node (Loaning copies h left) m p holds c = absurd c
told_moved port y u node (Asking x) (Look w shown) p holds c = asked_told port y u x shown p.0 p.1
told_moved port y u node (Asking x) m p holds c = absurd c
told_moved port y u node (Emptying x left) (GetBack w k) p holds c = (p.0, y.gets u w k (p.2 w c) holds p.1, p.2)
told_moved port y u node (Emptying x left) (SeesNoneBack w) p holds c =
    emptying_told port y u x (without_way w left) p.0 p.1 (from_less port w left p.2)
told_moved port y u node (Emptying x left) m p holds c = absurd c
told_moved port y u node (Looking x left full) (SeesFull w) p holds c = looking_told port y u x (without_way w left) (w ∷ full) p.0 p.1
told_moved port y u node (Looking x left full) (SeesRoom w) p holds c = looking_told port y u x (without_way w left) full p.0 p.1
told_moved port y u node (Looking x left full) m p holds c = absurd c
told_moved port y u node (Opening x left full) (Open w id) p holds c =
    opening_told port y (moved u (Open w id)) x (without_way w left) full p.0 (into_less x.loan.port w left p.1)
told_moved port y u node (Opening x left full) m p holds c = absurd c
told_moved port y u node (Delivering x last left count) (Deliver w m) p holds c = p
told_moved port y u node (Delivering x last left count) (Evict w) p holds c = p
told_moved port y u node (Delivering x last left count) m p holds c = absurd c
told_moved port y u node (Evicted x v left count) (GetBack w k) p holds c = p
told_moved port y u node (Evicted x v left count) m p holds c = absurd c
told_moved port y u node (Visiting x left seen) (SeesEmpty w) p holds c =
    visiting_told port y u x (without_way w left) seen p.0 (into_less port w left p.1)
told_moved port y u node (Visiting x left seen) (SeesWaiting w) p holds c =
    visiting_told port y u x (without_way w left) true p.0 (into_less port w left p.1)
told_moved port y u node (Visiting x left seen) (Take w m) p holds c =
    took_told port y (moved u (Take w m)) u.fixed node x w m left seen refl (y.takes u w m holds p.0) p.1 (p.1 w c.0)
told_moved port y u node (Visiting x left seen) m p holds c = absurd c
told_moved port y u node (Again x v left seen) (SeesEmpty w) p holds c =
    visiting_told port y u x (without_way v left) seen p.0 (into_less port v left p.1)
told_moved port y u node (Again x v left seen) (Take w m) p holds c =
    let same : w ≡ v = same_way-true w v c in
    took_told port y (moved u (Take w m)) u.fixed node x v m left seen refl
    (subst (λ z. y.taken z m (moved u (Take w m))) same (y.takes u w m holds p.0)) p.1 p.2
told_moved port y u node (Again x v left seen) m p holds c = absurd c
told_moved port y u node (Judging x v m left seen) (Look w shown) p holds c =
    either (Told port y u) (names shown m.request) (Ended (Receives x v m)) (Stale x v m left seen) (λ e. tt) (λ e. p)
told_moved port y u node (Judging x v m left seen) n p holds c = absurd c
told_moved port y u node (Stale x v m left seen) (GiveBack w k) p holds c =
    let q : (same_way w v ≡ true) × ((k == m.serial) ≡ true) = split (same_way w v) (k == m.serial) c in (
      subst (λ j. y.dropped (moved u (GiveBack w j))) (sym (eqb-true k m.serial q.1))
          (subst (λ z. y.dropped (moved u (GiveBack z m.serial))) (sym (same_way-true w v q.0)) (y.gives u v m p.2 p.0)),
      p.1,
      p.2,
    )
told_moved port y u node (Stale x v m left seen) n p holds c = absurd c
told_moved port y u node (Closing h left) (Close w id) p holds c = closing_told port y (moved u (Close w id)) h (without_way w left)
told_moved port y u node (Closing h left) m p holds c = absurd c
told_moved port y u node (Returning h) (GiveBack w k) p holds c =
    either (Told port y (moved u (GiveBack w k))) (same_kind h.kind ActiveRequest) (Leaving h) (Ended (Drops h)) (λ e. tt) (λ e. tt)
told_moved port y u node (Returning h) m p holds c = absurd c
told_moved port y u node (Leaving h) (Look w shown) p holds c = tt
told_moved port y u node (Leaving h) (Close w id) p holds c = tt
told_moved port y u node (Leaving h) m p holds c = absurd c
told_moved port y u node (Checking h hinted left) (Look w shown) p holds c =
    either (Told port y u) (is_shown h hinted shown) (Ended (Tells (Answer true))) (checking h hinted (without_way w left)) (λ e. tt)
    (λ e. checking_told port y u h hinted (without_way w left))
told_moved port y u node (Checking h hinted left) m p holds c = absurd c
told_moved port y u node (Hinting h left) (Hint w id) p holds c = hinting_told port y (moved u (Hint w id)) h (without_way w left)
told_moved port y u node (Hinting h left) (Look w shown) p holds c = hinting_told port y u h (without_way w left)
told_moved port y u node (Hinting h left) m p holds c = absurd c
told_moved port y u node (Seeking left) (SeesEmpty w) p holds c = seeking_told port y u (without_way w left)
told_moved port y u node (Seeking left) (SeesWaiting w) p holds c = tt
told_moved port y u node (Seeking left) m p holds c = absurd c
told_moved port y u node (Ended o) m p holds c = absurd c

pub told_by : (port : ℕ) (y : Story port) (u : State) (node : ℕ) (d : Doing) (ms : List Moment) → Told port y u d → MayCome u node d ms
    → Told port y (moved_by u ms) (left_by u node d ms)
told_by port y u node d [] p may = p
told_by port y u node d (m ∷ ms) p may =
    told_by port y (moved u m) node (next u node d m).after ms (told_moved port y u node d m p may.0 may.1) may.2

sent_in_the_end : (port : ℕ) (y : Story port) (u : State) (x : Sending) (last : Option Way) (left : List Way) (count : ℕ) (o : Outcome)
    → y.sent x.loan x.copied → ends u (Delivering x last left count) ≡ Some o → ToldEnd port y u o
sent_in_the_end port y u x last [] count o p e =
    either (λ (q : Option Outcome). q ≡ Some o → ToldEnd port y u o) (is_over u last) None (Some (Sends x.loan x.copied count))
    (λ v f. none-some o f) (λ v f. subst (ToldEnd port y u) (some-is (Sends x.loan x.copied count) o f) p) e
sent_in_the_end port y u x last (w ∷ left) count o p e = none-some o e

pub told_ends : (port : ℕ) (y : Story port) (u : State) (d : Doing) (o : Outcome) → Told port y u d → ends u d ≡ Some o → ToldEnd port y u o
told_ends port y u (Ended q) o p e = subst (ToldEnd port y u) (some-is q o e) p
told_ends port y u (Delivering x last left count) o p e = sent_in_the_end port y u x last left count o p e
told_ends port y u d o p e = none-some o e
