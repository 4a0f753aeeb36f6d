-- A call delivers no message but that of the loan that it carries.
use Rattle.std.specs.Prelude.{ℕ, Bool, true, false, ◌==◌, List, [], ◌∷◌, ◌++◌, map, ◌⊎◌}
use Rattle.std.specs.List.{list_any}
use Rattle.std.proofs.Common.{sym, subst, inl, inr}
use Rattle.iox_model.specs.declared.kind.Kind.TheVariants.{ActiveRequest}
use Rattle.iox_model.specs.declared.kind.Role.TheVariants.{Client, Server}
use Rattle.iox_model.specs.declared.reply.Refusal.TheVariants.{ExceedsMaxActiveRequests, UnableToDeliver, OutOfMemory}
use Rattle.iox_model.specs.declared.reply.Reply.TheVariants.{Answer}
use Rattle.iox_model.specs.declared.way.Way.{Way}
use Rattle.iox_model.specs.declared.way.RequestState.{RequestState}
use Rattle.iox_model.specs.Doings.{refused, Receiver, Sending, Tells, Loans, Sends, FailsToSend, Receives, Drops, Doing, Ended, Loaning, Asking, Emptying, Looking, Opening, Delivering, Evicted, Visiting, Again, Judging, Stale, Closing, Returning, Leaving, Checking, Hinting, Seeking}
use Rattle.iox_model.specs.Handles.{same_kind, is_request_loan}
use Rattle.iox_model.specs.Looks.{checking, hinting, is_shown}
use Rattle.iox_model.specs.Maps.{has_number, without_way, same_way}
use Rattle.iox_model.specs.Messages.{request_way, names, Message}
use Rattle.iox_model.specs.Moments.{moved, Moment, Deliver, Evict, Take, GiveBack, GetBack, SeesEmpty, SeesWaiting, SeesFull, SeesRoom, SeesNoneBack, Open, Close, Hint, Look}
use Rattle.iox_model.specs.Outstandings.{kept, is_dry}
use Rattle.iox_model.specs.Peers.{forgot_port, others}
use Rattle.iox_model.specs.Receives.{visiting, stale, took_response, took_request, took, seeking}
use Rattle.iox_model.specs.Releases.{closing}
use Rattle.iox_model.specs.Requests.{targets, to_open, opening, looking, emptying, sending_of, sends_request, is_active_spent}
use Rattle.iox_model.specs.Responses.{asked, sends, sends_response, loaning}
use Rattle.iox_model.specs.Settings.{is_client}
use Rattle.iox_model.specs.States.{Handle, Fixed, State}
use Rattle.iox_model.specs.Transitions.{next}
use Rattle.iox_model.specs.Weaves.{Makes}
use Rattle.iox_model.specs.WholeCalls.{MayCome}
use Rattle.iox_laws.proofs.WeaveLaws.MapLemmas.{either}
use Rattle.iox_laws.specs.MessageLaws.Deliveries.{message_put_on, messages_put_on}
use Rattle.iox_laws.specs.MessageLaws.Lists.{IsOneOf}

-- so it is of the message that the call is to deliver
abbrev pub Carries : (Message → Type 0) → Doing → Type 0
Carries P (Loaning true h left) = P h.message
Carries P (Asking x) = P x.loan.message
Carries P (Emptying x left) = P x.loan.message
Carries P (Looking x left full) = P x.loan.message
Carries P (Opening x left full) = P x.loan.message
Carries P (Delivering x last left count) = P x.loan.message
Carries P (Evicted x w left count) = P x.loan.message
Carries P d = Unit {0}

-- ---- what follows in a send

opening_carries : (P : Message → Type 0) (x : Sending) (left full : List Way) → P x.loan.message → Carries P (opening x left full)
opening_carries P x [] full p = p
opening_carries P x (w ∷ left) full p = p

looking_carries : (P : Message → Type 0) (x : Sending) (left full : List Way) → P x.loan.message → Carries P (looking x left full)
looking_carries P x [] full p =
    either (Carries P) (list_any x.fails full) (Ended (FailsToSend x.loan x.copied UnableToDeliver)) (opening x (to_open x) full) (λ u. tt)
    (λ u. opening_carries P x (to_open x) full p)
looking_carries P x (w ∷ left) full p = p

emptying_carries : (P : Message → Type 0) (x : Sending) (left : List Way) → P x.loan.message → Carries P (emptying x left)
emptying_carries P x [] p =
    either (Carries P) x.overflow (opening x (to_open x) []) (looking x (targets x) []) (λ u. opening_carries P x (to_open x) [] p)
    (λ u. looking_carries P x (targets x) [] p)
emptying_carries P x (w ∷ left) p = p

asked_carries : (P : Message → Type 0) (x : Sending) (shown : RequestState) → P x.loan.message → Carries P (asked x shown)
asked_carries P x shown p =
    either (Carries P) (names shown x.loan.request) (emptying x (targets x)) (Ended (Sends x.loan x.copied 0)) (λ u. emptying_carries P x (targets x) p)
    (λ u. tt)

pub sends_carries : (P : Message → Type 0) (f : Fixed) (h : Handle) (copied : Bool) → P h.message → Carries P (sends f h copied)
sends_carries P f h copied p =
    let to : List ℕ = others f h.node Server in
    either (Carries P) (is_request_loan h.kind) (sends_request f h copied to) (sends_response f h copied)
    (λ u. either (Carries P) (is_active_spent f h) (Ended (FailsToSend h copied ExceedsMaxActiveRequests))
    (emptying (sending_of f h copied to) (map (request_way h.port) to)) (λ v. tt)
    (λ v. emptying_carries P (sending_of f h copied to) (map (request_way h.port) to) p))
    (λ u. either (Carries P) (has_number h.client (others f h.node Client)) (Asking (sending_of f h copied (h.client ∷ []))) (Ended (Sends h copied 0))
    (λ v. p) (λ v. tt))

-- only a loan that is to be copied carries its message
abbrev pub IfCopies : Type 0 → Bool → Type 0
IfCopies p true = p
IfCopies p false = Unit {0}

pub loaning_carries : (P : Message → Type 0) (s : State) (copies : Bool) (h : Handle) (left : List Way) → IfCopies (P h.message) copies
    → Carries P (loaning s copies h left)
loaning_carries P s true h [] p =
    either (Carries P) (is_dry s.fixed h.port (kept s h.port [])) (refused OutOfMemory) (sends s.fixed h true) (λ u. tt)
    (λ u. sends_carries P s.fixed h true p)
loaning_carries P s false h [] p =
    either (Carries P) (is_dry s.fixed h.port (kept s h.port [])) (refused OutOfMemory) (Ended (Loans h)) (λ u. tt) (λ u. tt)
loaning_carries P s true h (w ∷ left) p = p
loaning_carries P s false h (w ∷ left) p = tt

-- ---- all else carries nothing

pub visiting_carries : (P : Message → Type 0) (x : Receiver) (left : List Way) (seen : Bool) → Carries P (visiting x left seen)
visiting_carries P x [] seen = tt
visiting_carries P x (w ∷ left) seen = tt

took_carries : (P : Message → Type 0) (f : Fixed) (node : ℕ) (x : Receiver) (w : Way) (m : Message) (left : List Way) (seen : Bool)
    → Carries P (took f node x w m left seen)
took_carries P f node x w m left seen =
    either (Carries P) (is_client x.role) (took_response f node x w m left seen) (took_request f x w m left seen)
    (λ u. either (Carries P) (m.request == x.request) (Ended (Receives x w m)) (stale f node x w m left seen) (λ v. tt)
    (λ v. either (Carries P) (forgot_port f node w.sender) (Again x w left seen) (Stale x w m left seen) (λ i. tt) (λ i. tt)))
    (λ u. either (Carries P) f.limits.fire_and_forget (Ended (Receives x w m)) (Judging x w m left seen) (λ v. tt) (λ v. tt))

pub closing_carries : (P : Message → Type 0) (h : Handle) (left : List Way) → Carries P (closing h left)
closing_carries P h [] = tt
closing_carries P h (w ∷ left) = tt

pub checking_carries : (P : Message → Type 0) (h : Handle) (hinted : Bool) (left : List Way) → Carries P (checking h hinted left)
checking_carries P h hinted [] = tt
checking_carries P h hinted (w ∷ left) = tt

pub hinting_carries : (P : Message → Type 0) (h : Handle) (left : List Way) → Carries P (hinting h left)
hinting_carries P h [] = tt
hinting_carries P h (w ∷ left) = tt

pub seeking_carries : (P : Message → Type 0) (left : List Way) → Carries P (seeking left)
seeking_carries P [] = tt
seeking_carries P (w ∷ left) = tt

-- ---- a moment

pub next_carries : (P : Message → Type 0) (s : State) (node : ℕ) (d : Doing) (a : Moment) → (next s node d a).condition → Carries P d
    → Carries P (next s node d a).after
next_carries P s node (Loaning true h left) (GetBack w k) c p = p
next_carries P s node (Loaning false h left) (GetBack w k) c p = tt
next_carries P s node (Loaning true h left) (SeesNoneBack w) c p = loaning_carries P s true h (without_way w left) p
next_carries P s node (Loaning false h left) (SeesNoneBack w) c p = loaning_carries P s false h (without_way w left) tt
next_carries P s node (Asking x) (Look w shown) c p = asked_carries P x shown p
next_carries P s node (Emptying x left) (GetBack w k) c p = p
next_carries P s node (Emptying x left) (SeesNoneBack w) c p = emptying_carries P x (without_way w left) p
next_carries P s node (Looking x left full) (SeesFull w) c p = looking_carries P x (without_way w left) (w ∷ full) p
next_carries P s node (Looking x left full) (SeesRoom w) c p = looking_carries P x (without_way w left) full p
next_carries P s node (Opening x left full) (Open w id) c p = opening_carries P x (without_way w left) full p
next_carries P s node (Delivering x last left count) (Deliver w m) c p = p
next_carries P s node (Delivering x last left count) (Evict w) c p = p
next_carries P s node (Evicted x v left count) (GetBack w k) c p = p
next_carries P s node (Visiting x left seen) (SeesEmpty w) c p = visiting_carries P x (without_way w left) seen
next_carries P s node (Visiting x left seen) (SeesWaiting w) c p = visiting_carries P x (without_way w left) true
next_carries P s node (Visiting x left seen) (Take w m) c p = took_carries P s.fixed node x w m left seen
next_carries P s node (Again x v left seen) (SeesEmpty w) c p = visiting_carries P x (without_way v left) seen
next_carries P s node (Again x v left seen) (Take w m) c p = took_carries P s.fixed node x v m left seen
next_carries P s node (Judging x v m left seen) (Look w shown) c p =
    either (Carries P) (names shown m.request) (Ended (Receives x v m)) (Stale x v m left seen) (λ u. tt) (λ u. tt)
next_carries P s node (Stale x v m left seen) (GiveBack w k) c p = tt
next_carries P s node (Closing h left) (Close w id) c p = closing_carries P h (without_way w left)
next_carries P s node (Returning h) (GiveBack w k) c p =
    either (Carries P) (same_kind h.kind ActiveRequest) (Leaving h) (Ended (Drops h)) (λ u. tt) (λ u. tt)
next_carries P s node (Leaving h) (Look w shown) c p = tt
next_carries P s node (Leaving h) (Close w id) c p = tt
next_carries P s node (Checking h hinted left) (Look w shown) c p =
    either (Carries P) (is_shown h hinted shown) (Ended (Tells (Answer true))) (checking h hinted (without_way w left)) (λ u. tt)
    (λ u. checking_carries P h hinted (without_way w left))
next_carries P s node (Hinting h left) (Hint w id) c p = hinting_carries P h (without_way w left)
next_carries P s node (Hinting h left) (Look w shown) c p = hinting_carries P h (without_way w left)
next_carries P s node (Seeking left) (SeesEmpty w) c p = seeking_carries P (without_way w left)
next_carries P s node (Seeking left) (SeesWaiting w) c p = tt
next_carries P s node d a c p = absurd c

-- what is delivered is what is carried
pub delivers_carried : (P : Message → Type 0) (s : State) (node : ℕ) (d : Doing) (w : Way) (m : Message) → (next s node d (Deliver w m)).condition
    → Carries P d → P m
delivers_carried P s node (Delivering x last left count) w m c p = subst P (sym c.1) p
delivers_carried P s node d w m c p = absurd c

pub puts_carried : (P : Message → Type 0) (s : State) (node : ℕ) (d : Doing) (a : Moment) (y : Way) (m : Message) → (next s node d a).condition → Carries P d
    → IsOneOf m (message_put_on y (Makes node a)) → P m
puts_carried P s node d (Deliver w n) y m c p among =
    either (λ (ms : List Message). IsOneOf m ms → P m) (same_way y w) (n ∷ []) [] (λ u. one) (λ u none. absurd none) among
  where
    one : IsOneOf m (n ∷ []) → P m
    one (inl e) = subst P (sym e) (delivers_carried P s node d w n c p)
    one (inr none) = absurd none
puts_carried P s node d a y m c p among = absurd among

pub one-append : {A : Type 0} (a : A) (xs ys : List A) → IsOneOf a (xs ++ ys) → IsOneOf a xs ⊎ IsOneOf a ys
one-append a [] ys p = inr p
one-append a (x ∷ xs) ys (inl e) = inl (inl e)
one-append a (x ∷ xs) ys (inr p) = elim (one-append a xs ys p) as (λ u. IsOneOf a (x ∷ xs) ⊎ IsOneOf a ys) [ inl q ↦ inl (inr q) | inr q ↦ inr q ]

-- along the moments of a call
pub moments_put : (P : Message → Type 0) (s : State) (node : ℕ) (d : Doing) (ms : List Moment) (y : Way) (m : Message) → MayCome s node d ms → Carries P d
    → IsOneOf m (messages_put_on y (map (Makes node) ms)) → P m
moments_put P s node d [] y m may p among = absurd among
moments_put P s node d (a ∷ ms) y m may p among =
    elim (one-append m (message_put_on y (Makes node a)) (messages_put_on y (map (Makes node) ms)) among) as (λ u. P m) [
      | inl now ↦ puts_carried P s node d a y m may.1 p now
      | inr later ↦ moments_put P (moved s a) node (next s node d a).after ms y m may.2 (next_carries P s node d a may.1 p) later
    ]
