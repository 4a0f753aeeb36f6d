-- Without fire-and-forget a server receives only what it sees named.
use Rattle.std.specs.Prelude.{◌≡◌, ℕ, Bool, true, false, if◌then◌else◌, ◌==◌, List, [], ◌∷◌, map, Some, IsTrue}
use Rattle.std.specs.List.{list_any}
use Rattle.std.proofs.Common.{sym, subst, ap, ◌∙◌, true≢false}
use Rattle.iox_model.specs.declared.kind.Role.TheVariants.{Client, Server}
use Rattle.iox_model.specs.declared.kind.Kind.TheVariants.{ActiveRequest}
use Rattle.iox_model.specs.declared.way.Way.{Way}
use Rattle.iox_model.specs.declared.way.RequestState.{RequestState}
use Rattle.iox_model.specs.declared.reply.Refusal.TheVariants.{OutOfMemory, ExceedsMaxActiveRequests, UnableToDeliver}
use Rattle.iox_model.specs.declared.reply.Reply.TheVariants.{Answer}
use Rattle.iox_model.specs.Receives.{visiting, stale, took_response, took_request, took, judged, state_of_request, seeking}
use Rattle.iox_model.specs.Releases.{closing}
use Rattle.iox_model.specs.Doings.{refused, Receiver, Sending, Tells, Loans, Sends, FailsToSend, Receives, Drops, Doing, Ended, Loaning, Asking, Emptying, Looking, Opening, Delivering, Evicted, Visiting, Again, Judging, Stale, Closing, Returning, Leaving, Checking, Hinting, Seeking}
use Rattle.iox_model.specs.Weaves.{World}
use Rattle.iox_model.specs.Settings.{is_client}
use Rattle.iox_model.specs.States.{Handle, Fixed, State}
use Rattle.iox_model.specs.Requests.{targets, to_open, sending_of, opening, looking, emptying, is_active_spent, sends_request}
use Rattle.iox_model.specs.Handles.{same_kind, is_request_loan}
use Rattle.iox_model.specs.Maps.{has_number, same_way, without_way}
use Rattle.iox_model.specs.Moments.{Moment, Deliver, Evict, Take, GiveBack, GetBack, SeesEmpty, SeesWaiting, SeesFull, SeesRoom, SeesNoneBack, Open, Close, Hint, Look}
use Rattle.iox_model.specs.Looks.{checking, is_shown, hinting}
use Rattle.iox_laws.specs.WeaveLaws.Laws.{ReceivesNamed}
use Rattle.iox_model.specs.Messages.{request_way, names, Message}
use Rattle.iox_model.specs.Outstandings.{kept, is_dry}
use Rattle.iox_model.specs.Transitions.{next}
use Rattle.iox_model.specs.Responses.{sends_response, asked, sends, loaning, copies}
use Rattle.iox_model.specs.Peers.{forgot_port, others}
use Rattle.iox_laws.proofs.WeaveLaws.PlayedCalls.{ended}
use Rattle.iox_laws.proofs.WeaveLaws.MapLemmas.{either, same_way-true}
use Rattle.iox_laws.proofs.WeaveLaws.WholeLemmas.{put_at-here, some-is}

-- a look shows the request of that message named
abbrev pub ShowsNamed : Way → Message → Moment → Type 0
ShowsNamed y m a = (shown : RequestState) × (a ≡ Look (state_of_request y m) shown) × IsTrue (names shown m.request)

-- the call got a server a request by a look that shows it named
abbrev pub ByLook : Moment → Doing → Type 0
ByLook a (Ended (Receives x y m)) = is_client x.role ≡ false → ShowsNamed y m a
ByLook a d = Unit {0}

judged_by_look : (x : Receiver) (v w : Way) (m : Message) (left : List Way) (seen : Bool) (shown : RequestState)
    → same_way w (state_of_request v m) ≡ true → ByLook (Look w shown) (judged x v m left seen shown)
judged_by_look x v w m left seen shown e =
    either (ByLook (Look w shown)) (names shown m.request) (Ended (Receives x v m)) (Stale x v m left seen)
    (λ named role. (shown, ap (λ u. Look u shown) (same_way-true w (state_of_request v m) e), named)) (λ u. tt)

visiting_by_look : (a : Moment) (x : Receiver) (left : List Way) (seen : Bool) → ByLook a (visiting x left seen)
visiting_by_look a x [] seen = tt
visiting_by_look a x (w ∷ left) seen = tt

took_by_look : (a : Moment) (f : Fixed) (node : ℕ) (x : Receiver) (w : Way) (m : Message) (left : List Way) (seen : Bool)
    → f.limits.fire_and_forget ≡ false → ByLook a (took f node x w m left seen)
took_by_look a f node x w m left seen off =
    either (ByLook a) (is_client x.role) (took_response f node x w m left seen) (took_request f x w m left seen)
    (λ client. either (ByLook a) (m.request == x.request) (Ended (Receives x w m)) (stale f node x w m left seen)
    (λ same server. absurd (true≢false (sym client ∙ server)))
    (λ other. either (ByLook a) (forgot_port f node w.sender) (Again x w left seen) (Stale x w m left seen) (λ u. tt) (λ u. tt)))
    (λ server. either (ByLook a) f.limits.fire_and_forget (Ended (Receives x w m)) (Judging x w m left seen)
    (λ on. absurd (true≢false (sym on ∙ off))) (λ u. tt))

opening_by_look : (a : Moment) (x : Sending) (left full : List Way) → ByLook a (opening x left full)
opening_by_look a x [] full = tt
opening_by_look a x (w ∷ left) full = tt

looking_by_look : (a : Moment) (x : Sending) (left full : List Way) → ByLook a (looking x left full)
looking_by_look a x [] full =
    either (ByLook a) (list_any x.fails full) (Ended (FailsToSend x.loan x.copied UnableToDeliver)) (opening x (to_open x) full)
    (λ u. tt) (λ u. opening_by_look a x (to_open x) full)
looking_by_look a x (w ∷ left) full = tt

emptying_by_look : (a : Moment) (x : Sending) (left : List Way) → ByLook a (emptying x left)
emptying_by_look a x [] =
    either (ByLook a) x.overflow (opening x (to_open x) []) (looking x (targets x) [])
    (λ u. opening_by_look a x (to_open x) []) (λ u. looking_by_look a x (targets x) [])
emptying_by_look a x (w ∷ left) = tt

asked_by_look : (a : Moment) (x : Sending) (shown : RequestState) → ByLook a (asked x shown)
asked_by_look a x shown =
    either (ByLook a) (names shown x.loan.request) (emptying x (targets x)) (Ended (Sends x.loan x.copied 0))
    (λ u. emptying_by_look a x (targets x)) (λ u. tt)

sends_by_look : (a : Moment) (f : Fixed) (h : Handle) (copied : Bool) → ByLook a (sends f h copied)
sends_by_look a f h copied =
    either (ByLook a) (is_request_loan h.kind) (sends_request f h copied (others f h.node Server)) (sends_response f h copied)
    (λ u. either (ByLook a) (is_active_spent f h) (Ended (FailsToSend h copied ExceedsMaxActiveRequests))
    (emptying (sending_of f h copied (others f h.node Server)) (map (request_way h.port) (others f h.node Server)))
    (λ v. tt) (λ v. emptying_by_look a (sending_of f h copied (others f h.node Server)) (map (request_way h.port) (others f h.node Server))))
    (λ u. either (ByLook a) (has_number h.client (others f h.node Client)) (Asking (sending_of f h copied (h.client ∷ [])))
    (Ended (Sends h copied 0)) (λ v. tt) (λ v. tt))

loaning_by_look : (a : Moment) (s : State) (copies : Bool) (h : Handle) (left : List Way) → ByLook a (loaning s copies h left)
loaning_by_look a s copies h [] =
    either (ByLook a) (is_dry s.fixed h.port (kept s h.port [])) (refused OutOfMemory) (if copies then sends s.fixed h true else Ended (Loans h))
    (λ u. tt) (λ u. either (ByLook a) copies (sends s.fixed h true) (Ended (Loans h)) (λ v. sends_by_look a s.fixed h true) (λ v. tt))
loaning_by_look a s copies h (w ∷ left) = tt

closing_by_look : (a : Moment) (h : Handle) (left : List Way) → ByLook a (closing h left)
closing_by_look a h [] = tt
closing_by_look a h (w ∷ left) = tt

checking_by_look : (a : Moment) (h : Handle) (hinted : Bool) (left : List Way) → ByLook a (checking h hinted left)
checking_by_look a h hinted [] = tt
checking_by_look a h hinted (w ∷ left) = tt

hinting_by_look : (a : Moment) (h : Handle) (left : List Way) → ByLook a (hinting h left)
hinting_by_look a h [] = tt
hinting_by_look a h (w ∷ left) = tt

seeking_by_look : (a : Moment) (left : List Way) → ByLook a (seeking left)
seeking_by_look a [] = tt
seeking_by_look a (w ∷ left) = tt

pub next_by_look : (s : State) (node : ℕ) (d : Doing) (a : Moment) → s.fixed.limits.fire_and_forget ≡ false → (next s node d a).condition
    → ByLook a (next s node d a).after
next_by_look s node (Loaning copies h left) (GetBack w k) off c = tt
next_by_look s node (Loaning copies h left) (SeesNoneBack w) off c = loaning_by_look (SeesNoneBack w) s copies h (without_way w left)
next_by_look s node (Asking x) (Look w shown) off c = asked_by_look (Look w shown) x shown
next_by_look s node (Emptying x left) (GetBack w k) off c = tt
next_by_look s node (Emptying x left) (SeesNoneBack w) off c = emptying_by_look (SeesNoneBack w) x (without_way w left)
next_by_look s node (Looking x left full) (SeesFull w) off c = looking_by_look (SeesFull w) x (without_way w left) (w ∷ full)
next_by_look s node (Looking x left full) (SeesRoom w) off c = looking_by_look (SeesRoom w) x (without_way w left) full
next_by_look s node (Opening x left full) (Open w id) off c = opening_by_look (Open w id) x (without_way w left) full
next_by_look s node (Delivering x last left count) (Deliver w m) off c = tt
next_by_look s node (Delivering x last left count) (Evict w) off c = tt
next_by_look s node (Evicted x v left count) (GetBack w k) off c = tt
next_by_look s node (Visiting x left seen) (SeesEmpty w) off c = visiting_by_look (SeesEmpty w) x (without_way w left) seen
next_by_look s node (Visiting x left seen) (SeesWaiting w) off c = visiting_by_look (SeesWaiting w) x (without_way w left) true
next_by_look s node (Visiting x left seen) (Take w m) off c = took_by_look (Take w m) s.fixed node x w m left seen off
next_by_look s node (Again x v left seen) (SeesEmpty w) off c = visiting_by_look (SeesEmpty w) x (without_way v left) seen
next_by_look s node (Again x v left seen) (Take w m) off c = took_by_look (Take w m) s.fixed node x v m left seen off
next_by_look s node (Judging x v m left seen) (Look w shown) off c = judged_by_look x v w m left seen shown c
next_by_look s node (Stale x v m left seen) (GiveBack w k) off c = tt
next_by_look s node (Closing h left) (Close w id) off c = closing_by_look (Close w id) h (without_way w left)
next_by_look s node (Returning h) (GiveBack w k) off c =
    either (ByLook (GiveBack w k)) (same_kind h.kind ActiveRequest) (Leaving h) (Ended (Drops h)) (λ u. tt) (λ u. tt)
next_by_look s node (Leaving h) (Look w shown) off c = tt
next_by_look s node (Leaving h) (Close w id) off c = tt
next_by_look s node (Checking h hinted left) (Look w shown) off c =
    either (ByLook (Look w shown)) (is_shown h hinted shown) (Ended (Tells (Answer true))) (checking h hinted (without_way w left))
    (λ u. tt) (λ u. checking_by_look (Look w shown) h hinted (without_way w left))
next_by_look s node (Hinting h left) (Hint w id) off c = hinting_by_look (Hint w id) h (without_way w left)
next_by_look s node (Hinting h left) (Look w shown) off c = hinting_by_look (Look w shown) h (without_way w left)
next_by_look s node (Seeking left) (SeesEmpty w) off c = seeking_by_look (SeesEmpty w) (without_way w left)
next_by_look s node (Seeking left) (SeesWaiting w) off c = tt
next_by_look s node d a off c = absurd c

pub receives_named : ReceivesNamed
receives_named w v node a x y m beat ended server off =
    let after : Doing = (next w.state node beat.1 a).after in
    let here : v.doing node ≡ Some after = ap (λ (u : World). u.doing node) beat.5 ∙ put_at-here w.doing node (Some after) in
    subst (ByLook a) (some-is after (Ended (Receives x y m)) (sym here ∙ ended)) (next_by_look w.state node beat.1 a off beat.4) server
