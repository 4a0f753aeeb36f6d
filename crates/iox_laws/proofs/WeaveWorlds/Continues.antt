-- What a call still has to do can be done, where what it did could.
use Rattle.std.specs.Prelude.{◌≡◌, ℕ, ◌+◌, Bool, true, false, if◌then◌else◌, ◌==◌, nat_lt, nat_le, List, [], ◌∷◌, length, map, Option, None, refl}
use Rattle.std.specs.List.{list_any}
use Rattle.std.proofs.Common.{sym, ap, ◌∙◌, true≢false, arith, subst, eqb-true}
use Rattle.iox_model.specs.declared.kind.Role.TheVariants.{Client, Server}
use Rattle.iox_model.specs.declared.kind.Kind.TheVariants.{ActiveRequest}
use Rattle.iox_model.specs.declared.way.Way.{Way}
use Rattle.iox_model.specs.declared.way.RequestState.{RequestState}
use Rattle.iox_model.specs.declared.reply.Refusal.TheVariants.{ExceedsMaxActiveRequests, UnableToDeliver, OutOfMemory}
use Rattle.iox_model.specs.declared.reply.Reply.TheVariants.{Answer}
use Rattle.iox_model.specs.Receives.{visiting, stale, took_response, took_request, took, judged, seeking}
use Rattle.iox_model.specs.Releases.{closing, given_back}
use Rattle.iox_model.specs.Doings.{refused, Receiver, Sending, Tells, Loans, Sends, FailsToSend, Receives, Drops, Ended, Asking, Again, Judging, Stale, Leaving}
use Rattle.iox_model.specs.States.{Handle, Fixed, State}
use Rattle.iox_model.specs.Settings.{is_client, overflow_of}
use Rattle.iox_model.specs.Requests.{is_last, targets, to_open, opening, looking, emptying, sending_of, sends_request, is_active_spent}
use Rattle.iox_model.specs.Handles.{same_kind, is_request_loan}
use Rattle.iox_model.specs.Maps.{has_number, has_way, without_way, not_in, AreDistinctWays, AreDistinct}
use Rattle.iox_model.specs.Messages.{request_way, response_way, names, Message}
use Rattle.iox_model.specs.Looks.{checking, checked, hinting, is_shown}
use Rattle.iox_model.specs.Outstandings.{kept, is_dry}
use Rattle.iox_model.specs.Responses.{asked, sends, sends_response, loaning}
use Rattle.iox_model.specs.Peers.{role_at, forgot_port, others, buffer_on, overflows_on}
use Rattle.iox_laws.proofs.WeaveLaws.MapLemmas.{either}
use Rattle.iox_laws.proofs.WeaveLaws.Plays.{has_room}
use Rattle.iox_laws.proofs.WeaveWorlds.WayLemmas.{not_in-has, apart-not_in, apart-requests, from_map, from-targets}
use Rattle.iox_laws.proofs.WeaveWorlds.PortLemmas.{AreDistinctPorts, distinct-others}
use Rattle.iox_laws.proofs.WeaveWorlds.Sound.{AreFrom, AreTo, IsTo, IsPortOf, IsOwn, HaveRoom, IsSending, SoundDoing, IsWithin}

-- ---- how many wait

one_more : (n b : ℕ) (o : Bool) → o ≡ true → nat_le n (b + 0) ≡ true → nat_lt n (b + (if o then 1 else 0)) ≡ true
one_more n b true e p = grind (arith)
one_more n b false e p = absurd (true≢false (sym e))

pub grows : (n b : ℕ) (c : Bool) → nat_le n (b + 0) ≡ true → nat_le n (b + (if c then 1 else 0)) ≡ true
grows n b true p = grind (arith)
grows n b false p = p

-- what is within the buffer everywhere is so wherever the last delivery was
pub within_any : (s : State) (node : ℕ) (last : Option Way) → IsWithin s node None → IsWithin s node last
within_any s node last p v of_node = grows (length (s.waiting v)) (buffer_on s.fixed v) (is_last v last) (p v of_node)

-- ---- a send

pub opening_fits : (s : State) (node : ℕ) (x : Sending) (ways full : List Way) → IsSending s.fixed node x
    → HaveRoom s (not_in full (targets x)) → SoundDoing s node (opening x ways full)
opening_fits s node x [] full own rooms = (
  own,
  (λ v there. from-targets x v (not_in-has v full (targets x) there).0),
  apart-not_in full (targets x) own.2,
  rooms,
  tt,
)
opening_fits s node x (w ∷ left) full own rooms = (own, refl, rooms)

pub looking_fits : (s : State) (node : ℕ) (x : Sending) (left full : List Way) → IsSending s.fixed node x
    → ((v : Way) → has_way v (targets x) ≡ true → has_way v left ≡ false → has_way v full ≡ false → has_room s v ≡ true)
    → SoundDoing s node (looking x left full)
looking_fits s node x [] full own seen =
    either (SoundDoing s node) (list_any x.fails full) (Ended (FailsToSend x.loan x.copied UnableToDeliver)) (opening x (to_open x) full) (λ u. own.0)
    (λ u. opening_fits s node x (to_open x) full own (λ v there. seen v (not_in-has v full (targets x) there).0 refl (not_in-has v full (targets x) there).1))
looking_fits s node x (w ∷ left) full own seen = (own, refl, seen)

-- with overflow there is room on each way of a send that delivered to nobody yet
rooms_within : (s : State) (node : ℕ) (x : Sending) → IsSending s.fixed node x → x.overflow ≡ true → IsWithin s node None
    → (v : Way) → has_way v (targets x) ≡ true → has_room s v ≡ true
rooms_within s node x own over within v there =
    let from : v.sender ≡ x.loan.port = from-targets x v there in
    one_more (length (s.waiting v)) (buffer_on s.fixed v) (overflows_on s.fixed v)
    (ap (λ port. overflow_of s.fixed.limits (role_at s.fixed port)) from ∙ sym own.1 ∙ over)
    (within v (subst (IsPortOf s.fixed node) (sym from) own.0.1))

pub emptying_fits : (s : State) (node : ℕ) (x : Sending) (left : List Way) → IsSending s.fixed node x → IsWithin s node None
    → AreFrom x.loan.port left → SoundDoing s node (emptying x left)
emptying_fits s node x [] own within from =
    either (SoundDoing s node) x.overflow (opening x (to_open x) []) (looking x (targets x) [])
    (λ over. opening_fits s node x (to_open x) [] own (λ v there. rooms_within s node x own over within v (not_in-has v [] (targets x) there).0))
    (λ u. looking_fits s node x (targets x) [] own (λ v there gone full. absurd (true≢false (sym there ∙ gone))))
emptying_fits s node x (w ∷ left) own within from = (own, from, refl)

apart_request : (f : Fixed) (h : Handle) (copied : Bool) (to : List ℕ) → is_request_loan h.kind ≡ true → AreDistinct to
    → AreDistinctWays (targets (sending_of f h copied to))
apart_request f h copied to is distinct =
    either AreDistinctWays (is_request_loan h.kind) (map (request_way h.port) to) (map (λ client. response_way client h.lane h.port) to)
    (λ u. apart-requests h.port to distinct) (λ e. absurd (true≢false (sym is ∙ e)))

apart_response : (f : Fixed) (h : Handle) (copied : Bool) → AreDistinctWays (targets (sending_of f h copied (h.client ∷ [])))
apart_response f h copied =
    either AreDistinctWays (is_request_loan h.kind) (map (request_way h.port) (h.client ∷ [])) (map (λ client. response_way client h.lane h.port) (h.client ∷ []))
    (λ u. (refl, tt)) (λ u. (refl, tt))

pub sends_fits : (s : State) (node : ℕ) (h : Handle) (copied : Bool) → AreDistinctPorts s.fixed → IsOwn s.fixed node h
    → IsWithin s node None → SoundDoing s node (sends s.fixed h copied)
sends_fits s node h copied distinct own within =
    let to : List ℕ = others s.fixed h.node Server in
    either (SoundDoing s node) (is_request_loan h.kind) (sends_request s.fixed h copied to) (sends_response s.fixed h copied)
    (λ is. either (SoundDoing s node) (is_active_spent s.fixed h) (Ended (FailsToSend h copied ExceedsMaxActiveRequests))
    (emptying (sending_of s.fixed h copied to) (map (request_way h.port) to)) (λ u. own)
    (λ u. emptying_fits s node (sending_of s.fixed h copied to) (map (request_way h.port) to) (
      own,
      refl,
      apart_request s.fixed h copied to is (distinct-others s.fixed h.node Server distinct),
    ) within
    (from_map h.port (request_way h.port) (λ n. refl) to)))
    (λ no. either (SoundDoing s node) (has_number h.client (others s.fixed h.node Client)) (Asking (sending_of s.fixed h copied (h.client ∷ [])))
    (Ended (Sends h copied 0))
    (λ there. (
      own,
      refl,
      apart_response s.fixed h copied,
    ))
    (λ u. own))

pub asked_fits : (s : State) (node : ℕ) (x : Sending) (shown : RequestState) → IsSending s.fixed node x → IsWithin s node None
    → SoundDoing s node (asked x shown)
asked_fits s node x shown own within =
    either (SoundDoing s node) (names shown x.loan.request) (emptying x (targets x)) (Ended (Sends x.loan x.copied 0))
    (λ u. emptying_fits s node x (targets x) own within (from-targets x)) (λ u. own.0)

-- ---- a loan

pub loaning_fits : (s : State) (node : ℕ) (copies : Bool) (h : Handle) (left : List Way) → AreDistinctPorts s.fixed → IsOwn s.fixed node h
    → IsWithin s node None → AreFrom h.port left → SoundDoing s node (loaning s copies h left)
loaning_fits s node copies h [] distinct own within from =
    either (SoundDoing s node) (is_dry s.fixed h.port (kept s h.port [])) (refused OutOfMemory) (if copies then sends s.fixed h true else Ended (Loans h)) (λ u. tt)
    (λ u. either (SoundDoing s node) copies (sends s.fixed h true) (Ended (Loans h)) (λ v. sends_fits s node h true distinct own within) (λ v. own))
loaning_fits s node copies h (w ∷ left) distinct own within from = (own, from, refl)

-- ---- a receive

pub visiting_fits : (s : State) (node : ℕ) (x : Receiver) (left : List Way) (seen : Bool) → IsPortOf s.fixed node x.port
    → AreTo x left → SoundDoing s node (visiting x left seen)
visiting_fits s node x [] seen own to = tt
visiting_fits s node x (w ∷ left) seen own to = (own, refl, to)

pub took_fits : (s : State) (node : ℕ) (x : Receiver) (w : Way) (m : Message) (left : List Way) (seen : Bool)
    → IsPortOf s.fixed node x.port → IsTo x w → AreTo x left → SoundDoing s node (took s.fixed node x w m left seen)
took_fits s node x w m left seen own here to =
    either (SoundDoing s node) (is_client x.role) (took_response s.fixed node x w m left seen) (took_request s.fixed x w m left seen)
    (λ u. either (SoundDoing s node) (m.request == x.request) (Ended (Receives x w m)) (stale s.fixed node x w m left seen)
    (λ same. (own, here, λ c. eqb-true m.request x.request same))
    (λ v. either (SoundDoing s node) (forgot_port s.fixed node w.sender) (Again x w left seen) (Stale x w m left seen)
    (λ k. (own, here, to)) (λ k. (own, here, to))))
    (λ server. either (SoundDoing s node) s.fixed.limits.fire_and_forget (Ended (Receives x w m)) (Judging x w m left seen)
    (λ v. (own, here, λ client. absurd (true≢false (sym client ∙ server)))) (λ v. (own, here, to, server)))

pub judged_fits : (s : State) (node : ℕ) (x : Receiver) (w : Way) (m : Message) (left : List Way) (seen : Bool) (shown : RequestState)
    → IsPortOf s.fixed node x.port → IsTo x w → AreTo x left → is_client x.role ≡ false → SoundDoing s node (judged x w m left seen shown)
judged_fits s node x w m left seen shown own here to server =
    either (SoundDoing s node) (names shown m.request) (Ended (Receives x w m)) (Stale x w m left seen)
    (λ v. (own, here, λ client. absurd (true≢false (sym client ∙ server)))) (λ v. (own, here, to))

-- ---- the others

pub seeking_fits : (s : State) (node : ℕ) (left : List Way) → SoundDoing s node (seeking left)
seeking_fits s node [] = tt
seeking_fits s node (w ∷ left) = refl

pub closing_fits : (s : State) (node : ℕ) (h : Handle) (left : List Way) → SoundDoing s node (closing h left)
closing_fits s node h [] = tt
closing_fits s node h (w ∷ left) = refl

pub given_back_fits : (s : State) (node : ℕ) (h : Handle) → SoundDoing s node (given_back h)
given_back_fits s node h = either (SoundDoing s node) (same_kind h.kind ActiveRequest) (Leaving h) (Ended (Drops h)) (λ u. tt) (λ u. tt)

pub checking_fits : (s : State) (node : ℕ) (h : Handle) (hinted : Bool) (left : List Way) → SoundDoing s node (checking h hinted left)
checking_fits s node h hinted [] = tt
checking_fits s node h hinted (w ∷ left) = refl

pub checked_fits : (s : State) (node : ℕ) (h : Handle) (hinted : Bool) (left : List Way) (w : Way) (shown : RequestState)
    → SoundDoing s node (checked h hinted left w shown)
checked_fits s node h hinted left w shown =
    either (SoundDoing s node) (is_shown h hinted shown) (Ended (Tells (Answer true))) (checking h hinted (without_way w left)) (λ u. tt)
    (λ u. checking_fits s node h hinted (without_way w left))

pub hinting_fits : (s : State) (node : ℕ) (h : Handle) (left : List Way) → SoundDoing s node (hinting h left)
hinting_fits s node h [] = tt
hinting_fits s node h (w ∷ left) = refl
