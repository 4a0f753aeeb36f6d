-- What a call is going to answer, as a function of the state and of what it has still to do.
use Rattle.std.specs.Prelude.{◌≡◌, ℕ, ◌+◌, Bool, true, false, not, ◌&&◌, ◌||◌, if◌then◌else◌, ◌==◌, nat_le, List, [], ◌∷◌, length, map, filter, refl}
use Rattle.std.specs.List.{list_any, range_with_len}
use Rattle.std.proofs.Common.{sym, ap, ap₂, ◌∙◌, arith}
use Rattle.iox_model.specs.declared.kind.Role.TheVariants.{Client, Server}
use Rattle.iox_model.specs.declared.reply.Refusal.TheVariants.{OutOfMemory, ExceedsMaxActiveRequests, UnableToDeliver, ExceedsMaxBorrows}
use Rattle.iox_model.specs.declared.reply.Reply.TheVariants.{Done, Nothing, Answer, Refused}
use Rattle.iox_model.specs.declared.reply.Reply.TheVariants as replies
use Rattle.iox_model.specs.declared.way.Way.{Way}
use Rattle.iox_model.specs.declared.way.RequestState.{RequestState}
use Rattle.iox_model.specs.Commands.{Reply}
use Rattle.iox_model.specs.Doings.{refused, Receiver, Sending, Loans, Sends, FailsToSend, Doing, Ended, Loaning, Asking, Emptying, Looking, Opening, Delivering, Evicted, Visiting, Again, Judging, Stale, Closing, Returning, Leaving, Checking, Hinting, Seeking}
use Rattle.iox_model.specs.Handles.{is_request_loan, new_number, own_state}
use Rattle.iox_model.specs.Looks.{checking, hinting, is_shown}
use Rattle.iox_model.specs.Maps.{is_empty, has_number, has_way, not_in}
use Rattle.iox_model.specs.Messages.{request_way, names, Message}
use Rattle.iox_model.specs.Outstandings.{is_held, kept, is_dry}
use Rattle.iox_model.specs.Peers.{others, buffer_on, ways_from}
use Rattle.iox_model.specs.Receives.{visiting, state_of_request, is_at_limit, seeking}
use Rattle.iox_model.specs.Releases.{closing}
use Rattle.iox_model.specs.Requests.{targets, to_open, sending_of, opening, looking, emptying, is_active_spent, sends_request}
use Rattle.iox_model.specs.Responses.{sends_response, asked, sends, loaning}
use Rattle.iox_model.specs.Settings.{is_client}
use Rattle.iox_model.specs.States.{Handle, Fixed, State}
use Rattle.iox_model.specs.WholeCalls.{sent_reply, replied}
use Rattle.iox_laws.proofs.WeaveLedger.Truths.{and-first}
use Rattle.iox_laws.proofs.ReplyLaws.Ways.{or-none, elsewhere}

-- ---- a send

abbrev pub is_full_at : Fixed → (Way → List Message) → Way → Bool
is_full_at f waiting w = nat_le (buffer_on f w) (length (waiting w))

-- it fails, or so many of the targets are not full
abbrev pub sent_or : Fixed → ℕ → Sending → Bool → ℕ → Reply
sent_or f node x true count = Refused UnableToDeliver
sent_or f node x false count = sent_reply f node x.loan x.copied count

abbrev pub spared : (Way → Bool) → List Way → ℕ
spared full ways = length (filter (λ w. not (full w)) ways)

-- those seen full, and those that will be
abbrev pub is_among_full : (Way → Bool) → List Way → List Way → Way → Bool
is_among_full test left full w = has_way w full || (has_way w left && test w)

abbrev pub fails_among : Sending → (Way → Bool) → List Way → List Way → Bool
fails_among x test left full = list_any x.fails full || list_any (λ w. x.fails w && test w) left

abbrev pub opened_told : Fixed → ℕ → Sending → List Way → Reply
opened_told f node x full = sent_reply f node x.loan x.copied (length (not_in full (targets x)))

abbrev pub looked_told : Fixed → (Way → List Message) → ℕ → Sending → List Way → List Way → Reply
looked_told f waiting node x left full =
    sent_or f node x (fails_among x (is_full_at f waiting) left full) (spared (is_among_full (is_full_at f waiting) left full) (targets x))

abbrev pub emptied_told : Fixed → (Way → List Message) → ℕ → Sending → Reply
emptied_told f waiting node x = if x.overflow then opened_told f node x [] else looked_told f waiting node x (targets x) []

abbrev pub asked_told : Fixed → (Way → List Message) → ℕ → Sending → RequestState → Reply
asked_told f waiting node x shown =
    if names shown x.loan.request then emptied_told f waiting node x else sent_reply f node x.loan x.copied 0

abbrev pub request_told : Fixed → (Way → List Message) → ℕ → Handle → Bool → List ℕ → Reply
request_told f waiting node h copied servers =
    if is_active_spent f h then Refused ExceedsMaxActiveRequests else emptied_told f waiting node (sending_of f h copied servers)

abbrev pub response_told : Fixed → (Way → List Message) → (Way → RequestState) → ℕ → Handle → Bool → Reply
response_told f waiting request_state node h copied =
    if has_number h.client (others f h.node Client)
    then asked_told f waiting node (sending_of f h copied (h.client ∷ [])) (request_state (own_state h))
    else sent_reply f node h copied 0

abbrev pub sends_told : Fixed → (Way → List Message) → (Way → RequestState) → ℕ → Handle → Bool → Reply
sends_told f waiting request_state node h copied =
    if is_request_loan h.kind then request_told f waiting node h copied (others f h.node Server)
    else response_told f waiting request_state node h copied

-- ---- a loan

-- the message is kept once what was given back on the ways that are left is got back
abbrev pub is_kept_yet : State → ℕ → List Way → ℕ → Bool
is_kept_yet s port left k =
    is_held s.fixed port k || list_any (λ w. s.delivered w k && not (has_way w left && has_number k (s.returned w))) (ways_from s.fixed port)

abbrev pub kept_yet : State → ℕ → List Way → List ℕ
kept_yet s port left = filter (is_kept_yet s port left) (range_with_len 0 (s.fixed.loans port + 1))

abbrev pub loaned_or : Bool → Reply → Reply
loaned_or dry reply = if dry then Refused OutOfMemory else reply

abbrev pub lent_told : State → ℕ → Bool → Handle → Reply
lent_told s node copies h =
    if copies then sends_told s.fixed s.waiting s.request_state node h true else replies.Handle (new_number s.fixed node)

abbrev pub loaned_told : State → ℕ → Bool → Handle → List Way → Reply
loaned_told s node copies h left = loaned_or (is_dry s.fixed h.port (kept_yet s h.port left)) (lent_told s node copies h)

-- ---- a receive

abbrev pub fits_now : Fixed → (Way → RequestState) → Receiver → Way → Message → Bool
fits_now f request_state x w m =
    if is_client x.role then m.request == x.request else (f.limits.fire_and_forget || names (request_state (state_of_request w m)) m.request)

-- the way gives a message that fits; it has one that the receiver may not take
abbrev pub gives : State → Receiver → Way → Bool
gives s x w = not (is_at_limit s.fixed w) && list_any (fits_now s.fixed s.request_state x w) (s.waiting w)

abbrev pub blocks : State → Way → Bool
blocks s w = is_at_limit s.fixed w && not (is_empty (s.waiting w))

abbrev pub got : Fixed → ℕ → Bool → Bool → Reply
got f node true seen = replies.Handle (new_number f node)
got f node false true = Refused ExceedsMaxBorrows
got f node false false = Nothing

abbrev pub visited_told : State → ℕ → Receiver → List Way → Bool → Reply
visited_told s node x left seen = got s.fixed node (list_any (gives s x) left) (seen || list_any (blocks s) left)

-- this message fits, or one behind it on its way, or one elsewhere
abbrev pub gives_on : State → Receiver → Way → List Way → Bool
gives_on s x v left = list_any (fits_now s.fixed s.request_state x v) (s.waiting v) || list_any (elsewhere v (gives s x)) left

abbrev pub again_told : State → ℕ → Receiver → Way → List Way → Bool → Bool → Reply
again_told s node x v left seen fits =
    got s.fixed node (fits || gives_on s x v left) (seen || list_any (elsewhere v (blocks s)) left)

-- ---- all calls

abbrev pub told : State → ℕ → Doing → Reply
told s node (Ended o) = replied s.fixed node o
told s node (Loaning copies h left) = loaned_told s node copies h left
told s node (Asking x) = asked_told s.fixed s.waiting node x (s.request_state (own_state x.loan))
told s node (Emptying x left) = emptied_told s.fixed s.waiting node x
told s node (Looking x left full) = looked_told s.fixed s.waiting node x left full
told s node (Opening x left full) = opened_told s.fixed node x full
told s node (Delivering x last left count) = sent_reply s.fixed node x.loan x.copied (count + length left)
told s node (Evicted x w left count) = sent_reply s.fixed node x.loan x.copied (count + length left)
told s node (Visiting x left seen) = visited_told s node x left seen
told s node (Again x v left seen) = again_told s node x v left seen false
told s node (Judging x v m left seen) = again_told s node x v left seen (names (s.request_state (state_of_request v m)) m.request)
told s node (Stale x v m left seen) = again_told s node x v left seen false
told s node (Closing h left) = Done
told s node (Returning h) = Done
told s node (Leaving h) = Done
told s node (Checking h hinted left) = Answer (list_any (λ w. is_shown h hinted (s.request_state w)) left)
told s node (Hinting h left) = Done
told s node (Seeking left) = Answer (list_any (λ w. not (is_empty (s.waiting w))) left)

-- ---- what is told where a phase begins

-- of two doings, by a test
pub told_if : (s : State) (node : ℕ) (b : Bool) (d e : Doing) (p q : Reply) → told s node d ≡ p → told s node e ≡ q
    → told s node (if b then d else e) ≡ (if b then p else q)
told_if s node true d e p q x y = x
told_if s node false d e p q x y = y

pub opening_told : (s : State) (node : ℕ) (x : Sending) (left full : List Way) → told s node (opening x left full) ≡ opened_told s.fixed node x full
opening_told s node x [] full = ap (sent_reply s.fixed node x.loan x.copied) (from-none (length (not_in full (targets x))))
  where
    from-none : (n : ℕ) → 0 + n ≡ n
    from-none n = omega arith
opening_told s node x (w ∷ left) full = refl

pub looking_told : (s : State) (node : ℕ) (x : Sending) (left full : List Way)
    → told s node (looking x left full) ≡ looked_told s.fixed s.waiting node x left full
looking_told s node x [] full =
    told_by (list_any x.fails full)
    ∙ sym (ap₂ (sent_or s.fixed node x) (or-none (list_any x.fails full)) (λ i. spared (λ w. or-none (has_way w full) i) (targets x)))
  where
    told_by : (b : Bool) → told s node (if b then Ended (FailsToSend x.loan x.copied UnableToDeliver) else opening x (to_open x) full)
        ≡ sent_or s.fixed node x b (length (not_in full (targets x)))
    told_by true = refl
    told_by false = opening_told s node x (to_open x) full
looking_told s node x (w ∷ left) full = refl

pub emptying_told : (s : State) (node : ℕ) (x : Sending) (left : List Way) → told s node (emptying x left) ≡ emptied_told s.fixed s.waiting node x
emptying_told s node x [] =
    told_if s node x.overflow (opening x (to_open x) []) (looking x (targets x) []) _ _
    (opening_told s node x (to_open x) []) (looking_told s node x (targets x) [])
emptying_told s node x (w ∷ left) = refl

pub asked-told : (s : State) (node : ℕ) (x : Sending) (shown : RequestState) → told s node (asked x shown) ≡ asked_told s.fixed s.waiting node x shown
asked-told s node x shown =
    told_if s node (names shown x.loan.request) (emptying x (targets x)) (Ended (Sends x.loan x.copied 0)) _ _
    (emptying_told s node x (targets x)) refl

pub sends-told : (s : State) (node : ℕ) (h : Handle) (copied : Bool)
    → told s node (sends s.fixed h copied) ≡ sends_told s.fixed s.waiting s.request_state node h copied
sends-told s node h copied =
    let x : Sending = sending_of s.fixed h copied (others s.fixed h.node Server) in
    let ways : List Way = map (request_way h.port) (others s.fixed h.node Server) in
    told_if s node (is_request_loan h.kind) (sends_request s.fixed h copied (others s.fixed h.node Server)) (sends_response s.fixed h copied) _ _
    (told_if s node (is_active_spent s.fixed h) (Ended (FailsToSend h copied ExceedsMaxActiveRequests))
    (emptying x ways) _ _ refl (emptying_told s node x ways))
    (told_if s node (has_number h.client (others s.fixed h.node Client)) (Asking (sending_of s.fixed h copied (h.client ∷ [])))
    (Ended (Sends h copied 0)) _ _ refl refl)

all_kept : (s : State) (port : ℕ) → kept s port [] ≡ kept_yet s port []
all_kept s port =
    λ i. filter
    (λ k. is_held s.fixed port k || list_any (λ w. sym (and-first (s.delivered w k)) i) (ways_from s.fixed port))
    (range_with_len 0 (s.fixed.loans port + 1))

pub loaning_told : (s : State) (node : ℕ) (copies : Bool) (h : Handle) (left : List Way)
    → told s node (loaning s copies h left) ≡ loaned_told s node copies h left
loaning_told s node copies h [] =
    told_if s node (is_dry s.fixed h.port (kept s h.port [])) (refused OutOfMemory) (if copies then sends s.fixed h true else Ended (Loans h)) _ _ refl
    (told_if s node copies (sends s.fixed h true) (Ended (Loans h)) _ _ (sends-told s node h true) refl)
    ∙ ap (λ ks. loaned_or (is_dry s.fixed h.port ks) (lent_told s node copies h)) (all_kept s h.port)
loaning_told s node copies h (w ∷ left) = refl

pub visiting_told : (s : State) (node : ℕ) (x : Receiver) (left : List Way) (seen : Bool)
    → told s node (visiting x left seen) ≡ visited_told s node x left seen
visiting_told s node x [] true = refl
visiting_told s node x [] false = refl
visiting_told s node x (w ∷ left) seen = refl

pub closing_told : (s : State) (node : ℕ) (h : Handle) (left : List Way) → told s node (closing h left) ≡ Done
closing_told s node h [] = refl
closing_told s node h (w ∷ left) = refl

pub checking_told : (s : State) (node : ℕ) (h : Handle) (hinted : Bool) (left : List Way)
    → told s node (checking h hinted left) ≡ Answer (list_any (λ w. is_shown h hinted (s.request_state w)) left)
checking_told s node h hinted [] = refl
checking_told s node h hinted (w ∷ left) = refl

pub hinting_told : (s : State) (node : ℕ) (h : Handle) (left : List Way) → told s node (hinting h left) ≡ Done
hinting_told s node h [] = refl
hinting_told s node h (w ∷ left) = refl

pub seeking_told : (s : State) (node : ℕ) (left : List Way) → told s node (seeking left) ≡ Answer (list_any (λ w. not (is_empty (s.waiting w))) left)
seeking_told s node [] = refl
seeking_told s node (w ∷ left) = refl
