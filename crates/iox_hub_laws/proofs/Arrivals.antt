-- The phases of a send, and what holds in each.
use Rattle.std.specs.Prelude.{◌≡◌, ◌⊎◌, ℕ, ◌+◌, ◌-◌, ◌<◌, ◌≤◌, Bool, true, false, not, ◌&&◌, ◌||◌, ◌==◌, nat_lt, nat_le, if◌then◌else◌, List, [], ◌∷◌, ◌++◌, length, map, drop, Option, Some, None, refl}
use Rattle.std.specs.List.{list_any}
use Rattle.std.proofs.Common.{sym, ap, ap₂, subst, ◌∙◌, arith, true≢false, inl, inr, eqb-true, length-append}
use Rattle.std.proofs.lemmas.Bool.{leb-true}
use Rattle.std.proofs.lemmas.Option.{none-some, same_Some}
use Rattle.iox_model.specs.declared.kind.Role.TheVariants.{Client, Server}
use Rattle.iox_model.specs.declared.reply.Refusal.TheVariants.{OutOfMemory, ExceedsMaxActiveRequests, UnableToDeliver}
use Rattle.iox_model.specs.declared.way.RequestState.{RequestState}
use Rattle.iox_model.specs.declared.way.RequestState.TheVariants.{Named}
use Rattle.iox_model.specs.declared.way.Way.{Way}
use Rattle.iox_model.specs.declared.reply.Reply.TheVariants.{Refused}
use Rattle.iox_model.specs.Commands.{Reply}
use Rattle.iox_model.specs.Doings.{refused, Sending, Outcome, Tells, Loans, Sends, FailsToSend, Doing, Ended, Loaning, Asking, Emptying, Looking, Opening, Delivering, Evicted}
use Rattle.iox_model.specs.Handles.{is_request_loan, own_state}
use Rattle.iox_model.specs.Maps.{AreDistinctWays, has_number, has_way, not_in, put, rest_of, same_way, without_way}
use Rattle.iox_model.specs.Messages.{names, request_way, Message}
use Rattle.iox_model.specs.Moments.{Holds, moved, Moment, Deliver, Evict, Take, GiveBack, GetBack, SeesEmpty, SeesWaiting, SeesFull, SeesRoom, SeesNoneBack, Open, Close, Hint, Look}
use Rattle.iox_model.specs.Outstandings.{kept, is_dry}
use Rattle.iox_model.specs.Peers.{buffer_on, others, overflows_on, role_at}
use Rattle.iox_model.specs.Requests.{emptying, fails_at, is_active_spent, is_last, is_over, looking, may_evict, opening, sending_of, sends_request, targets, to_open}
use Rattle.iox_model.specs.Responses.{asked, loaned, loaning, sends, sends_response}
use Rattle.iox_model.specs.Settings.{overflow_of}
use Rattle.iox_model.specs.States.{Handle, Fixed, State}
use Rattle.iox_model.specs.Transitions.{ends, next}
use Rattle.iox_model.specs.WholeCalls.{MayCome, left_by, moved_by}
use Rattle.iox_laws.specs.CallFunctions.Responses.{is_awaited}
use Rattle.iox_laws.specs.CallFunctions.Sends.{is_full}
use Rattle.iox_laws.proofs.WeaveLaws.MapLemmas.{either, put-else, same_way-refl, same_way-true}
use Rattle.iox_laws.proofs.WeaveLedger.Truths.{both_true, by_cases, false_if, or-neither, or-rest}
use Rattle.iox_laws.proofs.WeaveWorlds.WayLemmas.{apart-gone, apart-not_in, apart-without, from-targets, has_way-without, not_in-has}
use Rattle.iox_laws.proofs.ReplyLaws.Ways.{has_other}
use Rattle.iox_hub_laws.specs.Arrivals.{newest, takes_more, with_last}

-- ---- lists

drop_none : {A : Type 0} (xs : List A) (k : ℕ) → k ≡ 0 → drop k xs ≡ xs
drop_none xs k e = ap (λ n. drop n xs) e

rest_is_drop : {A : Type 0} (xs : List A) → drop 1 xs ≡ rest_of xs
rest_is_drop [] = refl
rest_is_drop (x ∷ xs) = refl

-- as many as there may be: all stay
pub all_newest : {A : Type 0} (xs : List A) (k : ℕ) → length xs ≤ k → newest k xs ≡ xs
all_newest xs k le = drop_none xs (length xs - k) (omega arith)

-- one more than there may be: the oldest goes
pub one_goes : {A : Type 0} (xs : List A) (k : ℕ) → length xs ≡ k + 1 → newest k xs ≡ rest_of xs
one_goes xs k e = ap (λ n. drop n xs) (one (length xs) e) ∙ rest_is_drop xs
  where
    one : (n : ℕ) → n ≡ k + 1 → n - k ≡ 1
    one n e = omega arith

pub one_longer : {A : Type 0} (xs : List A) (a : A) → length (xs ++ a ∷ []) ≡ length xs + 1
one_longer xs a = length-append xs (a ∷ [])

-- ---- truths

pub is_less : (n b : ℕ) → nat_le b n ≡ false → nat_lt n b ≡ true
is_less n b e = grind (arith)

pub not_less : (n b : ℕ) → nat_lt n b ≡ false → b ≤ n
not_less n b e = grind (arith)

pub less : (n b : ℕ) → nat_lt n b ≡ true → n < b
less n b e = grind (arith)

pub put_here : {A : Type 0} (f : Way → A) (w : Way) (a : A) (v : Way) → same_way v w ≡ true → put f w a v ≡ a
put_here f w a v e = ap (λ (b : Bool). if b then a else f v) e

pub in-not_in : (v : Way) (full ways : List Way) → has_way v ways ≡ true → has_way v full ≡ false → has_way v (not_in full ways) ≡ true
in-not_in v full [] e out = e
in-not_in v full (u ∷ us) e out =
    either (λ ws. has_way v ws ≡ true) (not (has_way u full)) (u ∷ not_in full us) (not_in full us)
    (λ spared. by_cases (same_way v u) (λ same. ap (λ b. b || has_way v (not_in full us)) same)
    (λ other. ap (λ b. b || has_way v (not_in full us)) other ∙ in-not_in v full us (or-rest (same_way v u) (has_way v us) e other) out))
    (λ seen. by_cases (same_way v u)
    (λ same. absurd (true≢false (sym (ap not (sym (ap (λ a. has_way a full) (same_way-true v u same)) ∙ out)) ∙ seen)))
    (λ other. in-not_in v full us (or-rest (same_way v u) (has_way v us) e other) out))

-- the reply is a refusal
abbrev pub IsRefusal : Reply → Type 0
IsRefusal (Refused r) = Unit {0}
IsRefusal reply = ⊥

module _ (z : State) (node : ℕ) (h : Handle) (copied : Bool) (to : List ℕ) where
  -- the send
  abbrev pub x : Sending
  x = sending_of z.fixed h copied to

  -- the ways on which it goes
  abbrev pub ways : List Way
  ways = targets x

  -- whether the message is put on the way
  abbrev pub goes : Way → Bool
  goes w = has_way w ways && takes_more z w

  -- what waits on the way in the end
  abbrev pub final : Way → List Message
  final w = if goes w then newest (buffer_on z.fixed w) (z.waiting w ++ h.message ∷ []) else z.waiting w

  -- no message came or went yet, and no request state changed
  pub record IsQuiet (s : State) : Type 0 where
    pub fixed : s.fixed ≡ z.fixed
    pub waiting : (w : Way) → s.waiting w ≡ z.waiting w
    pub states : (w : Way) → s.request_state w ≡ z.request_state w

  -- what a send passed before it went on to its ways
  pub record MayGo : Type 0 where
    pub unspent : is_request_loan h.kind ≡ true → is_active_spent z.fixed h ≡ false
    pub awaited : is_request_loan h.kind ≡ false → is_awaited z h ≡ true

  -- what was looked at, and what is left
  pub record IsLooking (left full : List Way) : Type 0 where
    pub seen : (w : Way) → has_way w ways ≡ true → has_way w left ≡ false → has_way w full ≡ is_full z w
    pub unseen : (w : Way) → has_way w left ≡ true → has_way w full ≡ false
    pub apart : AreDistinctWays left

  -- the full ways are those that take no more
  abbrev pub AreFull : List Way → Type 0
  AreFull full = (w : Way) → has_way w ways ≡ true → not (has_way w full) ≡ takes_more z w

  -- the states that are open, and those that are left
  pub record IsOpened (s : State) (left : List Way) : Type 0 where
    pub opened :
        (w : Way) → has_way w (to_open x) ≡ true → has_way w left ≡ false → s.request_state w ≡ Named h.request false
    pub closed : (w : Way) → has_way w (to_open x) ≡ false → s.request_state w ≡ z.request_state w
    pub inside : (w : Way) → has_way w left ≡ true → has_way w (to_open x) ≡ true

  -- a send that opens
  pub record IsOpening (s : State) (left full : List Way) : Type 0 where
    pub may : MayGo
    pub fixed : s.fixed ≡ z.fixed
    pub waiting : (w : Way) → s.waiting w ≡ z.waiting w
    pub are : AreFull full
    pub states : IsOpened s left

  -- a send that delivers: what is done, and what is left
  pub record IsDelivering (s : State) (last : Option Way) (left : List Way) : Type 0 where
    pub may : MayGo
    pub fixed : s.fixed ≡ z.fixed
    pub states : IsOpened s []
    pub apart : AreDistinctWays left
    pub goes_on : (w : Way) → has_way w left ≡ true → goes w ≡ true
    pub todo : (w : Way) → has_way w left ≡ true → s.waiting w ≡ z.waiting w
    pub at_last : (w : Way) → is_last w last ≡ true
        → (has_way w left ≡ false) × (goes w ≡ true) × (s.waiting w ≡ z.waiting w ++ h.message ∷ [])
    pub done : (w : Way) → has_way w left ≡ false → is_last w last ≡ false → s.waiting w ≡ final w

  -- it was brought to its ways
  pub record IsBrought (s : State) : Type 0 where
    pub may : MayGo
    pub fixed : s.fixed ≡ z.fixed
    pub states : IsOpened s []
    pub waiting : (w : Way) → s.waiting w ≡ final w

  -- a response that nobody awaits goes nowhere
  pub record IsUnawaited (s : State) : Type 0 where
    pub quiet : IsQuiet s
    pub response : is_request_loan h.kind ≡ false
    pub unawaited : is_awaited z h ≡ false

  -- what an end says
  abbrev pub EndsSo : State → Outcome → Type 0
  EndsSo s (Sends l c count) = (l ≡ h) × (c ≡ copied) × (IsBrought s ⊎ IsUnawaited s)
  EndsSo s (FailsToSend l c r) = (l ≡ h) × (c ≡ copied) × IsQuiet s
  EndsSo s (Tells reply) = IsQuiet s × IsRefusal reply
  EndsSo s o = ⊥

  -- what holds in each phase
  abbrev pub Fits : State → Doing → Type 0
  Fits s (Ended o) = EndsSo s o
  Fits s (Loaning copies l left) = IsQuiet s × (copies ≡ true) × (copied ≡ true) × (l ≡ h)
  Fits s (Asking y) = IsQuiet s × (y ≡ x) × (is_request_loan h.kind ≡ false) × (has_number h.client (others z.fixed h.node Client) ≡ true)
  Fits s (Emptying y left) = IsQuiet s × (y ≡ x) × MayGo
  Fits s (Looking y left full) = IsQuiet s × (y ≡ x) × MayGo × (x.overflow ≡ false) × IsLooking left full
  Fits s (Opening y left full) = (y ≡ x) × IsOpening s left full
  Fits s (Delivering y last left count) = (y ≡ x) × IsDelivering s last left
  Fits s (Evicted y w left count) = (y ≡ x) × IsDelivering s None left
  Fits s d = ⊥
