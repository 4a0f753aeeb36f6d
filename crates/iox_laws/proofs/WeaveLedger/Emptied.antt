-- A way is emptied by a look that finds nothing given back there, and no more once something is delivered.
use Rattle.std.specs.Prelude.{◌≡◌, ℕ, Bool, true, false, not, ◌&&◌, ◌||◌, if◌then◌else◌, ◌==◌, List, [], ◌∷◌, map, ◌⊎◌, refl}
use Rattle.std.specs.List.{list_any}
use Rattle.std.proofs.Common.{sym, subst, ap, ◌∙◌, true≢false, inl, inr}
use Rattle.iox_model.specs.declared.kind.Role.TheVariants.{Client, Server}
use Rattle.iox_model.specs.declared.kind.Kind.TheVariants.{ActiveRequest}
use Rattle.iox_model.specs.declared.way.Way.{Way}
use Rattle.iox_model.specs.declared.way.RequestState.{RequestState}
use Rattle.iox_model.specs.declared.reply.Refusal.TheVariants.{OutOfMemory, ExceedsMaxActiveRequests, UnableToDeliver}
use Rattle.iox_model.specs.declared.reply.Reply.TheVariants.{Answer}
use Rattle.iox_model.specs.Doings.{refused, Receiver, Sending, Tells, Loans, Sends, FailsToSend, Receives, Drops, Doing, Ended, Loaning, Asking, Emptying, Looking, Opening, Delivering, Evicted, Visiting, Again, Judging, Stale, Closing, Returning, Leaving, Checking, Hinting, Seeking}
use Rattle.iox_model.specs.States.{Handle, Fixed, State}
use Rattle.iox_laws.specs.WeaveLaws.Ledgers.{is_emptied_by}
use Rattle.iox_model.specs.Handles.{is_request_loan, same_kind}
use Rattle.iox_model.specs.Loans.{lending_ways}
use Rattle.iox_model.specs.Looks.{checking, checked, is_shown, hinting}
use Rattle.iox_model.specs.Maps.{has_number, same_way, has_way, without_way, not_in}
use Rattle.iox_model.specs.Messages.{request_way, names, Message}
use Rattle.iox_model.specs.Moments.{Moment, Deliver, Evict, Take, GiveBack, GetBack, SeesEmpty, SeesWaiting, SeesFull, SeesRoom, SeesNoneBack, Open, Close, Hint, Look}
use Rattle.iox_model.specs.Outstandings.{kept, is_dry}
use Rattle.iox_model.specs.Peers.{others, forgot_port}
use Rattle.iox_model.specs.Receives.{visiting, stale, took_response, took_request, took, seeking}
use Rattle.iox_model.specs.Releases.{closing}
use Rattle.iox_model.specs.Requests.{targets, to_open, sending_of, opening, looking, emptying, is_active_spent, sends_request}
use Rattle.iox_model.specs.Responses.{sends_response, asked, sends, loaning}
use Rattle.iox_model.specs.Settings.{is_client}
use Rattle.iox_model.specs.Transitions.{next}
use Rattle.iox_laws.proofs.WeaveLaws.CallLaws.{not-true}
use Rattle.iox_laws.proofs.WeaveLaws.WholeLemmas.{split}
use Rattle.iox_laws.proofs.WeaveLaws.MapLemmas.{either, same_way-true}
use Rattle.iox_laws.specs.WeaveLedger.QueueLaws.{evicts_next, has_evicted}
use Rattle.iox_laws.proofs.WeaveLedger.Truths.{never}
use Rattle.iox_laws.proofs.WeaveLedger.Lists.{IsAmong, NoRepeats, filter-among, way-among, among-way, without-among, without-itself}
use Rattle.iox_laws.proofs.WeaveLedger.Views.{view}
use Rattle.iox_laws.proofs.WeaveLedger.Senders.{FitsDoing}
use Rattle.iox_laws.proofs.WeaveLedger.Had.{put_on}

-- a call that empties no way
abbrev pub EmptiesNone : Fixed → Way → Doing → Type 0
EmptiesNone f y d = is_emptied_by f y d ≡ false

-- ---- phases

opening-emptied : (f : Fixed) (y : Way) (x : Sending) (left full : List Way) → is_emptied_by f y (opening x left full) ≡ true → has_way y (targets x) ≡ true
opening-emptied f y x [] full e =
    among-way y (targets x) (filter-among (λ w. not (has_way w full)) y (targets x) (way-among y (not_in full (targets x)) e)).0
opening-emptied f y x (w ∷ left) full e = e

looking-emptied : (f : Fixed) (y : Way) (x : Sending) (left full : List Way) → is_emptied_by f y (looking x left full) ≡ true → has_way y (targets x) ≡ true
looking-emptied f y x [] full =
    either (λ d. is_emptied_by f y d ≡ true → has_way y (targets x) ≡ true) (list_any x.fails full) (Ended (FailsToSend x.loan x.copied UnableToDeliver))
    (opening x (to_open x) full) (λ u e. absurd (true≢false (sym e))) (λ u. opening-emptied f y x (to_open x) full)
looking-emptied f y x (w ∷ left) full = λ e. e

-- it is one of those it goes to, and not one of those left
abbrev IsDone : Way → List Way → List Way → Type 0
IsDone y ways left = (has_way y ways ≡ true) × (has_way y left ≡ false)

done : (y : Way) (ways left : List Way) → (has_way y ways && not (has_way y left)) ≡ true → IsDone y ways left
done y ways left e =
    let p : (has_way y ways ≡ true) × (not (has_way y left) ≡ true) = split (has_way y ways) (not (has_way y left)) e in
    (p.0, not-true (has_way y left) p.1)

emptying-emptied : (f : Fixed) (y : Way) (x : Sending) (left : List Way) → is_emptied_by f y (emptying x left) ≡ true → IsDone y (targets x) left
emptying-emptied f y x [] =
    either (λ d. is_emptied_by f y d ≡ true → IsDone y (targets x) []) x.overflow (opening x (to_open x) []) (looking x (targets x) [])
    (λ u e. (opening-emptied f y x (to_open x) [] e, refl)) (λ u e. (looking-emptied f y x (targets x) [] e, refl))
emptying-emptied f y x (w ∷ left) = done y (targets x) (w ∷ left)

-- with all of them left, none is emptied
emptying-none : (f : Fixed) (y : Way) (x : Sending) (left : List Way) → targets x ≡ left → is_emptied_by f y (emptying x left) ≡ true → ⊥
emptying-none f y x left same e =
    let p : IsDone y (targets x) left = emptying-emptied f y x left e in
    true≢false (sym p.0 ∙ ap (has_way y) same ∙ p.1)

asked-none : (f : Fixed) (y : Way) (x : Sending) (shown : RequestState) → is_emptied_by f y (asked x shown) ≡ true → ⊥
asked-none f y x shown =
    either (λ d. is_emptied_by f y d ≡ true → ⊥) (names shown x.loan.request) (emptying x (targets x)) (Ended (Sends x.loan x.copied 0))
    (λ u. emptying-none f y x (targets x) refl) (λ u e. true≢false (sym e))

request-none : (f : Fixed) (y : Way) (h : Handle) (copied : Bool) (to : List ℕ) → is_request_loan h.kind ≡ true
    → is_emptied_by f y (sends_request f h copied to) ≡ true → ⊥
request-none f y h copied to request =
    either (λ d. is_emptied_by f y d ≡ true → ⊥) (is_active_spent f h) (Ended (FailsToSend h copied ExceedsMaxActiveRequests))
    (emptying (sending_of f h copied to) (map (request_way h.port) to)) (λ u e. true≢false (sym e))
    (λ u. emptying-none f y (sending_of f h copied to) (map (request_way h.port) to) (rw request refl))

response-none : (f : Fixed) (y : Way) (h : Handle) (copied : Bool) → is_emptied_by f y (sends_response f h copied) ≡ true → ⊥
response-none f y h copied =
    either (λ d. is_emptied_by f y d ≡ true → ⊥) (has_number h.client (others f h.node Client)) (Asking (sending_of f h copied (h.client ∷ [])))
    (Ended (Sends h copied 0))
    (λ u e. true≢false (sym e)) (λ u e. true≢false (sym e))

pub sends-none : (f : Fixed) (y : Way) (h : Handle) (copied : Bool) → is_emptied_by f y (sends f h copied) ≡ true → ⊥
sends-none f y h copied =
    either (λ d. is_emptied_by f y d ≡ true → ⊥) (is_request_loan h.kind) (sends_request f h copied (others f h.node Server)) (sends_response f h copied)
    (λ e. request-none f y h copied (others f h.node Server) e) (λ u. response-none f y h copied)

pub loaning-emptied : (s : State) (y : Way) (copies : Bool) (h : Handle) (left : List Way) → is_emptied_by s.fixed y (loaning s copies h left) ≡ true
    → IsDone y (lending_ways s.fixed h) left
loaning-emptied s y copies h [] =
    either (λ d. is_emptied_by s.fixed y d ≡ true → IsDone y (lending_ways s.fixed h) []) (is_dry s.fixed h.port (kept s h.port [])) (refused OutOfMemory)
    (if copies then sends s.fixed h true else Ended (Loans h)) (λ u e. absurd (true≢false (sym e)))
    (λ u. either (λ d. is_emptied_by s.fixed y d ≡ true → IsDone y (lending_ways s.fixed h) []) copies (sends s.fixed h true) (Ended (Loans h))
    (λ v e. absurd (sends-none s.fixed y h true e)) (λ v e. absurd (true≢false (sym e))))
loaning-emptied s y copies h (w ∷ left) = done y (lending_ways s.fixed h) (w ∷ left)

pub visiting-none : (f : Fixed) (y : Way) (x : Receiver) (left : List Way) (seen : Bool) → EmptiesNone f y (visiting x left seen)
visiting-none f y x [] seen = refl
visiting-none f y x (w ∷ left) seen = refl

pub took-none : (f : Fixed) (n : ℕ) (y : Way) (x : Receiver) (w : Way) (m : Message) (left : List Way) (seen : Bool)
    → EmptiesNone f y (took f n x w m left seen)
took-none f n y x w m left seen =
    either (EmptiesNone f y) (is_client x.role) (took_response f n x w m left seen) (took_request f x w m left seen)
    (λ u. either (EmptiesNone f y) (m.request == x.request) (Ended (Receives x w m)) (stale f n x w m left seen) (λ v. refl)
    (λ v. either (EmptiesNone f y) (forgot_port f n w.sender) (Again x w left seen) (Stale x w m left seen) (λ z. refl) (λ z. refl)))
    (λ u. either (EmptiesNone f y) f.limits.fire_and_forget (Ended (Receives x w m)) (Judging x w m left seen) (λ v. refl) (λ v. refl))

pub closing-none : (f : Fixed) (y : Way) (h : Handle) (left : List Way) → EmptiesNone f y (closing h left)
closing-none f y h [] = refl
closing-none f y h (w ∷ left) = refl

pub checking-none : (f : Fixed) (y : Way) (h : Handle) (hinted : Bool) (left : List Way) → EmptiesNone f y (checking h hinted left)
checking-none f y h hinted [] = refl
checking-none f y h hinted (w ∷ left) = refl

checked-none : (f : Fixed) (y : Way) (h : Handle) (hinted : Bool) (left : List Way) (w : Way) (shown : RequestState)
    → EmptiesNone f y (checked h hinted left w shown)
checked-none f y h hinted left w shown =
    either (EmptiesNone f y) (is_shown h hinted shown) (Ended (Tells (Answer true))) (checking h hinted (without_way w left))
    (λ u. refl) (λ u. checking-none f y h hinted (without_way w left))

pub hinting-none : (f : Fixed) (y : Way) (h : Handle) (left : List Way) → EmptiesNone f y (hinting h left)
hinting-none f y h [] = refl
hinting-none f y h (w ∷ left) = refl

pub seeking-none : (f : Fixed) (y : Way) (left : List Way) → EmptiesNone f y (seeking left)
seeking-none f y [] = refl
seeking-none f y (w ∷ left) = refl

-- ---- moments

-- the call saw that nothing was given back on the way, and neither delivered last there nor evicted
abbrev pub SawNone : Way → Doing → Moment → Type 0
SawNone y d m = (m ≡ SeesNoneBack y) × (evicts_next y d ≡ false) × (has_evicted y d ≡ false)

-- it was emptied, and nothing is put there; or it just saw that nothing was given back
abbrev pub WasEmptied : Fixed → Way → Doing → Moment → Type 0
WasEmptied f y d m = ((is_emptied_by f y d ≡ true) × (put_on y m ≡ [])) ⊎ SawNone y d m

-- another way stays among those left
pub other-left : (y w : Way) (left : List Way) → same_way y w ≡ false → has_way y (without_way w left) ≡ false → has_way y left ≡ false
other-left y w [] e = λ f. refl
other-left y w (v ∷ left) e = by_case (same_way v w) (same_way-true v w) (other-left y w left e)
  where
    by_case : (b : Bool) → (b ≡ true → v ≡ w) → (has_way y (without_way w left) ≡ false → has_way y left ≡ false)
        → has_way y (if b then left else v ∷ without_way w left) ≡ false → has_way y (v ∷ left) ≡ false
    by_case true same rest f = rw (ap (same_way y) (same refl) ∙ e) f
    by_case false same rest f = either_one (same_way y v) (has_way y (without_way w left)) (has_way y left) f rest
      where
        either_one : (a b c : Bool) → (a || b) ≡ false → (b ≡ false → c ≡ false) → (a || c) ≡ false
        either_one true b c f g = f
        either_one false b c f g = g f

-- a way was emptied by this look, or before it
saw-none : (f : Fixed) (y w : Way) (d : Doing) (ways left : List Way) → is_emptied_by f y d ≡ (has_way y ways && not (has_way y left))
    → evicts_next y d ≡ false → has_evicted y d ≡ false → IsDone y ways (without_way w left) → WasEmptied f y d (SeesNoneBack w)
saw-none f y w d ways left is a b p = by_case (same_way y w) refl
  where
    by_case : (b : Bool) → same_way y w ≡ b → WasEmptied f y d (SeesNoneBack w)
    by_case true e = inr (ap SeesNoneBack (sym (same_way-true y w e)), a, b)
    by_case false e = inl (is ∙ both_true (has_way y ways) (has_way y left) p.0 (other-left y w left e p.1), refl)
      where
        both_true : (a b : Bool) → a ≡ true → b ≡ false → (a && not b) ≡ true
        both_true true b e f = ap not f
        both_true false b e f = e

-- a way that stays left got nothing, as each is visited once
still-left : (y w : Way) (left : List Way) (k : ℕ) → NoRepeats left → has_way y (without_way w left) ≡ true
    → (has_way y left ≡ true) × ((if same_way y w then k ∷ [] else []) ≡ [])
still-left y w left k apart e =
    (among-way y left (without-among w y left (way-among y (without_way w left) e)), by_case (same_way y w) (same_way-true y w))
  where
    by_case : (b : Bool) → (b ≡ true → y ≡ w) → (if b then k ∷ [] else []) ≡ []
    by_case true same =
        absurd (without-itself w left apart (subst (λ u. IsAmong u (without_way w left)) (same refl) (way-among y (without_way w left) e)))
    by_case false same = refl

pub next-emptied : (s : State) (n : ℕ) (d : Doing) (m : Moment) (y : Way) → FitsDoing (view s.fixed n) n d → (next s n d m).condition
    → is_emptied_by s.fixed y (next s n d m).after ≡ true → WasEmptied s.fixed y d m
next-emptied s n (Loaning copies h left) (GetBack w k) y p c e = inl (e, refl)
next-emptied s n (Loaning copies h left) (SeesNoneBack w) y p c e =
    saw-none s.fixed y w (Loaning copies h left) (lending_ways s.fixed h) left refl refl refl (loaning-emptied s y copies h (without_way w left) e)
next-emptied s n (Asking x) (Look w shown) y p c e = absurd (asked-none s.fixed y x shown e)
next-emptied s n (Emptying x left) (GetBack w k) y p c e = inl (e, refl)
next-emptied s n (Emptying x left) (SeesNoneBack w) y p c e =
    saw-none s.fixed y w (Emptying x left) (targets x) left refl refl refl (emptying-emptied s.fixed y x (without_way w left) e)
next-emptied s n (Looking x left full) (SeesFull w) y p c e = inl (looking-emptied s.fixed y x (without_way w left) (w ∷ full) e, refl)
next-emptied s n (Looking x left full) (SeesRoom w) y p c e = inl (looking-emptied s.fixed y x (without_way w left) full e, refl)
next-emptied s n (Opening x left full) (Open w id) y p c e = inl (opening-emptied s.fixed y x (without_way w left) full e, refl)
next-emptied s n (Delivering x last left count) (Deliver w m) y p c e = inl (still-left y w left m.serial (p.1).apart e)
next-emptied s n (Delivering x last left count) (Evict w) y p c e = inl (e, refl)
next-emptied s n (Evicted x v left count) (GetBack w k) y p c e = inl (e, refl)
next-emptied s n (Visiting x left seen) (SeesEmpty w) y p c e = never _ e (visiting-none s.fixed y x (without_way w left) seen)
next-emptied s n (Visiting x left seen) (SeesWaiting w) y p c e = never _ e (visiting-none s.fixed y x (without_way w left) true)
next-emptied s n (Visiting x left seen) (Take w m) y p c e = never _ e (took-none s.fixed n y x w m left seen)
next-emptied s n (Again x v left seen) (SeesEmpty w) y p c e = never _ e (visiting-none s.fixed y x (without_way v left) seen)
next-emptied s n (Again x v left seen) (Take w m) y p c e = never _ e (took-none s.fixed n y x v m left seen)
next-emptied s n (Judging x v m left seen) (Look w shown) y p c e =
    never _ e (either (EmptiesNone s.fixed y) (names shown m.request) (Ended (Receives x v m)) (Stale x v m left seen) (λ u. refl) (λ u. refl))
next-emptied s n (Stale x v m left seen) (GiveBack w k) y p c e = absurd (true≢false (sym e))
next-emptied s n (Closing h left) (Close w id) y p c e = never _ e (closing-none s.fixed y h (without_way w left))
next-emptied s n (Returning h) (GiveBack w k) y p c e =
    never _ e (either (EmptiesNone s.fixed y) (same_kind h.kind ActiveRequest) (Leaving h) (Ended (Drops h)) (λ u. refl) (λ u. refl))
next-emptied s n (Leaving h) (Look w shown) y p c e = absurd (true≢false (sym e))
next-emptied s n (Leaving h) (Close w id) y p c e = absurd (true≢false (sym e))
next-emptied s n (Checking h hinted left) (Look w shown) y p c e = never _ e (checked-none s.fixed y h hinted left w shown)
next-emptied s n (Hinting h left) (Hint w id) y p c e = never _ e (hinting-none s.fixed y h (without_way w left))
next-emptied s n (Hinting h left) (Look w shown) y p c e = never _ e (hinting-none s.fixed y h (without_way w left))
next-emptied s n (Seeking left) (SeesEmpty w) y p c e = never _ e (seeking-none s.fixed y (without_way w left))
next-emptied s n (Seeking left) (SeesWaiting w) y p c e = absurd (true≢false (sym e))
next-emptied s n d m y p c e = absurd c

-- what is delivered to is emptied
pub deliver-emptied : (s : State) (n : ℕ) (d : Doing) (x y : Way) (m : Message) → (next s n d (Deliver x m)).condition → same_way y x ≡ true
    → is_emptied_by s.fixed y d ≡ true
deliver-emptied s n (Delivering z last left count) x y m c e = ap (λ w. has_way w left) (same_way-true y x e) ∙ c.0
deliver-emptied s n d x y m c e = absurd c
