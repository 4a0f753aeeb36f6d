-- Each moment of a call keeps what holds of the call.
use Rattle.std.specs.Prelude.{◌≡◌, ℕ, ◌<◌, Bool, true, false, not, if◌then◌else◌, List, [], ◌∷◌, ◌++◌, map, Option, Some, None, refl}
use Rattle.std.proofs.Common.{sym, subst, ap, ◌∙◌, inl, inr}
use Rattle.iox_model.specs.declared.way.Way.{Way}
use Rattle.iox_model.specs.Doings.{Sending, Outcome, Sends, Receives, Doing, Ended, Loaning, Asking, Emptying, Looking, Opening, Delivering, Evicted, Visiting, Again, Judging, Stale, Closing, Returning, Leaving, Checking, Hinting, Seeking}
use Rattle.iox_model.specs.States.{Port, Fixed, State}
use Rattle.iox_model.specs.Requests.{is_request, targets, may_evict, is_last, is_over}
use Rattle.iox_model.specs.Maps.{rest_of, same_way, without_way}
use Rattle.iox_model.specs.Messages.{request_way, response_way, names, Message}
use Rattle.iox_model.specs.Receives.{is_at_limit}
use Rattle.iox_model.specs.Settings.{is_client}
use Rattle.iox_model.specs.Peers.{borrow_limit_on}
use Rattle.iox_model.specs.Moments.{Holds, moved, Moment, Deliver, Evict, Take, GiveBack, GetBack, SeesEmpty, SeesWaiting, SeesFull, SeesRoom, SeesNoneBack, Open, Close, Hint, Look}
use Rattle.iox_model.specs.Transitions.{next, ends}
use Rattle.iox_laws.proofs.WeaveLaws.CallLaws.{not-true}
use Rattle.iox_laws.proofs.WeaveLaws.MapLemmas.{either, same_way-true}
use Rattle.iox_laws.proofs.WeaveLaws.WholeLemmas.{some-is}
use Rattle.iox_laws.proofs.WeaveLedger.Orders.{less}
use Rattle.iox_laws.proofs.WeaveLedger.Truths.{never, none-some}
use Rattle.iox_laws.proofs.WeaveLedger.Lists.{IsAmong, among-last, map-among, way-among, without-among, no_repeats-without, first-among, rest-among}
use Rattle.iox_laws.proofs.WeaveLedger.Views.{view, IsAt, role_in, mine}
use Rattle.iox_laws.proofs.WeaveLedger.Senders.{IsMade, FitsOutcome, FitsLeft, FitsLast, OnWay, IsBelow, FitsDoing}
use Rattle.iox_laws.proofs.WeaveLedger.Phases.{target-of, HasOwnPorts, opening-fits, looking-fits, emptying-fits, asked-fits, loaning-fits, visiting-fits, fewer, took-fits, closing-fits, given_back-fits, checked-fits, hinting-fits, seeking-fits}

fewer-left : (x : Sending) (w : Way) (left : List Way) → FitsLeft x left → FitsLeft x (without_way w left)
fewer-left x w left p = record {
  apart = no_repeats-without w left p.apart;
  among = λ u a. p.among u (without-among w u left a);
}

last-fits : (x : Sending) (w : Way) → IsAmong w (targets x) → FitsLast x (may_evict x w)
last-fits x w a = by_case x.overflow refl
  where
    by_case : (b : Bool) → x.overflow ≡ b → FitsLast x (if b then Some w else None)
    by_case true e = (e, a)
    by_case false e = tt

last-is : (x : Sending) (w : Way) (last : Option Way) → FitsLast x last → is_last w last ≡ true → FitsLast x (Some w)
last-is x w None p e = absurd (never false e refl)
last-is x w (Some v) p e = subst (λ u. FitsLast x (Some u)) (sym (same_way-true w v e)) p

-- what is waiting is on its way
abbrev pub WaitsFit : State → Type 0
WaitsFit s = (y : Way) (m : Message) → IsAmong m (s.waiting y) → OnWay s.fixed.ports y m

below : (f : Fixed) (n : ℕ) (w : Way) → IsAt f.ports w.receiver n → not (is_at_limit f w) ≡ true → IsBelow (view f n) w
below f n w at e =
    subst (λ b. (if b then f.borrowed w else 0) < borrow_limit_on f w) (sym (mine f.ports w.receiver n at))
    (less (borrow_limit_on f w) (f.borrowed w) (not-true (is_at_limit f w) e))

sent-lane : (ports : List Port) (z : Sending) (x : Way) → IsMade ports z.loan → IsAmong x (targets z) → OnWay ports x z.loan.message
sent-lane ports z x made a =
    (made.sender ∙ sym (target-of z x a).0, λ server. by_case (is_request z) refl a (ap (λ q. is_client (role_in ports q)) (sym (target-of z x a).0) ∙ server))
  where
    by_case : (b : Bool) → is_request z ≡ b
        → IsAmong x (if b then map (request_way z.loan.port) z.to else map (λ client. response_way client z.loan.lane z.loan.port) z.to)
        → is_client (role_in ports z.loan.port) ≡ false → z.loan.message.lane ≡ x.lane
    by_case true e p server = never (is_request z) e (made.role ∙ server)
    by_case false e p server =
        made.lane ∙ sym (ap (λ (u : Way). u.lane) (map-among (λ client. response_way client z.loan.lane z.loan.port) x z.to p).2)

pub moved-waits : (s : State) (n : ℕ) (d : Doing) (m : Moment) → FitsDoing (view s.fixed n) n d → (next s n d m).condition → WaitsFit s
    → (y : Way) (k : Message) → IsAmong k ((moved s m).waiting y) → OnWay s.fixed.ports y k
moved-waits s n (Delivering z last left count) (Deliver x m) p c waits y k a = by_case (same_way y x) (same_way-true y x) a
  where
    sent : OnWay s.fixed.ports x m
    sent = subst (OnWay s.fixed.ports x) (sym c.1) (sent-lane s.fixed.ports z x ((p.0).loan).made ((p.1).among x (way-among x left c.0)))

    by_case : (b : Bool) → (b ≡ true → y ≡ x) → IsAmong k (if b then s.waiting x ++ m ∷ [] else s.waiting y) → OnWay s.fixed.ports y k
    by_case true e q = subst (λ u. OnWay s.fixed.ports u k) (sym (e refl)) (elim (among-last k m (s.waiting x) q) as (λ u. OnWay s.fixed.ports x k) [
      | inl r ↦ waits x k r
      | inr r ↦ subst (OnWay s.fixed.ports x) (sym r) sent
    ])
    by_case false e q = waits y k q
moved-waits s n d (Deliver x m) p c waits y k a = absurd c
moved-waits s n d (Take x m) p c waits y k a = by_case (same_way y x) (same_way-true y x) a
  where
    by_case : (b : Bool) → (b ≡ true → y ≡ x) → IsAmong k (if b then rest_of (s.waiting x) else s.waiting y) → OnWay s.fixed.ports y k
    by_case true e q = subst (λ u. OnWay s.fixed.ports u k) (sym (e refl)) (waits x k (rest-among k (s.waiting x) q))
    by_case false e q = waits y k q
moved-waits s n d (Evict x) p c waits y k a = by_case (same_way y x) (same_way-true y x) a
  where
    by_case : (b : Bool) → (b ≡ true → y ≡ x) → IsAmong k (if b then rest_of (s.waiting x) else s.waiting y) → OnWay s.fixed.ports y k
    by_case true e q = subst (λ u. OnWay s.fixed.ports u k) (sym (e refl)) (waits x k (rest-among k (s.waiting x) q))
    by_case false e q = waits y k q
moved-waits s n d m p c waits y k a = waits y k a

pub next-fits : (s : State) (n : ℕ) (d : Doing) (m : Moment) → HasOwnPorts s.fixed → WaitsFit s → Holds s m → FitsDoing (view s.fixed n) n d
    → (next s n d m).condition
    → FitsDoing (view s.fixed n) n (next s n d m).after
next-fits s n (Loaning copies h left) (GetBack w k) own waits first p c = p
next-fits s n (Loaning copies h left) (SeesNoneBack w) own waits first p c = loaning-fits s n copies h (without_way w left) own p
next-fits s n (Asking x) (Look w shown) own waits first p c = asked-fits (view s.fixed n) n x shown p
next-fits s n (Emptying x left) (GetBack w k) own waits first p c = p
next-fits s n (Emptying x left) (SeesNoneBack w) own waits first p c = emptying-fits (view s.fixed n) n x (without_way w left) p
next-fits s n (Looking x left full) (SeesFull w) own waits first p c = looking-fits (view s.fixed n) n x (without_way w left) (w ∷ full) p
next-fits s n (Looking x left full) (SeesRoom w) own waits first p c = looking-fits (view s.fixed n) n x (without_way w left) full p
next-fits s n (Opening x left full) (Open w id) own waits first p c = opening-fits (view s.fixed n) n x (without_way w left) full p
next-fits s n (Delivering x last left count) (Deliver w m) own waits first p c =
    (p.0, fewer-left x w left p.1, last-fits x w ((p.1).among w (way-among w left c.0)))
next-fits s n (Delivering x last left count) (Evict w) own waits first p c = (p.0, p.1, last-is x w last p.2 c)
next-fits s n (Evicted x v left count) (GetBack w k) own waits first p c = (p.0, p.1, tt)
next-fits s n (Visiting x left seen) (SeesEmpty w) own waits first p c =
    visiting-fits (view s.fixed n) n x (without_way w left) seen (fewer (view s.fixed n) n x w left p)
next-fits s n (Visiting x left seen) (SeesWaiting w) own waits first p c =
    visiting-fits (view s.fixed n) n x (without_way w left) true (fewer (view s.fixed n) n x w left p)
next-fits s n (Visiting x left seen) (Take w m) own waits first p c = took-fits (view s.fixed n) s.fixed n x w m left seen p (
  p.1 w (way-among w left c.0),
  below s.fixed n w (subst (λ q. IsAt s.fixed.ports q n) (sym (p.1 w (way-among w left c.0)).0) p.0) c.1,
  waits w m (first-among m (s.waiting w) first),
)
next-fits s n (Again x v left seen) (SeesEmpty w) own waits first p c =
    visiting-fits (view s.fixed n) n x (without_way v left) seen (fewer (view s.fixed n) n x v left p.0)
next-fits s n (Again x v left seen) (Take w m) own waits first p c = took-fits (view s.fixed n) s.fixed n x v m left seen p.0
    (p.1, p.2, subst (λ u. OnWay s.fixed.ports u m) (same_way-true w v c) (waits w m (first-among m (s.waiting w) first)))
next-fits s n (Judging x v m left seen) (Look w shown) own waits first p c =
    either (FitsDoing (view s.fixed n) n) (names shown m.request) (Ended (Receives x v m)) (Stale x v m left seen) (λ u. (p.0.0, p.1)) (λ u. p)
next-fits s n (Stale x v m left seen) (GiveBack w k) own waits first p c = (p.0, p.1.0, p.1.1)
next-fits s n (Closing h left) (Close w id) own waits first p c = closing-fits (view s.fixed n) n h (without_way w left) p
next-fits s n (Returning h) (GiveBack w k) own waits first p c = given_back-fits (view s.fixed n) n h p
next-fits s n (Leaving h) (Look w shown) own waits first p c = p
next-fits s n (Leaving h) (Close w id) own waits first p c = p
next-fits s n (Checking h hinted left) (Look w shown) own waits first p c = checked-fits (view s.fixed n) n h hinted left w shown
next-fits s n (Hinting h left) (Hint w id) own waits first p c = hinting-fits (view s.fixed n) n h (without_way w left)
next-fits s n (Hinting h left) (Look w shown) own waits first p c = hinting-fits (view s.fixed n) n h (without_way w left)
next-fits s n (Seeking left) (SeesEmpty w) own waits first p c = seeking-fits (view s.fixed n) n (without_way w left)
next-fits s n (Seeking left) (SeesWaiting w) own waits first p c = tt
next-fits s n d m own waits first p c = absurd c

-- what a call ends with
pub ends-fits : (s : State) (n : ℕ) (d : Doing) (o : Outcome) → FitsDoing (view s.fixed n) n d → ends s d ≡ Some o → FitsOutcome (view s.fixed n) n o
ends-fits s n (Ended a) o p e = subst (FitsOutcome (view s.fixed n) n) (some-is a o e) p
ends-fits s n (Delivering x last [] count) o p e = by_case (is_over s last) e
  where
    by_case : (b : Bool) → (if b then None else Some (Sends x.loan x.copied count)) ≡ Some o → FitsOutcome (view s.fixed n) n o
    by_case true e = absurd (none-some o e)
    by_case false e = subst (FitsOutcome (view s.fixed n) n) (some-is (Sends x.loan x.copied count) o e) (p.0).loan
ends-fits s n d o p e = absurd (none-some o e)
