-- What a call has left to do after a moment can be done.
use Rattle.std.specs.Prelude.{◌≡◌, ℕ, ◌+◌, Bool, true, false, if◌then◌else◌, nat_lt, List, [], ◌∷◌, ◌++◌, length, Some, None, take, refl}
use Rattle.std.proofs.Common.{sym, subst, ap, ◌∙◌, true≢false, arith}
use Rattle.iox_model.specs.declared.way.Way.{Way}
use Rattle.iox_model.specs.Doings.{Receiver, Sending, Doing, Ended, Loaning, Asking, Emptying, Looking, Opening, Delivering, Evicted, Visiting, Again, Judging, Stale, Closing, Returning, Leaving, Checking, Hinting, Seeking}
use Rattle.iox_model.specs.States.{State}
use Rattle.iox_model.specs.Requests.{may_evict}
use Rattle.iox_model.specs.Maps.{is_empty, rest_of, same_way, put, has_way, without_way, AreDistinctWays}
use Rattle.iox_model.specs.Moments.{Holds, moved, Moment, room_on, Deliver, Evict, Take, GiveBack, GetBack, SeesEmpty, SeesWaiting, SeesFull, SeesRoom, SeesNoneBack, Open, Close, Hint, Look}
use Rattle.iox_model.specs.Messages.{serials_of, Message}
use Rattle.iox_model.specs.Responses.{copies}
use Rattle.iox_model.specs.Transitions.{next}
use Rattle.iox_model.specs.Peers.{buffer_on, overflows_on}
use Rattle.iox_laws.proofs.WeaveLaws.MapLemmas.{either, same_way-true, put_there, put-else}
use Rattle.iox_laws.proofs.WeaveLaws.Plays.{has_room}
use Rattle.iox_laws.proofs.WeaveWorlds.WayLemmas.{has_way-without, apart-gone, apart-without}
use Rattle.iox_laws.proofs.WeaveWorlds.Sound.{AreFrom, AreTo, IsLast, HaveRoom, SoundDoing, last_of, IsWithin, SoundCall}
use Rattle.iox_laws.proofs.WeaveWorlds.PortLemmas.{AreDistinctPorts}
use Rattle.iox_laws.proofs.WeaveWorlds.Continues.{opening_fits, looking_fits, emptying_fits, asked_fits, loaning_fits, visiting_fits, took_fits, judged_fits, seeking_fits, closing_fits, given_back_fits, checked_fits, hinting_fits}
use Rattle.iox_laws.proofs.WeaveWorlds.Moves.{taken-less, last_is, moved_within}
use Rattle.iox_laws.proofs.WeaveLedger.Emptied.{other-left}
use Rattle.iox_laws.proofs.WeaveLedger.Truths.{by_cases, or-false}
use Rattle.iox_laws.proofs.WeaveLedger.Orders.{le-less}

-- those that are left once one is taken out
left_from : (port : ℕ) (w : Way) (left : List Way) → AreFrom port left → AreFrom port (without_way w left)
left_from port w left from v there = from v (has_way-without v w left there)

left_to : (x : Receiver) (w : Way) (left : List Way) → AreTo x left → AreTo x (without_way w left)
left_to x w left to v there = to v (has_way-without v w left there)

-- ---- looks at fullness

seen_room : (n b : ℕ) (o : Bool) → nat_lt n b ≡ true → nat_lt n (b + (if o then 1 else 0)) ≡ true
seen_room n b true e = grind (arith)
seen_room n b false e = grind (arith)

room_seen : (s : State) (w v : Way) → nat_lt (length (s.waiting w)) (buffer_on s.fixed w) ≡ true → same_way v w ≡ true → has_room s v ≡ true
room_seen s w v e same =
    subst (λ u. has_room s u ≡ true) (sym (same_way-true v w same))
    (seen_room (length (s.waiting w)) (buffer_on s.fixed w) (overflows_on s.fixed w) e)

-- ---- deliveries and evictions

room_after_delivery : (s : State) (w : Way) (m : Message) (left : List Way) → AreDistinctWays left → HaveRoom s left
    → HaveRoom (moved s (Deliver w m)) (without_way w left)
room_after_delivery s w m left apart rooms v there =
    subst (λ (xs : List Message). nat_lt (length xs) (room_on s.fixed v) ≡ true)
    (sym (put-else s.waiting w (s.waiting w ++ m ∷ []) v (apart-gone v w left apart there))) (rooms v (has_way-without v w left there))

room_after_eviction : (s : State) (w : Way) (left : List Way) → HaveRoom s left → HaveRoom (moved s (Evict w)) left
room_after_eviction s w left rooms v there =
    le-less (length (put s.waiting w (rest_of (s.waiting w)) v)) (length (s.waiting v)) (room_on s.fixed v) (taken-less s.waiting w v) (rooms v there)

evicts_from : (x : Sending) (w : Way) → w.sender ≡ x.loan.port → IsLast x (may_evict x w)
evicts_from x w from = either (IsLast x) x.overflow (Some w) None (λ over. (from, over)) (λ u. tt)

some_in_hand : (xs : List Message) (b : ℕ) → nat_lt b (length xs) ≡ true → is_empty (serials_of (take 1 xs)) ≡ false
some_in_hand [] b e = absurd (true≢false (sym e ∙ none b))
  where
    none : (b : ℕ) → nat_lt b 0 ≡ false
    none b = grind (arith)
some_in_hand (x ∷ xs) b e = refl

in_hand_after : (s : State) (w : Way) → nat_lt (buffer_on s.fixed w) (length (s.waiting w)) ≡ true → is_empty ((moved s (Evict w)).in_hand w) ≡ false
in_hand_after s w over =
    ap is_empty (put_there s.in_hand w (serials_of (take 1 (s.waiting w)))) ∙ some_in_hand (s.waiting w) (buffer_on s.fixed w) over

-- ---- all moments

moved_fits : (s : State) (node : ℕ) (d : Doing) (m : Moment) → AreDistinctPorts s.fixed → IsWithin s node (last_of (Some d)) → SoundDoing s node d
    → Holds s m → (next s node d m).condition → SoundDoing (moved s m) node (next s node d m).after
moved_fits s node (Ended o) m ports in_ p h c = absurd c
moved_fits s node (Loaning copies l left) (GetBack w k) ports in_ p h c = p
moved_fits s node (Loaning copies l left) (SeesNoneBack w) ports in_ p h c =
    loaning_fits s node copies l (without_way w left) ports p.0 in_ (left_from l.port w left p.1)
moved_fits s node (Loaning copies l left) m ports in_ p h c = absurd c
moved_fits s node (Asking x) (Look w shown) ports in_ p h c = asked_fits s node x shown p in_
moved_fits s node (Asking x) m ports in_ p h c = absurd c
moved_fits s node (Emptying x left) (GetBack w k) ports in_ p h c = p
moved_fits s node (Emptying x left) (SeesNoneBack w) ports in_ p h c =
    emptying_fits s node x (without_way w left) p.0 in_ (left_from x.loan.port w left p.1)
moved_fits s node (Emptying x left) m ports in_ p h c = absurd c
moved_fits s node (Looking x left full) (SeesFull w) ports in_ p h c =
    looking_fits s node x (without_way w left) (w ∷ full) p.0
    (λ v target seen room. p.2 v target
    (other-left v w left (or-false (same_way v w) (has_way v full) room).0 seen) (or-false (same_way v w) (has_way v full) room).1)
moved_fits s node (Looking x left full) (SeesRoom w) ports in_ p h c =
    looking_fits s node x (without_way w left) full p.0
    (λ v target seen room. by_cases (same_way v w) (room_seen s w v h) (λ other. p.2 v target (other-left v w left other seen) room))
moved_fits s node (Looking x left full) m ports in_ p h c = absurd c
moved_fits s node (Opening x left full) (Open w id) ports in_ p h c =
    opening_fits (moved s (Open w id)) node x (without_way w left) full p.0 p.2
moved_fits s node (Opening x left full) m ports in_ p h c = absurd c
moved_fits s node (Delivering x last left count) (Deliver w m) ports in_ p h c = (
  p.0,
  left_from x.loan.port w left p.1,
  apart-without w left p.2,
  room_after_delivery s w m left p.2 p.3,
  evicts_from x w (p.1 w c.0),
)
moved_fits s node (Delivering x last left count) (Evict w) ports in_ p h c =
    (p.0, p.1, p.2, room_after_eviction s w left p.3, last_is x w last c p.4, in_hand_after s w h)
moved_fits s node (Delivering x last left count) m ports in_ p h c = absurd c
moved_fits s node (Evicted x v left count) (GetBack w k) ports in_ p h c = (p.0, p.1, p.2, p.3, tt)
moved_fits s node (Evicted x v left count) m ports in_ p h c = absurd c
moved_fits s node (Visiting x left seen) (SeesEmpty w) ports in_ p h c =
    visiting_fits s node x (without_way w left) seen p.0 (left_to x w left p.2)
moved_fits s node (Visiting x left seen) (SeesWaiting w) ports in_ p h c =
    visiting_fits s node x (without_way w left) true p.0 (left_to x w left p.2)
moved_fits s node (Visiting x left seen) (Take w m) ports in_ p h c = took_fits (moved s (Take w m)) node x w m left seen p.0 (p.2 w c.0) p.2
moved_fits s node (Visiting x left seen) m ports in_ p h c = absurd c
moved_fits s node (Again x v left seen) (SeesEmpty w) ports in_ p h c = visiting_fits s node x (without_way v left) seen p.0 (left_to x v left p.2)
moved_fits s node (Again x v left seen) (Take w m) ports in_ p h c = took_fits (moved s (Take w m)) node x v m left seen p.0 p.1 p.2
moved_fits s node (Again x v left seen) m ports in_ p h c = absurd c
moved_fits s node (Judging x v n left seen) (Look w shown) ports in_ p h c = judged_fits s node x v n left seen shown p.0 p.1 p.2 p.3
moved_fits s node (Judging x v n left seen) m ports in_ p h c = absurd c
moved_fits s node (Stale x v n left seen) (GiveBack w k) ports in_ p h c = p
moved_fits s node (Stale x v n left seen) m ports in_ p h c = absurd c
moved_fits s node (Closing l left) (Close w id) ports in_ p h c = closing_fits (moved s (Close w id)) node l (without_way w left)
moved_fits s node (Closing l left) m ports in_ p h c = absurd c
moved_fits s node (Returning l) (GiveBack w k) ports in_ p h c = given_back_fits (moved s (GiveBack w k)) node l
moved_fits s node (Returning l) m ports in_ p h c = absurd c
moved_fits s node (Leaving l) (Look w shown) ports in_ p h c = tt
moved_fits s node (Leaving l) (Close w id) ports in_ p h c = tt
moved_fits s node (Leaving l) m ports in_ p h c = absurd c
moved_fits s node (Checking l hinted left) (Look w shown) ports in_ p h c = checked_fits s node l hinted left w shown
moved_fits s node (Checking l hinted left) m ports in_ p h c = absurd c
moved_fits s node (Hinting l left) (Hint w id) ports in_ p h c = hinting_fits (moved s (Hint w id)) node l (without_way w left)
moved_fits s node (Hinting l left) (Look w shown) ports in_ p h c = hinting_fits s node l (without_way w left)
moved_fits s node (Hinting l left) m ports in_ p h c = absurd c
moved_fits s node (Seeking left) (SeesEmpty w) ports in_ p h c = seeking_fits s node (without_way w left)
moved_fits s node (Seeking left) (SeesWaiting w) ports in_ p h c = tt
moved_fits s node (Seeking left) m ports in_ p h c = absurd c

-- A moment of a sound call leaves it sound.
pub moved_sound : (s : State) (node : ℕ) (d : Doing) (m : Moment) → AreDistinctPorts s.fixed → SoundCall s node (Some d)
    → Holds s m → (next s node d m).condition → SoundCall (moved s m) node (Some (next s node d m).after)
moved_sound s node d m ports p h c = (moved_within s node d m p.0 p.1 h c, moved_fits s node d m ports p.0 p.1 h c)
