-- A moment that may come next, chosen by what is there: the first way that is left, and what is seen
-- there. So a call can be played, and where nothing is chosen it is stuck or at its end.
use Rattle.std.specs.Prelude.{◌≡◌, ℕ, Bool, true, false, not, ◌&&◌, ◌==◌, nat_lt, nat_le, List, [], ◌∷◌, ◌++◌, length, Option, Some, None, refl}
use Rattle.std.proofs.Common.{sym, subst, ap, ◌∙◌, arith, suc, zero}
use Rattle.iox_model.specs.declared.way.Way.{Way}
use Rattle.iox_model.specs.Receives.{state_of_request, is_at_limit}
use Rattle.iox_model.specs.Doings.{Receiver, Sending, Doing, Ended, Loaning, Asking, Emptying, Looking, Opening, Delivering, Evicted, Visiting, Again, Judging, Stale, Closing, Returning, Leaving, Checking, Hinting, Seeking}
use Rattle.iox_model.specs.Weaves.{over}
use Rattle.iox_model.specs.States.{Handle, State}
use Rattle.iox_model.specs.Requests.{is_over}
use Rattle.iox_model.specs.Handles.{way_of, own_state}
use Rattle.iox_model.specs.WholeCalls.{MayCome}
use Rattle.iox_model.specs.Maps.{is_empty, first_of, same_way, has_way}
use Rattle.iox_model.specs.Moments.{is_overfull, room_on, Holds, moved, Moment, Deliver, Evict, Take, GiveBack, GetBack, SeesEmpty, SeesWaiting, SeesFull, SeesRoom, SeesNoneBack, Open, Close, Hint, Look}
use Rattle.iox_model.specs.Messages.{Message}
use Rattle.iox_model.specs.Transitions.{next}
use Rattle.iox_model.specs.Responses.{copies}
use Rattle.iox_model.specs.Peers.{buffer_on}
use Rattle.iox_laws.proofs.WeaveLaws.MapLemmas.{same_way-refl, is_in-first, eqb-refl}

-- ---- the choice

abbrev pub at_first : List Way → (Way → Option Moment) → Option Moment
at_first [] f = None
at_first (w ∷ left) f = f w

abbrev pub back_or_none : Way → Option ℕ → Moment
back_or_none w None = SeesNoneBack w
back_or_none w (Some k) = GetBack w k

abbrev pub back : State → Way → Moment
back s w = back_or_none w (first_of (s.in_hand w ++ s.returned w))

abbrev pub back_from_hand : Way → Option ℕ → Option Moment
back_from_hand w None = None
back_from_hand w (Some k) = Some (GetBack w k)

abbrev pub look : State → Way → Moment
look s w = Look w (s.request_state w)

abbrev pub full_or_room : Way → Bool → Moment
full_or_room w true = SeesFull w
full_or_room w false = SeesRoom w

abbrev pub is_full : State → Way → Bool
is_full s w = nat_le (buffer_on s.fixed w) (length (s.waiting w))

abbrev pub if_room : Bool → Moment → Option Moment
if_room true m = Some m
if_room false m = None

abbrev pub has_room : State → Way → Bool
has_room s w = nat_lt (length (s.waiting w)) (room_on s.fixed w)

abbrev pub deliver : State → Sending → Way → Option Moment
deliver s x w = if_room (has_room s w) (Deliver w x.loan.message)

-- the way of the last delivery is looked at first
abbrev pub evict_or : Way → Bool → Option Moment → Option Moment
evict_or w true m = Some (Evict w)
evict_or w false m = m

abbrev pub after_last : State → Option Way → Option Moment → Option Moment
after_last s None m = m
after_last s (Some w) m = evict_or w (is_overfull s w) m

abbrev pub visit : Way → List Message → Bool → Moment
visit w [] limited = SeesEmpty w
visit w (m ∷ ms) true = SeesWaiting w
visit w (m ∷ ms) false = Take w m

abbrev pub take_next : Way → List Message → Moment
take_next w [] = SeesEmpty w
take_next w (m ∷ ms) = Take w m

abbrev pub seek : Way → List Message → Moment
seek w [] = SeesEmpty w
seek w (m ∷ ms) = SeesWaiting w

abbrev pub chosen : State → Doing → Option Moment
chosen s (Ended o) = None
chosen s (Loaning copies h left) = at_first left (λ w. Some (back s w))
chosen s (Asking x) = Some (look s (own_state x.loan))
chosen s (Emptying x left) = at_first left (λ w. Some (back s w))
chosen s (Looking x left full) = at_first left (λ w. Some (full_or_room w (is_full s w)))
chosen s (Opening x left full) = at_first left (λ w. Some (Open w x.loan.request))
chosen s (Delivering x last left count) = after_last s last (at_first left (deliver s x))
chosen s (Evicted x w left count) = back_from_hand w (first_of (s.in_hand w ++ s.returned w))
chosen s (Visiting x left seen) = at_first left (λ w. Some (visit w (s.waiting w) (is_at_limit s.fixed w)))
chosen s (Again x w left seen) = Some (take_next w (s.waiting w))
chosen s (Judging x w m left seen) = Some (look s (state_of_request w m))
chosen s (Stale x w m left seen) = Some (GiveBack w m.serial)
chosen s (Closing h left) = at_first left (λ w. Some (Close w h.request))
chosen s (Returning h) = Some (GiveBack (way_of h) h.message.serial)
chosen s (Leaving h) = Some (Close (own_state h) h.request)
chosen s (Checking h hinted left) = at_first left (λ w. Some (look s w))
chosen s (Hinting h left) = at_first left (λ w. Some (Hint w h.request))
chosen s (Seeking left) = at_first left (λ w. Some (seek w (s.waiting w)))

-- ---- it may come

-- what holds of a moment, if there is one
abbrev pub MayBe : State → ℕ → Doing → Option Moment → Type 0
MayBe s node d None = Unit {0}
MayBe s node d (Some m) = Holds s m × (next s node d m).condition

none_behind : (xs ys : List ℕ) → first_of (xs ++ ys) ≡ None → is_empty ys ≡ true
none_behind [] [] e = refl
none_behind [] (y ∷ ys) e = absurd (subst IsNone (sym e) tt)
  where
    IsNone : Option ℕ → Type 0
    IsNone None = Unit {0}
    IsNone (Some k) = ⊥
none_behind (x ∷ xs) ys e = absurd (subst IsNone (sym e) tt)
  where
    IsNone : Option ℕ → Type 0
    IsNone None = Unit {0}
    IsNone (Some k) = ⊥

back_holds : (s : State) (w : Way) (o : Option ℕ) → first_of (s.in_hand w ++ s.returned w) ≡ o → Holds s (back_or_none w o)
back_holds s w None e = none_behind (s.in_hand w) (s.returned w) e
back_holds s w (Some k) e = e

loaning_may : (s : State) (node : ℕ) (copies : Bool) (h : Handle) (w : Way) (left : List Way) (o : Option ℕ)
    → (next s node (Loaning copies h (w ∷ left)) (back_or_none w o)).condition
loaning_may s node copies h w left None = is_in-first w left
loaning_may s node copies h w left (Some k) = is_in-first w left

emptying_may : (s : State) (node : ℕ) (x : Sending) (w : Way) (left : List Way) (o : Option ℕ)
    → (next s node (Emptying x (w ∷ left)) (back_or_none w o)).condition
emptying_may s node x w left None = is_in-first w left
emptying_may s node x w left (Some k) = is_in-first w left

less_is : (m n : ℕ) → nat_le n m ≡ false → nat_lt m n ≡ true
less_is m n e = grind (arith)

looking_may : (s : State) (node : ℕ) (x : Sending) (w : Way) (left full : List Way) (b : Bool) → is_full s w ≡ b
    → MayBe s node (Looking x (w ∷ left) full) (Some (full_or_room w b))
looking_may s node x w left full true e = (e, is_in-first w left)
looking_may s node x w left full false e = (less_is (length (s.waiting w)) (buffer_on s.fixed w) e, is_in-first w left)

delivers_may : (s : State) (node : ℕ) (x : Sending) (last : Option Way) (left : List Way) (count : ℕ) (w : Way) (b : Bool)
    → has_room s w ≡ b → is_over s last ≡ false → has_way w left ≡ true
    → MayBe s node (Delivering x last left count) (if_room b (Deliver w x.loan.message))
delivers_may s node x last left count w true room over is_in = (room, (is_in, refl, ap not over))
delivers_may s node x last left count w false room over is_in = tt

first_delivers : (s : State) (node : ℕ) (x : Sending) (last : Option Way) (left : List Way) (count : ℕ) → is_over s last ≡ false
    → MayBe s node (Delivering x last left count) (at_first left (deliver s x))
first_delivers s node x last [] count over = tt
first_delivers s node x last (w ∷ left) count over =
    delivers_may s node x last (w ∷ left) count w (has_room s w) refl over (is_in-first w left)

evicts_may : (s : State) (node : ℕ) (x : Sending) (v : Way) (left : List Way) (count : ℕ) (b : Bool) → is_overfull s v ≡ b
    → MayBe s node (Delivering x (Some v) left count) (evict_or v b (at_first left (deliver s x)))
evicts_may s node x v left count true e = (e, same_way-refl v)
evicts_may s node x v left count false e = first_delivers s node x (Some v) left count e

evicted_may : (s : State) (node : ℕ) (x : Sending) (w : Way) (left : List Way) (count : ℕ) (o : Option ℕ)
    → first_of (s.in_hand w ++ s.returned w) ≡ o → MayBe s node (Evicted x w left count) (back_from_hand w o)
evicted_may s node x w left count None e = tt
evicted_may s node x w left count (Some k) e = (e, same_way-refl w)

visit_may : (s : State) (node : ℕ) (x : Receiver) (w : Way) (left : List Way) (seen : Bool) (ms : List Message) (b : Bool)
    → s.waiting w ≡ ms → is_at_limit s.fixed w ≡ b → MayBe s node (Visiting x (w ∷ left) seen) (Some (visit w ms b))
visit_may s node x w left seen [] b e l = (ap is_empty e, is_in-first w left)
visit_may s node x w left seen (m ∷ ms) true e l = (ap (λ xs. not (is_empty xs)) e, (is_in-first w left, l))
visit_may s node x w left seen (m ∷ ms) false e l = (ap first_of e, (is_in-first w left, ap not l))

again_may : (s : State) (node : ℕ) (x : Receiver) (w : Way) (left : List Way) (seen : Bool) (ms : List Message)
    → s.waiting w ≡ ms → MayBe s node (Again x w left seen) (Some (take_next w ms))
again_may s node x w left seen [] e = (ap is_empty e, same_way-refl w)
again_may s node x w left seen (m ∷ ms) e = (ap first_of e, same_way-refl w)

seek_may : (s : State) (node : ℕ) (w : Way) (left : List Way) (ms : List Message)
    → s.waiting w ≡ ms → MayBe s node (Seeking (w ∷ left)) (Some (seek w ms))
seek_may s node w left [] e = (ap is_empty e, is_in-first w left)
seek_may s node w left (m ∷ ms) e = (ap (λ xs. not (is_empty xs)) e, is_in-first w left)

both_true : (a b : Bool) → a ≡ true → b ≡ true → (a && b) ≡ true
both_true a b p q = ap (λ x. x && b) p ∙ q

-- What is chosen may come.
pub chosen_may_come : (s : State) (node : ℕ) (d : Doing) → MayBe s node d (chosen s d)
chosen_may_come s node (Ended o) = tt
chosen_may_come s node (Loaning copies h []) = tt
chosen_may_come s node (Loaning copies h (w ∷ left)) =
    (back_holds s w (first_of (s.in_hand w ++ s.returned w)) refl, loaning_may s node copies h w left (first_of (s.in_hand w ++ s.returned w)))
chosen_may_come s node (Asking x) = (refl, same_way-refl (own_state x.loan))
chosen_may_come s node (Emptying x []) = tt
chosen_may_come s node (Emptying x (w ∷ left)) =
    (back_holds s w (first_of (s.in_hand w ++ s.returned w)) refl, emptying_may s node x w left (first_of (s.in_hand w ++ s.returned w)))
chosen_may_come s node (Looking x [] full) = tt
chosen_may_come s node (Looking x (w ∷ left) full) = looking_may s node x w left full (is_full s w) refl
chosen_may_come s node (Opening x [] full) = tt
chosen_may_come s node (Opening x (w ∷ left) full) = (tt, (is_in-first w left, eqb-refl x.loan.request))
chosen_may_come s node (Delivering x None left count) = first_delivers s node x None left count refl
chosen_may_come s node (Delivering x (Some v) left count) = evicts_may s node x v left count (is_overfull s v) refl
chosen_may_come s node (Evicted x w left count) = evicted_may s node x w left count (first_of (s.in_hand w ++ s.returned w)) refl
chosen_may_come s node (Visiting x [] seen) = tt
chosen_may_come s node (Visiting x (w ∷ left) seen) = visit_may s node x w left seen (s.waiting w) (is_at_limit s.fixed w) refl refl
chosen_may_come s node (Again x w left seen) = again_may s node x w left seen (s.waiting w) refl
chosen_may_come s node (Judging x w m left seen) = (refl, same_way-refl (state_of_request w m))
chosen_may_come s node (Stale x w m left seen) = (tt, both_true (same_way w w) (m.serial == m.serial) (same_way-refl w) (eqb-refl m.serial))
chosen_may_come s node (Closing h []) = tt
chosen_may_come s node (Closing h (w ∷ left)) = (tt, (is_in-first w left, eqb-refl h.request))
chosen_may_come s node (Returning h) =
    (tt, both_true (same_way (way_of h) (way_of h)) (h.message.serial == h.message.serial) (same_way-refl (way_of h)) (eqb-refl h.message.serial))
chosen_may_come s node (Leaving h) =
    (tt, both_true (same_way (own_state h) (own_state h)) (h.request == h.request) (same_way-refl (own_state h)) (eqb-refl h.request))
chosen_may_come s node (Checking h hinted []) = tt
chosen_may_come s node (Checking h hinted (w ∷ left)) = (refl, is_in-first w left)
chosen_may_come s node (Hinting h []) = tt
chosen_may_come s node (Hinting h (w ∷ left)) = (tt, (is_in-first w left, eqb-refl h.request))
chosen_may_come s node (Seeking []) = tt
chosen_may_come s node (Seeking (w ∷ left)) = seek_may s node w left (s.waiting w) refl

-- ---- a call is played

abbrev pub go_on : Option Moment → (Moment → List Moment) → List Moment
go_on None f = []
go_on (Some m) f = m ∷ f m

-- at most so many moments, each one chosen
abbrev pub played : ℕ → State → ℕ → Doing → List Moment
played zero s node d = []
played (suc n) s node d = go_on (chosen s d) (λ m. played n (moved s m) node (next s node d m).after)

go_on_comes : (n : ℕ) (s : State) (node : ℕ) (d : Doing) (o : Option Moment) → MayBe s node d o
    → ((m : Moment) → MayCome (moved s m) node (next s node d m).after (played n (moved s m) node (next s node d m).after))
    → MayCome s node d (go_on o (λ m. played n (moved s m) node (next s node d m).after))
go_on_comes n s node d None p later = tt
go_on_comes n s node d (Some m) p later = (p.0, p.1, later m)

pub played_may_come : (n : ℕ) (s : State) (node : ℕ) (d : Doing) → MayCome s node d (played n s node d)
played_may_come zero s node d = tt
played_may_come (suc n) s node d =
    go_on_comes n s node d (chosen s d) (chosen_may_come s node d) (λ m. played_may_come n (moved s m) node (next s node d m).after)
