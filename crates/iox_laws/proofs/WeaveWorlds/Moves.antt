-- A moment keeps its call sound, and leaves those of other nodes sound.
use Rattle.std.specs.Prelude.{◌≡◌, ℕ, ◌+◌, Bool, true, false, if◌then◌else◌, ◌==◌, nat_lt, nat_le, List, [], ◌∷◌, ◌++◌, length, Option, Some, None, take, refl}
use Rattle.std.proofs.Common.{sym, subst, ap, ◌∙◌, true≢false, arith}
use Rattle.iox_model.specs.declared.way.Way.{Way}
use Rattle.iox_model.specs.Doings.{Sending, Doing, Loaning, Emptying, Delivering, Evicted}
use Rattle.iox_model.specs.Settings.{overflow_of}
use Rattle.iox_model.specs.States.{Fixed, State}
use Rattle.iox_model.specs.Requests.{is_last, is_over, may_evict}
use Rattle.iox_model.specs.Maps.{rest_of, same_way, put}
use Rattle.iox_model.specs.Moments.{Holds, moved, Moment, room_on, Deliver, Evict, Take, GiveBack, GetBack, SeesEmpty, SeesWaiting, SeesFull, SeesRoom, SeesNoneBack, Open, Close, Hint, Look}
use Rattle.iox_model.specs.Messages.{serials_of, Message}
use Rattle.iox_model.specs.Responses.{copies}
use Rattle.iox_model.specs.Transitions.{next}
use Rattle.iox_model.specs.Peers.{role_at, node_of_port, buffer_on}
use Rattle.iox_laws.proofs.WeaveLaws.CallLaws.{not-true}
use Rattle.iox_laws.proofs.WeaveLaws.MapLemmas.{either, same_way-refl, same_way-true, put_there, put-else, eqb-refl}
use Rattle.iox_laws.proofs.WeaveLaws.WholeLemmas.{moved-fixed}
use Rattle.iox_laws.proofs.WeaveWorlds.Sound.{IsPortOf, IsLast, IsSending, SoundDoing, last_of, IsWithin}
use Rattle.iox_laws.proofs.WeaveWorlds.Kept.{Leaves, from_own}
use Rattle.iox_laws.proofs.WeaveWorlds.Continues.{within_any}
use Rattle.iox_laws.proofs.WeaveLedger.Truths.{by_cases, false_if}
use Rattle.iox_laws.proofs.WeaveLedger.Lists.{length-last}
use Rattle.iox_laws.proofs.WeaveLedger.Orders.{le-le, le-refl}

-- ---- how many wait after a moment

rest-less : (xs : List Message) → nat_le (length (rest_of xs)) (length xs) ≡ true
rest-less [] = refl
rest-less (x ∷ xs) = grind (arith)

-- where the first is taken from a way, nowhere more waits
pub taken-less : (f : Way → List Message) (w v : Way) → nat_le (length (put f w (rest_of (f w)) v)) (length (f v)) ≡ true
taken-less f w v =
    either (λ (xs : List Message). nat_le (length xs) (length (f v)) ≡ true) (same_way v w) (rest_of (f w)) (f v)
    (λ same. subst (λ u. nat_le (length (rest_of (f u))) (length (f v)) ≡ true) (same_way-true v w same) (rest-less (f v)))
    (λ other. le-refl (length (f v)))

-- a moment that delivers nothing
abbrev IsNoDelivery : Moment → Type 0
IsNoDelivery (Deliver w m) = ⊥
IsNoDelivery m = Unit {0}

no_more : (s : State) (m : Moment) (v : Way) → IsNoDelivery m → nat_le (length ((moved s m).waiting v)) (length (s.waiting v)) ≡ true
no_more s (Deliver w m) v p = absurd p
no_more s (Evict w) v p = taken-less s.waiting w v
no_more s (Take w m) v p = taken-less s.waiting w v
no_more s (GiveBack w k) v p = le-refl (length (s.waiting v))
no_more s (GetBack w k) v p = le-refl (length (s.waiting v))
no_more s (SeesEmpty w) v p = le-refl (length (s.waiting v))
no_more s (SeesWaiting w) v p = le-refl (length (s.waiting v))
no_more s (SeesFull w) v p = le-refl (length (s.waiting v))
no_more s (SeesRoom w) v p = le-refl (length (s.waiting v))
no_more s (SeesNoneBack w) v p = le-refl (length (s.waiting v))
no_more s (Open w id) v p = le-refl (length (s.waiting v))
no_more s (Close w id) v p = le-refl (length (s.waiting v))
no_more s (Hint w id) v p = le-refl (length (s.waiting v))
no_more s (Look w shown) v p = le-refl (length (s.waiting v))

-- ---- the ways that only a sender changes so

-- it delivers, evicts and gets back only on its own ways
abbrev IsOwnTouch : Fixed → ℕ → Moment → Type 0
IsOwnTouch f node (Deliver w m) = IsPortOf f node w.sender
IsOwnTouch f node (Evict w) = IsPortOf f node w.sender
IsOwnTouch f node (GetBack w k) = IsPortOf f node w.sender
IsOwnTouch f node m = Unit {0}

pub last_is : (x : Sending) (w : Way) (last : Option Way) → is_last w last ≡ true → IsLast x last → w.sender ≡ x.loan.port
last_is x w None e from = absurd (true≢false (sym e))
last_is x w (Some v) e from = ap (λ (u : Way). u.sender) (same_way-true w v e) ∙ from.0

touches_own : (s : State) (node : ℕ) (d : Doing) (m : Moment) → SoundDoing s node d → (next s node d m).condition → IsOwnTouch s.fixed node m
touches_own s node (Loaning copies h left) (GetBack w k) p c = from_own s.fixed node h.port w p.0.1 (p.1 w c)
touches_own s node (Emptying x left) (GetBack w k) p c = from_own s.fixed node x.loan.port w p.0.0.1 (p.1 w c)
touches_own s node (Delivering x last left count) (Deliver w m) p c = from_own s.fixed node x.loan.port w p.0.0.1 (p.1 w c.0)
touches_own s node (Delivering x last left count) (Evict w) p c = from_own s.fixed node x.loan.port w p.0.0.1 (last_is x w last c p.4)
touches_own s node (Evicted x v left count) (GetBack w k) p c =
    from_own s.fixed node x.loan.port w p.0.0.1 (ap (λ (u : Way). u.sender) (same_way-true w v c) ∙ p.4)
touches_own s node d (Deliver w m) p c = absurd c
touches_own s node d (Evict w) p c = absurd c
touches_own s node d (GetBack w k) p c = absurd c
touches_own s node d m p c = tt

-- a way of another node is another way
other_way : (f : Fixed) (node n : ℕ) (v w : Way) → (n == node) ≡ false → IsPortOf f node w.sender → IsPortOf f n v.sender → same_way v w ≡ false
other_way f node n v w other own of_node =
    false_if (same_way v w) (λ same. true≢false
    (sym (eqb-refl n) ∙ ap (λ k. n == k) (sym of_node.1 ∙ ap (λ (u : Way). node_of_port f u.sender) (same_way-true v w same) ∙ own.1) ∙ other))

leaves_waiting : (s : State) (node n : ℕ) (m : Moment) → IsOwnTouch s.fixed node m → (n == node) ≡ false → (v : Way)
    → IsPortOf s.fixed n v.sender → nat_le (length ((moved s m).waiting v)) (length (s.waiting v)) ≡ true
leaves_waiting s node n (Deliver w m) own other v of_node =
    subst (λ (xs : List Message). nat_le (length xs) (length (s.waiting v)) ≡ true)
    (sym (put-else s.waiting w (s.waiting w ++ m ∷ []) v (other_way s.fixed node n v w other own of_node))) (le-refl (length (s.waiting v)))
leaves_waiting s node n m own other v of_node = no_more s m v tt

leaves_in_hand : (s : State) (node n : ℕ) (m : Moment) → IsOwnTouch s.fixed node m → (n == node) ≡ false → (v : Way)
    → IsPortOf s.fixed n v.sender → (moved s m).in_hand v ≡ s.in_hand v
leaves_in_hand s node n (Evict w) own other v of_node =
    put-else s.in_hand w (serials_of (take 1 (s.waiting w))) v (other_way s.fixed node n v w other own of_node)
leaves_in_hand s node n (GetBack w k) own other v of_node = put-else s.in_hand w [] v (other_way s.fixed node n v w other own of_node)
leaves_in_hand s node n m own other v of_node = refl

-- Other nodes' ways are left.
pub moved_leaves : (s : State) (node n : ℕ) (d : Doing) (m : Moment) → SoundDoing s node d → (next s node d m).condition → (n == node) ≡ false
    → Leaves s (moved s m) n
moved_leaves s node n d m p c other = record {
  fixed = record {
    ports = ap (λ (f : Fixed). f.ports) (moved-fixed s m);
    limits = ap (λ (f : Fixed). f.limits) (moved-fixed s m);
    on_wire = ap (λ (f : Fixed). f.on_wire) (moved-fixed s m);
  };
  waiting = leaves_waiting s node n m (touches_own s node d m p c) other;
  in_hand = leaves_in_hand s node n m (touches_own s node d m p c) other;
}

-- ---- how many wait on the own ways

not_over : (n b : ℕ) → nat_lt b n ≡ false → nat_le n (b + 0) ≡ true
not_over n b e = grind (arith)

-- where the last delivery left not one too many, no way has one too many
pub calm : (s : State) (node : ℕ) (last : Option Way) → is_over s last ≡ false → IsWithin s node last → IsWithin s node None
calm s node None e p v of_node = p v of_node
calm s node (Some u) e p v of_node =
    by_cases (same_way v u)
    (λ same. subst (λ w. nat_le (length (s.waiting w)) (buffer_on s.fixed w + 0) ≡ true) (sym (same_way-true v u same))
    (not_over (length (s.waiting u)) (buffer_on s.fixed u) e))
    (λ other. subst (λ (b : Bool). nat_le (length (s.waiting v)) (buffer_on s.fixed v + (if b then 1 else 0)) ≡ true) other (p v of_node))

one_more : (n r : ℕ) → nat_lt n r ≡ true → nat_le (n + 1) r ≡ true
one_more n r e = grind (arith)

last_evicts : (x : Sending) (w : Way) → is_last w (may_evict x w) ≡ x.overflow
last_evicts x w =
    by_cases x.overflow (λ e. subst (λ (b : Bool). is_last w (if b then Some w else None) ≡ b) (sym e) (same_way-refl w))
    (λ e. subst (λ (b : Bool). is_last w (if b then Some w else None) ≡ b) (sym e) refl)

delivered_within : (s : State) (node : ℕ) (x : Sending) (last : Option Way) (w : Way) (m : Message) → IsSending s.fixed node x
    → w.sender ≡ x.loan.port → nat_lt (length (s.waiting w)) (room_on s.fixed w) ≡ true → is_over s last ≡ false
    → IsWithin s node last → IsWithin (moved s (Deliver w m)) node (may_evict x w)
delivered_within s node x last w m own from room over p v of_node =
    by_cases (same_way v w)
    (λ same. subst (λ u. nat_le (length (put s.waiting w (s.waiting w ++ m ∷ []) u)) (buffer_on s.fixed u
    + (if is_last u (may_evict x w) then 1 else 0)) ≡ true)
    (sym (same_way-true v w same))
    (subst (λ (xs : List Message). nat_le (length xs) (buffer_on s.fixed w + (if is_last w (may_evict x w) then 1 else 0)) ≡ true)
    (sym (put_there s.waiting w (s.waiting w ++ m ∷ [])))
    (subst (λ k. nat_le k (buffer_on s.fixed w + (if is_last w (may_evict x w) then 1 else 0)) ≡ true) (sym (length-last (s.waiting w) m))
    (subst (λ (b : Bool). nat_le (length (s.waiting w) + 1) (buffer_on s.fixed w + (if b then 1 else 0)) ≡ true)
    (ap (λ port. overflow_of s.fixed.limits (role_at s.fixed port)) from ∙ sym own.1 ∙ sym (last_evicts x w))
    (one_more (length (s.waiting w)) (room_on s.fixed w) room)))))
    (λ other. subst (λ (xs : List Message). nat_le (length xs) (buffer_on s.fixed v + (if is_last v (may_evict x w) then 1 else 0)) ≡ true)
    (sym (put-else s.waiting w (s.waiting w ++ m ∷ []) v other))
    (within_any s node (may_evict x w) (calm s node last over p) v of_node))

one_less : (xs : List Message) (b : ℕ) → nat_le (length xs) (b + 1) ≡ true → nat_le (length (rest_of xs)) (b + 0) ≡ true
one_less [] b e = grind (arith)
one_less (x ∷ xs) b e = grind (arith)

evicted_within : (s : State) (node : ℕ) (last : Option Way) (w : Way) → is_last w last ≡ true → IsWithin s node last → IsWithin (moved s (Evict w)) node None
evicted_within s node None w e p v of_node = absurd (true≢false (sym e))
evicted_within s node (Some u) w e p v of_node =
    by_cases (same_way v w)
    (λ same. subst (λ y. IsPortOf s.fixed node y.sender → nat_le (length (put s.waiting w (rest_of (s.waiting w)) y)) (buffer_on s.fixed y + 0) ≡ true)
    (sym (same_way-true v w same))
    (λ here. subst (λ (xs : List Message). nat_le (length xs) (buffer_on s.fixed w + 0) ≡ true) (sym (put_there s.waiting w (rest_of (s.waiting w))))
    (one_less (s.waiting w) (buffer_on s.fixed w)
    (subst (λ (b : Bool). nat_le (length (s.waiting w)) (buffer_on s.fixed w + (if b then 1 else 0)) ≡ true) e (p w here)))) of_node)
    (λ other. subst (λ (xs : List Message). nat_le (length xs) (buffer_on s.fixed v + 0) ≡ true) (sym (put-else s.waiting w (rest_of (s.waiting w)) v other))
    (subst (λ (b : Bool). nat_le (length (s.waiting v)) (buffer_on s.fixed v + (if b then 1 else 0)) ≡ true)
    (ap (same_way v) (sym (same_way-true w u e)) ∙ other) (p v of_node)))

quiet_within : (s : State) (node : ℕ) (m : Moment) (last : Option Way) → IsNoDelivery m → IsWithin s node None → IsWithin (moved s m) node last
quiet_within s node m last quiet p =
    within_any (moved s m) node last
    (λ v of_node. subst (λ (f : Fixed). nat_le (length ((moved s m).waiting v)) (buffer_on f v + 0) ≡ true) (sym (moved-fixed s m))
    (le-le (length ((moved s m).waiting v)) (length (s.waiting v)) (buffer_on s.fixed v + 0) (no_more s m v quiet)
    (p v (subst (λ (f : Fixed). IsPortOf f node v.sender) (moved-fixed s m) of_node))))

pub moved_within : (s : State) (node : ℕ) (d : Doing) (m : Moment) → IsWithin s node (last_of (Some d)) → SoundDoing s node d → Holds s m
    → (next s node d m).condition → IsWithin (moved s m) node (last_of (Some (next s node d m).after))
moved_within s node (Delivering x last left count) (Deliver w m) p fits h c =
    delivered_within s node x last w m fits.0 (fits.1 w c.0) h (not-true (is_over s last) c.2) p
moved_within s node (Delivering x last left count) (Evict w) p fits h c = evicted_within s node last w c p
moved_within s node (Delivering x last left count) m p fits h c = absurd c
moved_within s node d (Deliver w m) p fits h c = absurd c
moved_within s node d m p fits h c = quiet_within s node m (last_of (Some (next s node d m).after)) tt p
