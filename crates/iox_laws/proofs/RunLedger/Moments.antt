-- What is in hand, given back and delivered, from one moment of a call of a hub to the next.
use Rattle.std.specs.Prelude.{◌≡◌, ℕ, ◌+◌, ◌≤◌, Bool, true, false, not, ◌&&◌, if◌then◌else◌, ◌==◌, nat_le, List, [], ◌∷◌, ◌++◌, length, take, ⊤, refl}
use Rattle.std.proofs.Common.{sym, subst, ap, ◌∙◌, true≢false, arith, inl, inr}
use Rattle.iox_model.specs.declared.way.Way.{Way}
use Rattle.iox_model.specs.Doings.{Receives, Doing, Ended, Delivering, Evicted, Visiting, Again, Judging, Stale, Returning}
use Rattle.iox_laws.specs.WeaveLaws.Ledgers.{is_emptied_by}
use Rattle.iox_model.specs.Maps.{is_empty, rest_of, put_at, same_way, without_way}
use Rattle.iox_model.specs.Messages.{serials_of, names, Message}
use Rattle.iox_model.specs.Moments.{Holds, moved, Moment, Deliver, Evict, Take, GiveBack, GetBack, SeesEmpty, SeesWaiting, Look}
use Rattle.iox_model.specs.Peers.{is_counted_on, forgot_port, node_of_port}
use Rattle.iox_model.specs.States.{Handle, Fixed, State}
use Rattle.iox_model.specs.Transitions.{next}
use Rattle.iox_laws.proofs.WeaveLaws.MapLemmas.{either, same_way-true}
use Rattle.iox_laws.proofs.WeaveLaws.WholeLemmas.{moved-fixed}
use Rattle.iox_laws.specs.WeaveLedger.QueueLaws.{has_evicted}
use Rattle.iox_laws.proofs.WeaveLedger.Counts.{count, one_if}
use Rattle.iox_laws.proofs.WeaveLedger.Orders.{least, none-more}
use Rattle.iox_laws.proofs.WeaveLedger.Buffers.{one-taken}
use Rattle.iox_laws.proofs.WeaveLedger.Truths.{never, both_true, by_cases}
use Rattle.iox_laws.proofs.WeaveLedger.Emptied.{EmptiesNone, WasEmptied, visiting-none, took-none, next-emptied}
use Rattle.iox_laws.proofs.WeaveLedger.Had.{put_on}
use Rattle.iox_laws.proofs.WeaveLedger.HadMoves.{HasOwnHandles}
use Rattle.iox_laws.proofs.WeaveLedger.Lists.{IsAmong, way-among, without-itself}
use Rattle.iox_laws.proofs.WeaveLedger.Once.{HasPassed, IsPassed, next-passed}
use Rattle.iox_laws.proofs.WeaveLedger.Outs.{is, head-is, no-head, moved-delivered}
use Rattle.iox_laws.proofs.WeaveLedger.Phases.{target-of}
use Rattle.iox_laws.proofs.WeaveLedger.Senders.{FitsLoan, Stands as LoanStands}
use Rattle.iox_laws.proofs.WeaveLedger.Views.{view, mine}
use Rattle.iox_laws.proofs.WeaveWorlds.Kept.{from_own}
use Rattle.iox_laws.proofs.WeaveWorlds.Sound.{SoundDoing}
use Rattle.iox_laws.proofs.RunLaws.Holding.{HoldsIn}
use Rattle.iox_laws.proofs.RunLaws.Ports.{any_at}
use Rattle.iox_laws.proofs.RunLaws.Rests.{Rests}
use Rattle.iox_laws.proofs.RunLedger.Receiving.{gives-own}
use Rattle.iox_laws.proofs.RunLedger.Rights.{loaned_in, rights, AreFew, has-right}
use Rattle.iox_laws.proofs.RunLedger.Underway.{Stands}

-- both ends of the way are connected
abbrev pub has_ends : Fixed → Way → Bool
has_ends f y = any_at y.sender f.ports && any_at y.receiver f.ports

-- ---- what is in hand

pub moved-hand : (s : State) (n : ℕ) (d : Doing) (m : Moment) (y : Way) → (next s n d m).condition → length (s.in_hand y) ≤ one_if (has_evicted y d)
    → length ((moved s m).in_hand y) ≤ one_if (has_evicted y (next s n d m).after)
moved-hand s n (Delivering x last left count) (Evict w) y c p = by_case (same_way y w)
  where
    by_case : (b : Bool) → length (if b then serials_of (take 1 (s.waiting w)) else s.in_hand y) ≤ one_if b
    by_case true = one-taken (s.waiting w)
    by_case false = p
moved-hand s n d (Evict w) y c p = absurd c
moved-hand s n (Evicted x v left count) (GetBack w k) y c p =
    either (λ (ks : List ℕ). length ks ≤ 0) (same_way y w) [] (s.in_hand y) (λ u. least 0)
    (λ other. subst (λ b. length (s.in_hand y) ≤ one_if b) (subst (λ u. same_way y u ≡ false) (same_way-true w v c) other) p)
moved-hand s n (Evicted x v left count) m y c p = absurd c
moved-hand s n d (GetBack w k) y c p =
    either (λ (ks : List ℕ). length ks ≤ one_if (has_evicted y (next s n d (GetBack w k)).after)) (same_way y w) [] (s.in_hand y)
    (λ u. least (one_if (has_evicted y (next s n d (GetBack w k)).after)))
    (λ u. none-more (length (s.in_hand y)) (one_if (has_evicted y (next s n d (GetBack w k)).after)) p)
moved-hand s n d m y c p = none-more (length (s.in_hand y)) (one_if (has_evicted y (next s n d m).after)) p

-- ---- what was given back where the call emptied the way

was-emptied : (s : State) (n : ℕ) (d : Doing) (m : Moment) (y : Way) → Stands (view s.fixed n) n d → (next s n d m).condition
    → is_emptied_by s.fixed y (next s n d m).after ≡ true → WasEmptied s.fixed y d m
was-emptied s n (Ended o) m y p c e = absurd c
was-emptied s n (Visiting x left seen) (SeesEmpty w) y p c e = never _ e (visiting-none s.fixed y x (without_way w left) seen)
was-emptied s n (Visiting x left seen) (SeesWaiting w) y p c e = never _ e (visiting-none s.fixed y x (without_way w left) true)
was-emptied s n (Visiting x left seen) (Take w m) y p c e = never _ e (took-none s.fixed n y x w m left seen)
was-emptied s n (Visiting x left seen) m y p c e = absurd c
was-emptied s n (Again x v left seen) (SeesEmpty w) y p c e = never _ e (visiting-none s.fixed y x (without_way v left) seen)
was-emptied s n (Again x v left seen) (Take w m) y p c e = never _ e (took-none s.fixed n y x v m left seen)
was-emptied s n (Again x v left seen) m y p c e = absurd c
was-emptied s n (Judging x v m left seen) (Look w shown) y p c e =
    never _ e (either (EmptiesNone s.fixed y) (names shown m.request) (Ended (Receives x v m)) (Stale x v m left seen) (λ u. refl) (λ u. refl))
was-emptied s n (Judging x v k left seen) m y p c e = absurd c
was-emptied s n (Stale x v m left seen) (GiveBack w k) y p c e = absurd (true≢false (sym e))
was-emptied s n (Stale x v k left seen) m y p c e = absurd c
was-emptied s n d m y p c e = next-emptied s n d m y p c e

abbrev pub GivesNothing : Moment → Type 0
GivesNothing (GiveBack w k) = ⊥
GivesNothing m = ⊤

pub still-none : (s : State) (m : Moment) (y : Way) → GivesNothing m → s.returned y ≡ [] → (moved s m).returned y ≡ []
still-none s (GiveBack w k) y g e = absurd g
still-none s (GetBack w k) y g e =
    either (λ (ks : List ℕ). ks ≡ []) (same_way y w) (if is_empty (s.in_hand w) then rest_of (s.returned w) else s.returned w) (s.returned y)
    (λ same. let here : s.returned w ≡ [] = ap s.returned (sym (same_way-true y w same)) ∙ e in
    either (λ (ks : List ℕ). ks ≡ []) (is_empty (s.in_hand w)) (rest_of (s.returned w)) (s.returned w) (λ u. ap rest_of here) (λ u. here)) (λ u. e)
still-none s m y g e = e

-- a send gives nothing back
emptied-gives : (s : State) (n : ℕ) (d : Doing) (m : Moment) (y : Way) → (next s n d m).condition → is_emptied_by s.fixed y d ≡ true → GivesNothing m
emptied-gives s n (Stale x v k left seen) m y c e = absurd (true≢false (sym e))
emptied-gives s n (Returning h) m y c e = absurd (true≢false (sym e))
emptied-gives s n d (GiveBack w k) y c e = absurd c
emptied-gives s n d m y c e = tt

pub moved-emptied : (s : State) (n : ℕ) (d : Doing) (m : Moment) (y : Way) → Stands (view s.fixed n) n d → Holds s m → (next s n d m).condition
    → (is_emptied_by s.fixed y d ≡ true → s.returned y ≡ []) → is_emptied_by s.fixed y (next s n d m).after ≡ true → (moved s m).returned y ≡ []
moved-emptied s n d m y p holds c none-more e = elim (was-emptied s n d m y p c e) as (λ u. (moved s m).returned y ≡ []) [
  | inl was ↦ still-none s m y (emptied-gives s n d m y c was.0) (none-more was.0)
  | inr saw ↦ subst (λ (a : Moment). (moved s a).returned y ≡ []) (sym saw.0) (empty (s.returned y) (subst (Holds s) saw.0 holds))
]
  where
    empty : (ks : List ℕ) → is_empty ks ≡ true → ks ≡ []
    empty [] e = refl
    empty (k ∷ ks) e = absurd (true≢false (sym e))

-- ---- ways without both ends

abbrev pub IsIdle : State → Way → Type 0
IsIdle s y = (s.returned y ≡ []) × ((k : ℕ) → s.delivered y k ≡ false)

pub delivers-ends : (s : State) (n : ℕ) (d : Doing) (w : Way) (m : Message) → SoundDoing s n d → HoldsIn s.fixed d → (next s n d (Deliver w m)).condition
    → has_ends s.fixed w ≡ true
delivers-ends s n (Delivering x last left count) w m fits p c =
    both_true (any_at w.sender s.fixed.ports) (any_at w.receiver s.fixed.ports) (from_own s.fixed n x.loan.port w fits.0.0.1 (fits.1 w c.0)).0
    ((p.0).1 w.receiver (target-of x w (p.1 w (way-among w left c.0))).1).0
delivers-ends s n d w m fits p c = absurd c

-- nothing counts what comes back to a sender that is gone
no-sender : (f : Fixed) (w : Way) → has_ends f w ≡ false → any_at w.receiver f.ports ≡ true → is_counted_on f w ≡ false
no-sender f w e there = first (any_at w.sender f.ports) (any_at w.receiver f.ports) e there
  where
    first : (a b : Bool) → (a && b) ≡ false → b ≡ true → (a && not (forgot_port f (node_of_port f w.sender) w.receiver)) ≡ false
    first true true e h = absurd (true≢false e)
    first true false e h = absurd (true≢false (sym h))
    first false b e h = refl

pub moved-idle : (s : State) (n : ℕ) (d : Doing) (m : Moment) (y : Way) → Rests s.fixed → SoundDoing s n d → HoldsIn s.fixed d → Stands (view s.fixed n) n d
    → (next s n d m).condition → has_ends s.fixed y ≡ false → IsIdle s y → IsIdle (moved s m) y
moved-idle s n d (Deliver w m) y r fits p q c off idle = (
  idle.0,
  λ k. either (λ (g : ℕ → Bool). g k ≡ false) (same_way y w) (put_at (s.delivered w) m.serial true) (s.delivered y)
      (λ same. never (has_ends s.fixed y) (subst (λ u. has_ends s.fixed u ≡ true) (sym (same_way-true y w same)) (delivers-ends s n d w m fits p c)) off)
      (λ u. idle.1 k),
)
moved-idle s n d (GiveBack w k) y r fits p q c off idle = (
  either (λ (ks : List ℕ). ks ≡ []) (same_way y w) (if is_counted_on s.fixed w then s.returned w ++ k ∷ [] else s.returned w) (s.returned y)
      (λ same.
      let is : w ≡ y = sym (same_way-true y w same) in
      either (λ (ks : List ℕ). ks ≡ []) (is_counted_on s.fixed w) (s.returned w ++ k ∷ []) (s.returned w)
      (λ counted. never (is_counted_on s.fixed w) counted
      (no-sender s.fixed w (subst (λ u. has_ends s.fixed u ≡ false) (sym is) off) (gives-own s n d w k r fits q c).0))
      (λ u. ap s.returned is ∙ idle.0)) (λ u. idle.0),
  idle.1,
)
moved-idle s n d (GetBack w k) y r fits p q c off idle = (
  still-none s (GetBack w k) y tt idle.0,
  λ j. either (λ (g : ℕ → Bool). g j ≡ false) (same_way y w) (put_at (s.delivered w) k false) (s.delivered y)
      (λ same. either (λ (b : Bool). b ≡ false) (j == k) false (s.delivered w j) (λ u. refl)
      (λ u. ap (λ v. s.delivered v j) (sym (same_way-true y w same)) ∙ idle.1 j)) (λ u. idle.1 j),
)
moved-idle s n d m y r fits p q c off idle = idle

-- ---- each serial is to be sent, or delivered

-- but for what the send under way delivered already
abbrev pub IsFresh : State → Doing → Type 0
IsFresh s d = (n : ℕ) (y : Way) (k : ℕ) → (IsPassed y k d → ⊥) → rights s.fixed n y.sender k + one_if (s.delivered y k) ≤ 1

-- what is put on a way now is passed there
pub put-passed : (s : State) (n : ℕ) (d : Doing) (m : Moment) (y : Way) (k : ℕ) → Stands (view s.fixed n) n d → (next s n d m).condition
    → put_on y m ≡ k ∷ [] → IsPassed y k (next s n d m).after
put-passed s n (Delivering x last left count) (Deliver w m) y k p c e = by_case (same_way y w) (same_way-true y w) e
  where
    by_case : (b : Bool) → (b ≡ true → y ≡ w) → (if b then m.serial ∷ [] else []) ≡ k ∷ [] → HasPassed y k x (without_way w left)
    by_case true same e = (
      sym (ap (λ (u : Way). u.sender) (same refl) ∙ (target-of x w ((p.1).among w (way-among w left c.0))).0),
      sym (ap (λ (u : Message). u.serial) c.1) ∙ head-is m.serial k e,
      λ a. without-itself w left (p.1).apart (subst (λ u. IsAmong u (without_way w left)) (same refl) a),
    )
    by_case false same e = absurd (no-head k e)
put-passed s n d (Deliver w m) y k p c e = absurd c
put-passed s n d m y k p c e = absurd (no-head k e)

-- and was not before
pub put-unpassed : (s : State) (n : ℕ) (d : Doing) (m : Moment) (y : Way) (k : ℕ) → (next s n d m).condition → put_on y m ≡ k ∷ [] → IsPassed y k d → ⊥
put-unpassed s n (Delivering x last left count) (Deliver w m) y k c e p = by_case (same_way y w) (same_way-true y w) e
  where
    by_case : (b : Bool) → (b ≡ true → y ≡ w) → (if b then m.serial ∷ [] else []) ≡ k ∷ [] → ⊥
    by_case true same e = p.2 (subst (λ u. IsAmong u left) (sym (same refl)) (way-among w left c.0))
    by_case false same e = no-head k e
put-unpassed s n d (Deliver w m) y k c e p = absurd c
put-unpassed s n d m y k c e p = no-head k e

-- the loan of a send may be sent
pub loan-right : (f : Fixed) (n : ℕ) (h : Handle) (copied : Bool) → HasOwnHandles (f.handles n) → FitsLoan (view f n) n h copied
    → 1 ≤ rights f n h.port h.message.serial
loan-right f n h copied own p = by_case copied p.stands
  where
    loans : (view f n).loans h.port ≡ f.loans h.port
    loans = ap (λ (b : Bool). if b then f.loans h.port else 0) (mine f.ports h.port n p.of_port)

    next-one : (a b c : ℕ) → a ≡ b → 1 ≤ c + one_if (nat_le b a)
    next-one a b c e = rw (itself a b e) (omega arith)
      where
        itself : (a b : ℕ) → a ≡ b → nat_le b a ≡ true
        itself a b e = grind (arith)

    more : (a b : ℕ) → 1 ≤ a → 1 ≤ a + b
    more a b q = omega arith

    by_case : (b : Bool) → LoanStands (view f n) h b → 1 ≤ rights f n h.port h.message.serial
    by_case true q = next-one h.message.serial (f.loans h.port) (count (is h.message.serial) (loaned_in (f.handles n) h.port)) (q.0 ∙ loans)
    by_case false a =
        more (count (is h.message.serial) (loaned_in (f.handles n) h.port)) (one_if (nat_le (f.loans h.port) h.message.serial))
        (has-right h (f.handles n) own a p.loan)

pub put-right : (s : State) (n : ℕ) (d : Doing) (m : Moment) (y : Way) (k : ℕ) → HasOwnHandles (s.fixed.handles n) → Stands (view s.fixed n) n d
    → (next s n d m).condition → put_on y m ≡ k ∷ [] → 1 ≤ rights s.fixed n y.sender k
put-right s n (Delivering x last left count) (Deliver w m) y k own p c e = by_case (same_way y w) (same_way-true y w) e
  where
    by_case : (b : Bool) → (b ≡ true → y ≡ w) → (if b then m.serial ∷ [] else []) ≡ k ∷ [] → 1 ≤ rights s.fixed n y.sender k
    by_case true same e =
        subst (λ q. 1 ≤ rights s.fixed n q k) (sym (ap (λ (u : Way). u.sender) (same refl) ∙ (target-of x w ((p.1).among w (way-among w left c.0))).0))
        (subst (λ j. 1 ≤ rights s.fixed n x.loan.port j) (sym (ap (λ (u : Message). u.serial) c.1) ∙ head-is m.serial k e)
        (loan-right s.fixed n x.loan x.copied own (p.0).loan))
    by_case false same e = absurd (no-head k e)
put-right s n d (Deliver w m) y k own p c e = absurd c
put-right s n d m y k own p c e = absurd (no-head k e)

-- so it was not delivered
pub put-new : (s : State) (n : ℕ) (d : Doing) (m : Moment) (y : Way) (k : ℕ) → HasOwnHandles (s.fixed.handles n) → Stands (view s.fixed n) n d
    → (next s n d m).condition → IsFresh s d → put_on y m ≡ k ∷ [] → s.delivered y k ≡ false
put-new s n d m y k own p c fresh e =
    off (s.delivered y k) (rights s.fixed n y.sender k) (put-right s n d m y k own p c e) (fresh n y k (put-unpassed s n d m y k c e))
  where
    off : (b : Bool) (a : ℕ) → 1 ≤ a → a + one_if b ≤ 1 → b ≡ false
    off true a p q = absurd (omega arith)
    off false a p q = refl

pub moved-fresh : (s : State) (n : ℕ) (d : Doing) (m : Moment) → AreFew s.fixed → Stands (view s.fixed n) n d → (next s n d m).condition → IsFresh s d
    → IsFresh (moved s m) (next s n d m).after
moved-fresh s n d m few p c fresh i y k unpassed =
    subst (λ (f : Fixed). rights f i y.sender k + one_if ((moved s m).delivered y k) ≤ 1) (sym (moved-fixed s m))
    (by_cases ((moved s m).delivered y k)
    (λ now. elim (moved-delivered s m y k now) as (λ u. rights s.fixed i y.sender k + one_if ((moved s m).delivered y k) ≤ 1) [
      | inl was ↦ subst (λ b. rights s.fixed i y.sender k + one_if b ≤ 1) (was ∙ sym now) (fresh i y k (λ q. unpassed (next-passed s n d m y k c q)))
      | inr e ↦ absurd (unpassed (put-passed s n d m y k p c e))
    ])
    (λ off. subst (λ b. rights s.fixed i y.sender k + one_if b ≤ 1) (sym off) (plus (rights s.fixed i y.sender k) (few i y.sender k))))
  where
    plus : (a : ℕ) → a ≤ 1 → a + 0 ≤ 1
    plus a q = omega arith
