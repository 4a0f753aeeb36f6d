-- What is out on a way, counted by a test, from one moment to the next: what is put there is more, and what is got back is less.
use Rattle.std.specs.Prelude.{◌≡◌, ℕ, ◌+◌, ◌≤◌, Bool, true, false, if◌then◌else◌, ◌==◌, List, [], ◌∷◌, ◌++◌, length, take, Some, ⊤, ◌⊎◌, refl}
use Rattle.std.proofs.Common.{sym, subst, ap, ◌∙◌, arith, eqb-true, eq-eqb, true≢false, inl, inr}
use Rattle.iox_model.specs.declared.way.Way.{Way}
use Rattle.iox_model.specs.Maps.{is_empty, first_of, rest_of, put_at, same_way}
use Rattle.iox_model.specs.Messages.{serials_of, Message}
use Rattle.iox_model.specs.Moments.{Holds, moved, Moment, Deliver, Evict, Take, GiveBack, GetBack}
use Rattle.iox_model.specs.Peers.{is_counted_on}
use Rattle.iox_model.specs.States.{State}
use Rattle.iox_laws.proofs.WeaveLaws.MapLemmas.{same_way-true}
use Rattle.iox_laws.proofs.WeaveLaws.WholeLemmas.{some-is}
use Rattle.iox_laws.proofs.WeaveLedger.Counts.{count, one_if, count-cons}
use Rattle.iox_laws.proofs.WeaveLedger.Truths.{never, none-some}
use Rattle.iox_laws.proofs.WeaveLedger.Tallies.{count-append}
use Rattle.iox_laws.proofs.WeaveLedger.Had.{put_on, taken_on, given_on, got_on}

-- how many serials that pass are out, where the receiver has these
abbrev pub out : (ℕ → Bool) → State → Way → List ℕ → ℕ
out value s y had = count value (serials_of (s.waiting y)) + count value had + count value (s.returned y) + count value (s.in_hand y)

-- the same but for what is held, from one state to the next
abbrev pub Shifts : (ℕ → Bool) → State → State → Way → Moment → Type 0
Shifts value s u y m =
    count value (serials_of (u.waiting y)) + count value (taken_on y m) + count value (u.returned y) + count value (u.in_hand y) + count value (got_on y m)
    ≡ count value (serials_of (s.waiting y)) + count value (put_on y m) + count value (s.returned y) + count value (s.in_hand y) + count value (given_on y m)

-- ---- one queue

delivered-count : (value : ℕ → Bool) (xs : List Message) (m : Message)
    → count value (serials_of (xs ++ m ∷ [])) ≡ count value (serials_of xs) + count value (m.serial ∷ [])
delivered-count value xs m = ap (count value) (last xs) ∙ count-append value (serials_of xs) (m.serial ∷ [])
  where
    last : (xs : List Message) → serials_of (xs ++ m ∷ []) ≡ serials_of xs ++ m.serial ∷ []
    last [] = refl
    last (x ∷ xs) = ap (λ ks. x.serial ∷ ks) (last xs)

taken-count : (value : ℕ → Bool) (xs : List Message) (m : Message) → first_of xs ≡ Some m
    → count value (serials_of (rest_of xs)) + count value (m.serial ∷ []) ≡ count value (serials_of xs)
taken-count value [] m e = absurd (none-some m e)
taken-count value (x ∷ xs) m e =
    subst (λ (k : Message). count value (serials_of xs) + count value (k.serial ∷ []) ≡ count value (x.serial ∷ serials_of xs)) (some-is x m e)
    (flip (count value (serials_of xs)) (count value (x.serial ∷ [])) (count value (x.serial ∷ serials_of xs))
    (count-append value (x.serial ∷ []) (serials_of xs)))
  where
    flip : (a b c : ℕ) → c ≡ b + a → a + b ≡ c
    flip a b c e = omega arith

evicted-count : (value : ℕ → Bool) (xs : List Message)
    → count value (serials_of (rest_of xs)) + count value (serials_of (take 1 xs)) ≡ count value (serials_of xs)
evicted-count value [] = refl
evicted-count value (x ∷ xs) =
    flip (count value (serials_of xs)) (count value (x.serial ∷ [])) (count value (x.serial ∷ serials_of xs))
    (count-append value (x.serial ∷ []) (serials_of xs))
  where
    flip : (a b c : ℕ) → c ≡ b + a → a + b ≡ c
    flip a b c e = omega arith

-- one of at most one in hand, or else the first of those given back
got-count : (value : ℕ → Bool) (hand back : List ℕ) (k : ℕ) → first_of (hand ++ back) ≡ Some k → length hand ≤ 1
    → count value (if is_empty hand then rest_of back else back) + count value (k ∷ []) ≡ count value back + count value hand
got-count value [] [] k e few = absurd (none-some k e)
got-count value [] (b ∷ bs) k e few =
    subst (λ j. count value bs + count value (j ∷ []) ≡ count value (b ∷ bs) + 0) (some-is b k e)
    (flip (count value bs) (count value (b ∷ [])) (count value (b ∷ bs)) (count-append value (b ∷ []) bs))
  where
    flip : (a b c : ℕ) → c ≡ b + a → a + b ≡ c + 0
    flip a b c e = omega arith
got-count value (h ∷ []) back k e few = ap (λ j. count value back + count value (j ∷ [])) (sym (some-is h k e))
got-count value (h ∷ g ∷ hs) back k e few = absurd (omega arith)

-- ---- the moments

-- an eviction finds nothing in hand
abbrev pub HandFits : State → Way → Moment → Type 0
HandFits s y (Evict x) = same_way y x ≡ true → s.in_hand y ≡ []
HandFits s y m = ⊤

pub moved-shifts : (value : ℕ → Bool) (s : State) (m : Moment) (y : Way) → Holds s m → is_counted_on s.fixed y ≡ true → length (s.in_hand y) ≤ 1
    → HandFits s y m
    → Shifts value s (moved s m) y m
moved-shifts value s (Deliver x m) y holds live few fits = by_case (same_way y x) (same_way-true y x)
  where
    more : (a b c d e : ℕ) → e ≡ a + b → e + 0 + c + d + 0 ≡ a + b + c + d + 0
    more a b c d e p = omega arith

    by_case : (b : Bool) → (b ≡ true → y ≡ x)
        → count value (serials_of (if b then s.waiting x ++ m ∷ [] else s.waiting y)) + 0 + count value (s.returned y) + count value (s.in_hand y) + 0
        ≡ count value (serials_of (s.waiting y)) + count value (if b then m.serial ∷ [] else []) + count value (s.returned y) + count value (s.in_hand y) + 0
    by_case true e =
        more (count value (serials_of (s.waiting y))) (count value (m.serial ∷ [])) (count value (s.returned y)) (count value (s.in_hand y))
        (count value (serials_of (s.waiting x ++ m ∷ [])))
        (delivered-count value (s.waiting x) m ∙ ap (λ u. count value (serials_of (s.waiting u)) + count value (m.serial ∷ [])) (sym (e refl)))
    by_case false e = refl
moved-shifts value s (Evict x) y holds live few fits = by_case (same_way y x) (same_way-true y x) fits
  where
    less : (a b c d e : ℕ) → a + b ≡ d → e ≡ 0 → a + 0 + c + b + 0 ≡ d + 0 + c + e + 0
    less a b c d e p q = omega arith

    by_case : (b : Bool) → (b ≡ true → y ≡ x) → (b ≡ true → s.in_hand y ≡ [])
        → count value (serials_of (if b then rest_of (s.waiting x) else s.waiting y)) + 0 + count value (s.returned y)
        + count value (if b then serials_of (take 1 (s.waiting x)) else s.in_hand y) + 0
        ≡ count value (serials_of (s.waiting y)) + 0 + count value (s.returned y) + count value (s.in_hand y) + 0
    by_case true e f =
        less (count value (serials_of (rest_of (s.waiting x)))) (count value (serials_of (take 1 (s.waiting x)))) (count value (s.returned y))
        (count value (serials_of (s.waiting y))) (count value (s.in_hand y))
        (evicted-count value (s.waiting x) ∙ ap (λ u. count value (serials_of (s.waiting u))) (sym (e refl))) (ap (count value) (f refl))
    by_case false e f = refl
moved-shifts value s (Take x m) y holds live few fits = by_case (same_way y x) (same_way-true y x)
  where
    less : (a b c d e : ℕ) → a + b ≡ d → a + b + c + e + 0 ≡ d + 0 + c + e + 0
    less a b c d e p = omega arith

    by_case : (b : Bool) → (b ≡ true → y ≡ x)
        → count value (serials_of (if b then rest_of (s.waiting x) else s.waiting y)) + count value (if b then m.serial ∷ [] else [])
        + count value (s.returned y)
        + count value (s.in_hand y) + 0
        ≡ count value (serials_of (s.waiting y)) + 0 + count value (s.returned y) + count value (s.in_hand y) + 0
    by_case true e =
        less (count value (serials_of (rest_of (s.waiting x)))) (count value (m.serial ∷ [])) (count value (s.returned y))
        (count value (serials_of (s.waiting y)))
        (count value (s.in_hand y)) (taken-count value (s.waiting x) m holds ∙ ap (λ u. count value (serials_of (s.waiting u))) (sym (e refl)))
    by_case false e = refl
moved-shifts value s (GiveBack x k) y holds live few fits = by_case (same_way y x) (same_way-true y x)
  where
    more : (a b c d e : ℕ) → e ≡ b + c → a + 0 + e + d + 0 ≡ a + 0 + b + d + c
    more a b c d e p = omega arith

    counted : (b : Bool) → b ≡ true → count value (if b then s.returned x ++ k ∷ [] else s.returned x) ≡ count value (s.returned x) + count value (k ∷ [])
    counted true e = count-append value (s.returned x) (k ∷ [])
    counted false e = absurd (true≢false (sym e))

    by_case : (b : Bool) → (b ≡ true → y ≡ x)
        → count value (serials_of (s.waiting y)) + 0
        + count value (if b then (if is_counted_on s.fixed x then s.returned x ++ k ∷ [] else s.returned x) else s.returned y)
        + count value (s.in_hand y) + 0
        ≡ count value (serials_of (s.waiting y)) + 0 + count value (s.returned y) + count value (s.in_hand y) + count value (if b then k ∷ [] else [])
    by_case true e =
        more (count value (serials_of (s.waiting y))) (count value (s.returned y)) (count value (k ∷ [])) (count value (s.in_hand y))
        (count value (if is_counted_on s.fixed x then s.returned x ++ k ∷ [] else s.returned x))
        (counted (is_counted_on s.fixed x) (ap (is_counted_on s.fixed) (sym (e refl)) ∙ live)
        ∙ ap (λ u. count value (s.returned u) + count value (k ∷ [])) (sym (e refl)))
    by_case false e = refl
moved-shifts value s (GetBack x k) y holds live few fits = by_case (same_way y x) (same_way-true y x)
  where
    less : (a b c d e : ℕ) → b + c ≡ d + e → a + 0 + b + 0 + c ≡ a + 0 + d + e + 0
    less a b c d e p = omega arith

    by_case : (b : Bool) → (b ≡ true → y ≡ x)
        → count value (serials_of (s.waiting y)) + 0
        + count value (if b then (if is_empty (s.in_hand x) then rest_of (s.returned x) else s.returned x) else s.returned y)
        + count value (if b then [] else s.in_hand y) + count value (if b then k ∷ [] else [])
        ≡ count value (serials_of (s.waiting y)) + 0 + count value (s.returned y) + count value (s.in_hand y) + 0
    by_case true e =
        less (count value (serials_of (s.waiting y))) (count value (if is_empty (s.in_hand x) then rest_of (s.returned x) else s.returned x))
        (count value (k ∷ []))
        (count value (s.returned y)) (count value (s.in_hand y))
        (got-count value (s.in_hand x) (s.returned x) k holds (subst (λ u. length (s.in_hand u) ≤ 1) (e refl) few)
        ∙ ap (λ u. count value (s.returned u) + count value (s.in_hand u)) (sym (e refl)))
    by_case false e = refl
moved-shifts value s m y holds live few fits = refl

-- with what the receiver has
pub out-follows : (value : ℕ → Bool) (s u : State) (y : Way) (m : Moment) (had had' : List ℕ) → Shifts value s u y m
    → count value had' + count value (given_on y m) ≡ count value had + count value (taken_on y m)
    → out value u y had' + count value (got_on y m) ≡ out value s y had + count value (put_on y m)
out-follows value s u y m had had' p q =
    sums (count value (serials_of (u.waiting y))) (count value (taken_on y m)) (count value (u.returned y)) (count value (u.in_hand y))
    (count value (got_on y m))
    (count value (serials_of (s.waiting y))) (count value (put_on y m)) (count value (s.returned y)) (count value (s.in_hand y)) (count value (given_on y m))
    (count value had) (count value had') p q
  where
    sums : (a b c d e f g h i j k l : ℕ) → a + b + c + d + e ≡ f + g + h + i + j → l + j ≡ k + b → a + l + c + d + e ≡ f + k + h + i + g
    sums a b c d e f g h i j k l p q = omega arith

-- ---- the record

-- the test of one serial
abbrev pub is : ℕ → ℕ → Bool
is k j = k == j

pub is-itself : (k : ℕ) (ks : List ℕ) → count (is k) (k ∷ ks) ≡ 1 + count (is k) ks
is-itself k ks = count-cons (is k) k ks ∙ ap (λ b. one_if b + count (is k) ks) (eq-eqb k k refl)

first-counts : (k : ℕ) (ks : List ℕ) → first_of ks ≡ Some k → 1 ≤ count (is k) ks
first-counts k [] e = absurd (none-some k e)
first-counts k (j ∷ js) e = subst (λ i. 1 ≤ count (is k) (i ∷ js)) (sym (some-is j k e)) (least (count (is k) js) (count (is k) (k ∷ js)) (is-itself k js))
  where
    least : (a b : ℕ) → b ≡ 1 + a → 1 ≤ b
    least a b e = omega arith

pub head-is : (a b : ℕ) → a ∷ [] ≡ b ∷ [] → a ≡ b
head-is a b e = cc

pub no-head : (b : ℕ) → [] ≡ b ∷ [] → ⊥
no-head b e = cc

-- what is got back was out
pub got-out : (s : State) (m : Moment) (y : Way) (k : ℕ) → Holds s m → got_on y m ≡ k ∷ [] → 1 ≤ count (is k) (s.returned y) + count (is k) (s.in_hand y)
got-out s (GetBack x j) y k holds e = by_case (same_way y x) (same_way-true y x) e
  where
    flip : (a b c : ℕ) → 1 ≤ c → c ≡ a + b → 1 ≤ b + a
    flip a b c p q = omega arith

    by_case : (b : Bool) → (b ≡ true → y ≡ x) → (if b then j ∷ [] else []) ≡ k ∷ [] → 1 ≤ count (is k) (s.returned y) + count (is k) (s.in_hand y)
    by_case true same e =
        flip (count (is k) (s.in_hand y)) (count (is k) (s.returned y)) (count (is k) (s.in_hand y ++ s.returned y))
        (first-counts k (s.in_hand y ++ s.returned y) (ap (λ u. first_of (s.in_hand u ++ s.returned u)) (same refl) ∙ holds ∙ ap Some (head-is j k e)))
        (count-append (is k) (s.in_hand y) (s.returned y))
    by_case false same e = absurd (no-head k e)
got-out s m y k holds e = absurd (no-head k e)

pub moved-record : (s : State) (m : Moment) (y : Way) (k : ℕ) → ((j : ℕ) → put_on y m ≡ j ∷ [] → s.delivered y j ≡ false)
    → ((j : ℕ) → got_on y m ≡ j ∷ [] → s.delivered y j ≡ true)
    → one_if ((moved s m).delivered y k) + count (is k) (got_on y m) ≡ one_if (s.delivered y k) + count (is k) (put_on y m)
moved-record s (Deliver x m) y k new old = by_case (same_way y x) (same_way-true y x) new
  where
    here : (b : Bool) → (k == m.serial) ≡ b → s.delivered y m.serial ≡ false
        → one_if (if b then true else s.delivered y k) + 0 ≡ one_if (s.delivered y k) + count (is k) (m.serial ∷ [])
    here true e off = rw (e, ap (s.delivered y) (eqb-true k m.serial e) ∙ off) refl
    here false e off = rw e refl

    by_case : (b : Bool) → (b ≡ true → y ≡ x) → ((j : ℕ) → (if b then m.serial ∷ [] else []) ≡ j ∷ [] → s.delivered y j ≡ false)
        → one_if ((if b then put_at (s.delivered x) m.serial true else s.delivered y) k) + 0
        ≡ one_if (s.delivered y k) + count (is k) (if b then m.serial ∷ [] else [])
    by_case true same fresh =
        subst (λ u. one_if (put_at (s.delivered u) m.serial true k) + 0 ≡ one_if (s.delivered y k) + count (is k) (m.serial ∷ [])) (same refl)
        (here (k == m.serial) refl (fresh m.serial refl))
    by_case false same fresh = refl
moved-record s (GetBack x j) y k new old = by_case (same_way y x) (same_way-true y x) old
  where
    here : (b : Bool) → (k == j) ≡ b → s.delivered y j ≡ true
        → one_if (if b then false else s.delivered y k) + count (is k) (j ∷ []) ≡ one_if (s.delivered y k) + 0
    here true e on = rw (e, ap (s.delivered y) (eqb-true k j e) ∙ on) refl
    here false e on = rw e refl

    by_case : (b : Bool) → (b ≡ true → y ≡ x) → ((i : ℕ) → (if b then j ∷ [] else []) ≡ i ∷ [] → s.delivered y i ≡ true)
        → one_if ((if b then put_at (s.delivered x) j false else s.delivered y) k) + count (is k) (if b then j ∷ [] else []) ≡ one_if (s.delivered y k) + 0
    by_case true same was =
        subst (λ u. one_if (put_at (s.delivered u) j false k) + count (is k) (j ∷ []) ≡ one_if (s.delivered y k) + 0) (same refl)
        (here (k == j) refl (was j refl))
    by_case false same was = refl
moved-record s m y k new old = refl

-- what is delivered was so, or is put there now
pub moved-delivered : (s : State) (m : Moment) (y : Way) (k : ℕ) → (moved s m).delivered y k ≡ true → (s.delivered y k ≡ true) ⊎ (put_on y m ≡ k ∷ [])
moved-delivered s (Deliver x m) y k e = by_case (same_way y x) (same_way-true y x) e
  where
    here : (b : Bool) → (k == m.serial) ≡ b → (if b then true else s.delivered y k) ≡ true → (s.delivered y k ≡ true) ⊎ (m.serial ∷ [] ≡ k ∷ [])
    here true same e = inr (ap (λ n. n ∷ []) (sym (eqb-true k m.serial same)))
    here false same e = inl e

    by_case : (b : Bool) → (b ≡ true → y ≡ x) → (if b then put_at (s.delivered x) m.serial true else s.delivered y) k ≡ true
        → (s.delivered y k ≡ true) ⊎ ((if b then m.serial ∷ [] else []) ≡ k ∷ [])
    by_case true same e = here (k == m.serial) refl (subst (λ u. put_at (s.delivered u) m.serial true k ≡ true) (sym (same refl)) e)
    by_case false same e = inl e
moved-delivered s (GetBack x j) y k e = by_case (same_way y x) (same_way-true y x) e
  where
    here : (b : Bool) → (if b then false else s.delivered y k) ≡ true → s.delivered y k ≡ true
    here true e = never false e refl
    here false e = e

    by_case : (b : Bool) → (b ≡ true → y ≡ x) → (if b then put_at (s.delivered x) j false else s.delivered y) k ≡ true → (s.delivered y k ≡ true)
        ⊎ ([] ≡ k ∷ [])
    by_case true same e = inl (here (k == j) (subst (λ u. put_at (s.delivered u) j false k ≡ true) (sym (same refl)) e))
    by_case false same e = inl e
moved-delivered s m y k e = inl e
