-- Other handles stay as one is added, changed or dropped, and no other has the message of a loan.
use Rattle.std.specs.Prelude.{◌≡◌, ◌≢◌, ℕ, ◌+◌, ◌≤◌, Bool, true, false, not, ◌&&◌, ◌||◌, if◌then◌else◌, ◌==◌, List, [], ◌∷◌, ◌++◌, map, Option, Some, None, IsSome, is_some, refl}
use Rattle.std.proofs.Common.{sym, ap, ap₂, ◌∙◌, arith, true≢false, eqb-true, eq-eqb}
use Rattle.std.proofs.lemmas.Option.{none-some, same_Some}
use Rattle.iox_model.specs.Maps.{has_number}
use Rattle.iox_tables.specs.HubStates.Tables.{HandleState, HubTables, PortState, numbers_of, port_in}
use Rattle.iox_tables.specs.HubStates.Ends.{changed_handles, dropped_handles}
use Rattle.iox_tables.specs.HubStates.Wirings.{handle_in}
use Rattle.iox_tables.specs.HubLoans.Questions.{kind_by, kind_in}
use Rattle.iox_tables.specs.HubLoans.Slots.{is_place}
use Rattle.iox_tables.specs.HubBooks.Counts.{is_at, total}
use Rattle.iox_tables.specs.HubBooks.Handles.{IsAlone, is_loan}
use Rattle.iox_tables.specs.HubBooks.Hubs.{AreInOrder}
use Rattle.iox_tables.proofs.HubBooks.Received.{has_back}
use Rattle.iox_tables.proofs.HubBooks.Used.{at_itself, handle_below, handle_is, passes_once}
use Rattle.iox_hub.specs.Keeping.{IsOther}

-- ---- rows

-- the handle is the node's of that number
abbrev is_key : ℕ → ℕ → HandleState → Bool
is_key node n k = (k.node == node) && (k.number == n)

both_of : (a b : Bool) → (a && b) ≡ true → (a ≡ true) × (b ≡ true)
both_of true b e = (refl, e)
both_of false b e = absurd (true≢false (sym e))

-- no handle is both of two
not_both : (node n a m : ℕ) → IsOther node n a m → (k : HandleState) → is_key node n k ≡ true → is_key a m k ≡ true → ⊥
not_both node n a m other k e f =
    let p = both_of (k.node == node) (k.number == n) e in
    let q = both_of (k.node == a) (k.number == m) f in
    other (sym (eqb-true k.node a q.0) ∙ eqb-true k.node node p.0) (sym (eqb-true k.number m q.1) ∙ eqb-true k.number n p.1)

module _ (node n a m : ℕ) (other : IsOther node n a m) where
  pub other_dropped : (hs : List HandleState) → handle_in (dropped_handles node n hs) a m ≡ handle_in hs a m
  other_dropped [] = refl
  other_dropped (k ∷ ks) = step (is_key node n k) (is_key a m k) refl refl (other_dropped ks)
    where
      step : (b c : Bool) → is_key node n k ≡ b → is_key a m k ≡ c → handle_in (dropped_handles node n ks) a m ≡ handle_in ks a m
          → handle_in (if not b then k ∷ dropped_handles node n ks else dropped_handles node n ks) a m ≡ (if c then Some k else handle_in ks a m)
      step true true e f rest = absurd (not_both node n a m other k e f)
      step true false e f rest = rest
      step false c e f rest =
          ap (λ (b : Bool). if b then Some k else handle_in (dropped_handles node n ks) a m) f ∙ ap (λ o. if c then Some k else o) rest

  pub other_changed : (new : HandleState) → new.node ≡ node → new.number ≡ n → (hs : List HandleState) → handle_in (changed_handles new hs) a m ≡ handle_in hs a m
  other_changed new on is [] = refl
  other_changed new on is (k ∷ ks) =
      step (is_key new.node new.number k) (is_key a m k) (ap₂ (λ i j. is_key i j k) (sym on) (sym is)) refl (other_changed new on is ks)
    where
      new_is : is_key node n new ≡ true
      new_is = ap₂ (λ (x y : Bool). x && y) (eq-eqb new.node node on) (eq-eqb new.number n is)

      not_new : (c : Bool) → is_key a m new ≡ c → c ≡ false
      not_new true e = absurd (not_both node n a m other new new_is e)
      not_new false e = refl

      step : (b c : Bool) → is_key node n k ≡ b → is_key a m k ≡ c → handle_in (changed_handles new ks) a m ≡ handle_in ks a m
          → handle_in (if b then new ∷ ks else k ∷ changed_handles new ks) a m ≡ (if c then Some k else handle_in ks a m)
      step true true e f rest = absurd (not_both node n a m other k e f)
      step true false e f rest = ap (λ (b : Bool). if b then Some new else handle_in ks a m) (not_new (is_key a m new) refl)
      step false c e f rest =
          ap (λ (b : Bool). if b then Some k else handle_in (changed_handles new ks) a m) f ∙ ap (λ o. if c then Some k else o) rest

  -- the two stand apart in the list
  pub two_rows : (f : HandleState → ℕ) (hs : List HandleState) (h k : HandleState) → handle_in hs node n ≡ Some h → handle_in hs a m ≡ Some k → f h + f k ≤ total f hs
  two_rows f [] h k x y = absurd (none-some h x)
  two_rows f (j ∷ js) h k x y = step (is_key node n j) (is_key a m j) refl refl x y (two_rows f js h k)
    where
      step : (b c : Bool) → is_key node n j ≡ b → is_key a m j ≡ c → (if b then Some j else handle_in js node n) ≡ Some h → (if c then Some j else handle_in js a m) ≡ Some k
          → (handle_in js node n ≡ Some h → handle_in js a m ≡ Some k → f h + f k ≤ total f js) → f h + f k ≤ f j + total f js
      step true true e g u v rest = absurd (not_both node n a m other j e g)
      step true false e g u v rest =
          let same : f j ≡ f h = ap f (same_Some j h u) in
          let below = handle_below f js a m k v in omega (arith, same, below)
      step false true e g u v rest =
          let same : f j ≡ f k = ap f (same_Some j k v) in
          let below = handle_below f js node n h u in omega (arith, same, below)
      step false false e g u v rest = let more = rest u v in omega (arith, more)

pub other_added : (new : HandleState) (a m : ℕ) → m ≢ new.number → (hs : List HandleState) → handle_in (hs ++ new ∷ []) a m ≡ handle_in hs a m
other_added new a m other [] = step (new.node == a) (new.number == m) refl
  where
    step : (b c : Bool) → (new.number == m) ≡ c → (if b && c then Some new else None) ≡ None
    step b true e = absurd (other (sym (eqb-true new.number m e)))
    step true false e = refl
    step false false e = refl
other_added new a m other (k ∷ ks) = ap (λ o. if is_key a m k then Some k else o) (other_added new a m other ks)

-- ---- loans

-- no other handle has the message of a loan
pub loan_apart : (t : HubTables) → AreInOrder t → (node n a m : ℕ) → IsOther node n a m → (h k : HandleState) → handle_in t.handles node n ≡ Some h → is_loan h.kind ≡ true
    → handle_in t.handles a m ≡ Some k → is_place h.pool h.slot k.pool k.slot ≡ false
loan_apart t order node n a m other h k there loan at = step (is_at h.pool h.slot k) refl
  where
    alone : IsAlone t h
    alone = handle_is (IsAlone t) t.handles node n h order.alone there

    step : (b : Bool) → is_at h.pool h.slot k ≡ b → b ≡ false
    step false e = refl
    step true e =
        let count : HandleState → ℕ = λ j. if is_at h.pool h.slot j then 1 else 0 in
        let two : count h + count k ≤ total count t.handles = two_rows node n a m other count t.handles h k there at in
        let first = passes_once (is_at h.pool h.slot) h (at_itself h) in
        let second = passes_once (is_at h.pool h.slot) k e in
        let all = order.counted h.pool h.slot in
        let one = alone loan in absurd (omega (arith, two, first, second, all, one))

-- ---- numbers

port_number : (ports : List PortState) (n : ℕ) (p : PortState) → port_in ports n ≡ Some p → has_number n (numbers_of ports) ≡ true
port_number [] n p e = absurd (none-some p e)
port_number (q ∷ qs) n p e = step (q.number == n) e (port_number qs n p)
  where
    step : (b : Bool) → (if b then Some q else port_in qs n) ≡ Some p → (port_in qs n ≡ Some p → has_number n (numbers_of qs) ≡ true) → (b || has_number n (numbers_of qs)) ≡ true
    step true f rest = refl
    step false f rest = rest f

handle_number : (hs : List HandleState) (a n : ℕ) (h : HandleState) → handle_in hs a n ≡ Some h → has_number n (map (λ k. k.number) hs) ≡ true
handle_number [] a n h e = absurd (none-some h e)
handle_number (k ∷ ks) a n h e = step (k.node == a) (k.number == n) e (handle_number ks a n h)
  where
    step : (b c : Bool) → (if b && c then Some k else handle_in ks a n) ≡ Some h
        → (handle_in ks a n ≡ Some h → has_number n (map (λ j. j.number) ks) ≡ true) → (c || has_number n (map (λ j. j.number) ks)) ≡ true
    step b true f rest = refl
    step true false f rest = rest f
    step false false f rest = rest f

in_front : (k : ℕ) (xs ys : List ℕ) → has_number k xs ≡ true → has_number k (xs ++ ys) ≡ true
in_front k [] ys e = absurd (true≢false (sym e))
in_front k (x ∷ xs) ys e = step (x == k) e (in_front k xs ys)
  where
    step : (b : Bool) → (b || has_number k xs) ≡ true → (has_number k xs ≡ true → has_number k (xs ++ ys) ≡ true) → (b || has_number k (xs ++ ys)) ≡ true
    step true f rest = refl
    step false f rest = rest f

-- the next number names nothing
pub next_is_nothing : (t : HubTables) → AreInOrder t → (a n : ℕ) → n ≡ t.next_number → kind_in t a n ≡ None
next_is_nothing t order a n is = step (port_in t.ports n) (handle_in t.handles a n) refl refl
  where
    unused : has_number n (numbers_of t.ports ++ map (λ h. h.number) t.handles) ≡ true → ⊥
    unused e = let below = order.numbers.below n e in omega (arith, below, is)

    step : (o : Option PortState) (q : Option HandleState) → port_in t.ports n ≡ o → handle_in t.handles a n ≡ q → kind_by a o q ≡ None
    step (Some p) q at there = absurd (unused (in_front n (numbers_of t.ports) (map (λ h. h.number) t.handles) (port_number t.ports n p at)))
    step None (Some h) at there = absurd (unused (has_back n (numbers_of t.ports) (map (λ h. h.number) t.handles) (handle_number t.handles a n h there)))
    step None None at there = refl

-- so what is named has another one
pub named_is_not_next : (t : HubTables) → AreInOrder t → (a m : ℕ) → IsSome (kind_in t a m) → m ≢ t.next_number
named_is_not_next t order a m some is = true≢false (sym some ∙ ap (λ o. is_some o) (next_is_nothing t order a m is))
