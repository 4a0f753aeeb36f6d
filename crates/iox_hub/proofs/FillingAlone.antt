-- Where only one handle has a slot, all others are as they were when that one changes.
use Rattle.std.specs.Prelude.{◌≡◌, ℕ, suc, Bool, true, false, ◌&&◌, if◌then◌else◌, ◌==◌, List, [], ◌∷◌, length, filter, Option, Some, refl}
use Rattle.std.proofs.Common.{sym, ap, ap₂, ◌∙◌, arith, true≢false, eqb-true}
use Rattle.std.proofs.lemmas.Option.{none-some, same_Some}
use Rattle.iox_tables.specs.HubStates.Ends.{OfEachHandle, changed_handles}
use Rattle.iox_tables.specs.HubStates.Tables.{HandleState}
use Rattle.iox_tables.specs.HubStates.Wirings.{handle_in}

-- the handle is the node's of that number
abbrev pub is_named_so : ℕ → ℕ → HandleState → Bool
is_named_so node n k = (k.node == node) && (k.number == n)

not_zero : (n : ℕ) → suc n ≡ 0 → ⊥
not_zero n e = omega (arith, e)

less : (n : ℕ) → suc n ≡ 1 → n ≡ 0
less n e = omega (arith, e)

module _ (test : HandleState → Bool) where
  abbrev Fails : HandleState → Type 0
  Fails k = test k ≡ false

  -- another handle does not pass
  abbrev pub OthersFail : ℕ → ℕ → HandleState → Type 0
  OthersFail node n k = is_named_so node n k ≡ false → test k ≡ false

  -- none passes
  none_passes : (hs : List HandleState) → length (filter test hs) ≡ 0 → OfEachHandle Fails hs
  none_passes [] e = tt
  none_passes (k ∷ ks) e = step (test k) refl e (none_passes ks)
    where
      step : (b : Bool) → test k ≡ b → length (if b then k ∷ filter test ks else filter test ks) ≡ 0
          → (length (filter test ks) ≡ 0 → OfEachHandle Fails ks) → OfEachHandle Fails (k ∷ ks)
      step true is f rest = absurd (not_zero (length (filter test ks)) f)
      step false is f rest = (is, rest f)

  so_others : (hs : List HandleState) (node n : ℕ) → OfEachHandle Fails hs → OfEachHandle (OthersFail node n) hs
  so_others [] node n all = tt
  so_others (k ∷ ks) node n all = (λ other. all.0, so_others ks node n all.1)

  -- what is found is one of the list
  found_passes : (hs : List HandleState) (node n : ℕ) (h : HandleState) → handle_in hs node n ≡ Some h → test h ≡ true → length (filter test hs) ≡ 0 → ⊥
  found_passes [] node n h e passes none = none-some h e
  found_passes (k ∷ ks) node n h e passes none = step (is_named_so node n k) (test k) refl e none (found_passes ks node n h)
    where
      step : (a b : Bool) → test k ≡ b → (if a then Some k else handle_in ks node n) ≡ Some h → length (if b then k ∷ filter test ks else filter test ks) ≡ 0
          → (handle_in ks node n ≡ Some h → test h ≡ true → length (filter test ks) ≡ 0 → ⊥) → ⊥
      step a true is f zero rest = not_zero (length (filter test ks)) zero
      step true false is f zero rest = true≢false (sym passes ∙ ap test (sym (same_Some k h f)) ∙ is)
      step false false is f zero rest = rest f passes zero

  module _ (node n : ℕ) (h : HandleState) (passes : test h ≡ true) where
    -- the one that passes is the one that is found
    pub others_fail : (hs : List HandleState) → handle_in hs node n ≡ Some h → length (filter test hs) ≡ 1 → OfEachHandle (OthersFail node n) hs
    others_fail [] e one = tt
    others_fail (k ∷ ks) e one = step (is_named_so node n k) refl (test k) refl e one (others_fail ks)
      where
        step : (a : Bool) → is_named_so node n k ≡ a → (b : Bool) → test k ≡ b → (if a then Some k else handle_in ks node n) ≡ Some h
            → length (if b then k ∷ filter test ks else filter test ks) ≡ 1
            → (handle_in ks node n ≡ Some h → length (filter test ks) ≡ 1 → OfEachHandle (OthersFail node n) ks) → OfEachHandle (OthersFail node n) (k ∷ ks)
        step true at true is f count rest =
            (λ other. absurd (true≢false (sym at ∙ other)), so_others ks node n (none_passes ks (less (length (filter test ks)) count)))
        step true at false is f count rest = absurd (true≢false (sym passes ∙ ap test (sym (same_Some k h f)) ∙ is))
        step false at true is f count rest = absurd (found_passes ks node n h f passes (less (length (filter test ks)) count))
        step false at false is f count rest = (λ other. is, rest f count)

    -- what is so of each that fails, and of the new one, is so of all
    pub each_changed_alone : (P : HandleState → Type 0) (new : HandleState) → new.node ≡ node → new.number ≡ n → P new
        → (hs : List HandleState) → handle_in hs node n ≡ Some h → length (filter test hs) ≡ 1
        → OfEachHandle (λ k. test k ≡ false → P k) hs → OfEachHandle P (changed_handles new hs)
    each_changed_alone P new on is put [] e one all = tt
    each_changed_alone P new on is put (k ∷ ks) e one all =
        step ((k.node == new.node) && (k.number == new.number)) (is_named_so node n k)
        (ap₂ (λ (a b : ℕ). (k.node == a) && (k.number == b)) on is) (test k) refl e one all (each_changed_alone P new on is put ks)
      where
        all_of : (ls : List HandleState) → OfEachHandle Fails ls → OfEachHandle (λ k. test k ≡ false → P k) ls → OfEachHandle P ls
        all_of [] fails so = tt
        all_of (l ∷ ls) fails so = (so.0 fails.0, all_of ls fails.1 so.1)

        step : (c a : Bool) → c ≡ a → (b : Bool) → test k ≡ b → (if a then Some k else handle_in ks node n) ≡ Some h
            → length (if b then k ∷ filter test ks else filter test ks) ≡ 1 → OfEachHandle (λ k. test k ≡ false → P k) (k ∷ ks)
            → (handle_in ks node n ≡ Some h → length (filter test ks) ≡ 1 → OfEachHandle (λ k. test k ≡ false → P k) ks → OfEachHandle P (changed_handles new ks))
            → OfEachHandle P (if c then new ∷ ks else k ∷ changed_handles new ks)
        step true true same true at f count so rest = (put, all_of ks (none_passes ks (less (length (filter test ks)) count)) so.1)
        step true true same false at f count so rest = absurd (true≢false (sym passes ∙ ap test (sym (same_Some k h f)) ∙ at))
        step true false same b at f count so rest = absurd (true≢false same)
        step false true same b at f count so rest = absurd (true≢false (sym same))
        step false false same true at f count so rest = absurd (found_passes ks node n h f passes (less (length (filter test ks)) count))
        step false false same false at f count so rest = (so.0 at, rest f count so.1)

-- another one is found as before
pub other_found : (new : HandleState) (node n m j : ℕ) → new.node ≡ node → new.number ≡ n → is_named_so m j new ≡ false → (hs : List HandleState)
    → handle_in (changed_handles new hs) m j ≡ handle_in hs m j
other_found new node n m j on is other [] = refl
other_found new node n m j on is other (k ∷ ks) =
    step ((k.node == new.node) && (k.number == new.number)) refl (is_named_so m j k) refl (other_found new node n m j on is other ks)
  where
    and_both : (a b : Bool) → (a && b) ≡ true → (a ≡ true) × (b ≡ true)
    and_both true b e = (refl, e)
    and_both false b e = absurd (true≢false (sym e))

    step : (c : Bool) → ((k.node == new.node) && (k.number == new.number)) ≡ c → (a : Bool) → is_named_so m j k ≡ a
        → handle_in (changed_handles new ks) m j ≡ handle_in ks m j
        → handle_in (if c then new ∷ ks else k ∷ changed_handles new ks) m j ≡ (if a then Some k else handle_in ks m j)
    step true at true named rest =
        let both = and_both (k.node == new.node) (k.number == new.number) at in
        absurd (true≢false (sym named
        ∙ ap₂ (λ (a b : ℕ). (a == m) && (b == j)) (eqb-true k.node new.node both.0) (eqb-true k.number new.number both.1) ∙ other))
    step true at false named rest = ap (λ (b : Bool). if b then Some new else handle_in ks m j) other
    step false at a named rest = ap₂ (λ (b : Bool) (o : Option HandleState). if b then Some k else o) named rest
