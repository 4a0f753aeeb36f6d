-- A desk counts the uses that are left after one less or one more, and after a loan's pick.
use Rattle.std.specs.Prelude.{◌&&◌, ◌||◌, ◌++◌, ◌<◌, ◌≤◌, nat_lt, length, slice_index, slice_set}
use Rattle.std.proofs.Common.{◌≡◌, ◌≢◌, ℕ, ◌+◌, ◌-◌, Bool, true, false, if◌then◌else◌, ◌==◌, List, [], ◌∷◌, refl, ap, sym, subst, ◌∙◌, arith, eqb-true, eq-eqb, true≢false}
use Rattle.std.proofs.lemmas.List.{length-set, get_or-set_same, get_or-set_other}
use Rattle.iox_model.specs.Maps.{has_number, AreDistinct}
use Rattle.iox_laws.proofs.WeaveLaws.MapLemmas.{eqb-refl}
use Rattle.iox_laws.proofs.WeaveLedger.Truths.{false_if, or-false, or-neither}
use Rattle.iox_wire_locals.specs.declared.table.Desk.{Desk}
use Rattle.iox_wire_locals.specs.declared.table.NewLoan.{NewLoan}
use Rattle.iox_wire_locals.specs.Desks.{all_less, picks, uses_less, uses_more}
use Rattle.iox_wire_pools.specs.Uses.{CountsUses, how_often}
use Rattle.iox_wire_pools.proofs.Counting.{one_if}
use Rattle.iox_wire_pools.proofs.PoolsFit.{within_pool}

-- ---- lists

has_last : (n k : ℕ) (xs : List ℕ) → has_number n (xs ++ k ∷ []) ≡ (has_number n xs || (k == n))
has_last n k [] = last (k == n)
  where
    last : (b : Bool) → (b || false) ≡ b
    last true = refl
    last false = refl
has_last n k (x ∷ xs) = more (x == n) (has_last n k xs)
  where
    more : (a : Bool) → has_number n (xs ++ k ∷ []) ≡ (has_number n xs || (k == n))
        → (a || has_number n (xs ++ k ∷ [])) ≡ ((a || has_number n xs) || (k == n))
    more true e = refl
    more false e = e

once_last : (k : ℕ) (xs : List ℕ) → AreDistinct xs → has_number k xs ≡ false → AreDistinct (xs ++ k ∷ [])
once_last k [] apart none = (refl, tt)
once_last k (x ∷ xs) apart none =
    let r : ((x == k) ≡ false) × (has_number k xs ≡ false) = or-false (x == k) (has_number k xs) none in
    (has_last x k xs ∙ or-neither (has_number x xs) (k == x) apart.0 (flip k x ∙ r.0), once_last k xs apart.1 r.1)
  where
    flip : (a b : ℕ) → (a == b) ≡ (b == a)
    flip a b = grind (arith)

-- ---- numbers

lt_is : (a b : ℕ) → a < b → nat_lt a b ≡ true
lt_is a b e = grind (arith)

none_is : (a : ℕ) → 1 ≤ a → (a == 0) ≡ false
none_is a e = grind (arith)

one_more : (n : ℕ) → (n + 1 == 0) ≡ false
one_more n = grind (arith)

never_both : (b : Bool) → (b && false) ≡ false
never_both true = refl
never_both false = refl

-- ---- the same counts

pub same_counts : (pool : ℕ) (uses : ℕ → ℕ) (d e : Desk) → e.uses ≡ d.uses → e.free ≡ d.free → CountsUses pool uses d → CountsUses pool uses e
same_counts pool uses d e words frees c = record {
  words = ap length words ∙ c.words;
  told = λ n lt. ap (λ ws. slice_index ws n) words ∙ c.told n lt;
  within = c.within;
  free_once = subst AreDistinct (sym frees) c.free_once;
  free = λ n. ap (has_number n) frees ∙ c.free n;
}

pub same_uses : (pool : ℕ) (uses after : ℕ → ℕ) (d : Desk) → ((n : ℕ) → uses n ≡ after n) → CountsUses pool uses d → CountsUses pool after d
same_uses pool uses after d same c = record {
  words = c.words;
  told = λ n lt. c.told n lt ∙ same n;
  within = λ n le. sym (same n) ∙ c.within n le;
  free_once = c.free_once;
  free = λ n. c.free n ∙ ap (λ k. nat_lt n pool && (k == 0)) (same n);
}

-- ---- one less, one more

module _ (pool : ℕ) (uses after : ℕ → ℕ) (d : Desk) (slot : ℕ) (c : CountsUses pool uses d) where
  -- the word of a slot below the pool is written
  words_set : (value : ℕ) → length (slice_set d.uses slot value) ≡ pool
  words_set value = length-set d.uses slot value ∙ c.words

  told_set : (value : ℕ) → slot < pool → value ≡ after slot → ((n : ℕ) → (slot == n) ≡ false → uses n ≡ after n)
      → (n : ℕ) → n < pool → slice_index (slice_set d.uses slot value) n ≡ after n
  told_set value lt is others n below = by_case (slot == n) refl
    where
      in_words : slot < length d.uses
      in_words = subst (λ k. slot < k) (sym c.words) lt

      apart : (slot == n) ≡ false → n ≢ slot
      apart other same = true≢false (sym (eq-eqb slot n (sym same)) ∙ other)

      by_case : (b : Bool) → (slot == n) ≡ b → slice_index (slice_set d.uses slot value) n ≡ after n
      by_case true same =
          subst (λ k. slice_index (slice_set d.uses slot value) k ≡ after k) (eqb-true slot n same) (get_or-set_same d.uses slot value 0 in_words ∙ is)
      by_case false other = get_or-set_other d.uses slot n value 0 (apart other) ∙ c.told n below ∙ others n other

  -- free slots are as they are, where the slot is in use before and after
  free_still : 1 ≤ uses slot → 1 ≤ after slot → ((n : ℕ) → (slot == n) ≡ false → uses n ≡ after n)
      → (n : ℕ) → has_number n d.free ≡ (nat_lt n pool && (after n == 0))
  free_still some still others n = c.free n ∙ by_case (slot == n) refl
    where
      by_case : (b : Bool) → (slot == n) ≡ b → (nat_lt n pool && (uses n == 0)) ≡ (nat_lt n pool && (after n == 0))
      by_case true same =
          subst (λ k. (nat_lt k pool && (uses k == 0)) ≡ (nat_lt k pool && (after k == 0))) (eqb-true slot n same)
          (ap (λ b. nat_lt slot pool && b) (none_is (uses slot) some ∙ sym (none_is (after slot) still)))
      by_case false other = ap (λ k. nat_lt n pool && (k == 0)) (others n other)

  not_free : 1 ≤ uses slot → has_number slot d.free ≡ false
  not_free some = c.free slot ∙ ap (λ b. nat_lt slot pool && b) (none_is (uses slot) some) ∙ never_both (nat_lt slot pool)

  module _ (less : (n : ℕ) → uses n ≡ one_if (slot == n) + after n) where
    others_less : (n : ℕ) → (slot == n) ≡ false → uses n ≡ after n
    others_less n other = less n ∙ ap (λ b. one_if b + after n) other ∙ zero_on (after n)
      where
        zero_on : (k : ℕ) → 0 + k ≡ k
        zero_on k = omega arith

    here_less : uses slot ≡ 1 + after slot
    here_less = less slot ∙ ap (λ b. one_if b + after slot) (eqb-refl slot)

    some_less : 1 ≤ uses slot
    some_less = omega (arith, here_less)

    below_less : slot < pool
    below_less = within_pool pool uses d c slot some_less

    value_less : slice_index d.uses slot - 1 ≡ after slot
    value_less = ap (λ k. k - 1) (c.told slot below_less ∙ here_less) ∙ back (after slot)
      where
        back : (k : ℕ) → 1 + k - 1 ≡ k
        back k = omega arith

    beyond_less : (n : ℕ) → pool ≤ n → after n ≡ 0
    beyond_less n le = none (one_if (slot == n)) (after n) (sym (less n) ∙ c.within n le)
      where
        none : (a b : ℕ) → a + b ≡ 0 → b ≡ 0
        none a b e = omega (arith, e)

    -- the last use is given up
    freed : after slot ≡ 0 → (n : ℕ) → has_number n (d.free ++ slot ∷ []) ≡ (nat_lt n pool && (after n == 0))
    freed none n = has_last n slot d.free ∙ by_case (slot == n) refl
      where
        right_true : (b : Bool) → (b || true) ≡ true
        right_true true = refl
        right_true false = refl

        right_false : (b : Bool) → (b || false) ≡ b
        right_false true = refl
        right_false false = refl

        by_case : (b : Bool) → (slot == n) ≡ b → (has_number n d.free || b) ≡ (nat_lt n pool && (after n == 0))
        by_case true same =
            right_true (has_number n d.free)
            ∙ sym (subst (λ k. (nat_lt k pool && (after k == 0)) ≡ true) (eqb-true slot n same)
            (ap (λ b. b && (after slot == 0)) (lt_is slot pool below_less) ∙ ap (λ k. k == 0) none))
        by_case false other =
            right_false (has_number n d.free) ∙ c.free n ∙ ap (λ k. nat_lt n pool && (k == 0)) (others_less n other)

    pub lessened : CountsUses pool after (uses_less slot d)
    lessened = by_case (slice_index d.uses slot - 1 == 0) refl
      where
        some_left : (k : ℕ) → (k == 0) ≡ false → 1 ≤ k
        some_left k e = grind (arith)

        by_case : (b : Bool) → (slice_index d.uses slot - 1 == 0) ≡ b → CountsUses pool after (uses_less slot d)
        by_case true is = record {
          words = words_set (slice_index d.uses slot - 1);
          told = told_set (slice_index d.uses slot - 1) below_less value_less others_less;
          within = beyond_less;
          free_once = subst (λ b. AreDistinct (if b then d.free ++ slot ∷ [] else d.free)) (sym is) (once_last slot d.free c.free_once (not_free some_less));
          free = λ n. ap (λ b. has_number n (if b then d.free ++ slot ∷ [] else d.free)) is ∙ freed (sym value_less ∙ eqb-true _ 0 is) n;
        }
        by_case false is = record {
          words = words_set (slice_index d.uses slot - 1);
          told = told_set (slice_index d.uses slot - 1) below_less value_less others_less;
          within = beyond_less;
          free_once = subst (λ b. AreDistinct (if b then d.free ++ slot ∷ [] else d.free)) (sym is) c.free_once;
          free = λ n. ap (λ b. has_number n (if b then d.free ++ slot ∷ [] else d.free)) is
              ∙ free_still some_less (some_left (after slot) (ap (λ k. k == 0) (sym value_less) ∙ is)) others_less n;
        }

  module _ (more : (n : ℕ) → after n ≡ one_if (slot == n) + uses n) where
    others_more : (n : ℕ) → (slot == n) ≡ false → uses n ≡ after n
    others_more n other = sym (more n ∙ ap (λ b. one_if b + uses n) other ∙ zero_on (uses n))
      where
        zero_on : (k : ℕ) → 0 + k ≡ k
        zero_on k = omega arith

    here_more : after slot ≡ 1 + uses slot
    here_more = more slot ∙ ap (λ b. one_if b + uses slot) (eqb-refl slot)

    beyond_more : slot < pool → (n : ℕ) → pool ≤ n → after n ≡ 0
    beyond_more lt n le = sym (others_more n (false_if (slot == n) (λ same. off slot n pool (eqb-true slot n same) lt le))) ∙ c.within n le
      where
        off : (a b k : ℕ) → a ≡ b → a < k → k ≤ b → ⊥
        off a b k e f g = omega (arith, e, f, g)

    pub one_added : 1 ≤ uses slot → CountsUses pool after (uses_more slot d)
    one_added some = record {
      words = words_set (slice_index d.uses slot + 1);
      told = told_set (slice_index d.uses slot + 1) below value others_more;
      within = beyond_more below;
      free_once = subst (λ b. AreDistinct (if b then d.free ++ slot ∷ [] else d.free)) (sym (one_more (slice_index d.uses slot))) c.free_once;
      free = λ n. ap (λ b. has_number n (if b then d.free ++ slot ∷ [] else d.free)) (one_more (slice_index d.uses slot))
          ∙ free_still some (omega (arith, here_more)) others_more n;
    }
      where
        below : slot < pool
        below = within_pool pool uses d c slot some

        value : slice_index d.uses slot + 1 ≡ after slot
        value = ap (λ k. k + 1) (c.told slot below) ∙ flip (uses slot) ∙ sym here_more
          where
            flip : (k : ℕ) → k + 1 ≡ 1 + k
            flip k = omega arith

    -- a free slot is picked
    pub picked : (o : NewLoan) (rest : List ℕ) → d.free ≡ slot ∷ rest → CountsUses pool after (picks o slot rest d)
    picked o rest first = record {
      words = words_set 1;
      told = told_set 1 below (one_now (uses slot) unused ∙ sym here_more) others_more;
      within = beyond_more below;
      free_once = once.1;
      free = free;
    }
      where
        one_now : (k : ℕ) → k ≡ 0 → 1 ≡ 1 + k
        one_now k e = omega (arith, e)

        once : AreDistinct (slot ∷ rest)
        once = subst AreDistinct first c.free_once

        is_both : (a b : Bool) → (a && b) ≡ true → (a ≡ true) × (b ≡ true)
        is_both true b e = (refl, e)
        is_both false b e = absurd (true≢false (sym e))

        was_free : (nat_lt slot pool ≡ true) × ((uses slot == 0) ≡ true)
        was_free =
            is_both (nat_lt slot pool) (uses slot == 0)
            (sym (c.free slot) ∙ ap (has_number slot) first ∙ ap (λ b. b || has_number slot rest) (eqb-refl slot))

        below_is : (a b : ℕ) → nat_lt a b ≡ true → a < b
        below_is a b e = grind (arith)

        below : slot < pool
        below = below_is slot pool was_free.0

        unused : uses slot ≡ 0
        unused = eqb-true (uses slot) 0 was_free.1

        free : (n : ℕ) → has_number n rest ≡ (nat_lt n pool && (after n == 0))
        free n = by_case (slot == n) refl
          where
            by_case : (b : Bool) → (slot == n) ≡ b → has_number n rest ≡ (nat_lt n pool && (after n == 0))
            by_case true same =
                subst (λ k. has_number k rest ≡ (nat_lt k pool && (after k == 0))) (eqb-true slot n same)
                (once.0 ∙ sym (ap (λ b. nat_lt slot pool && b) (none_is (after slot) (omega (arith, here_more))) ∙ never_both (nat_lt slot pool)))
            by_case false other =
                sym (ap (has_number n) first ∙ ap (λ b. b || has_number n rest) other) ∙ c.free n ∙ ap (λ k. nat_lt n pool && (k == 0)) (others_more n other)

-- ---- several less

pub all_lessened : (pool : ℕ) (slots : List ℕ) (uses after : ℕ → ℕ) (d : Desk) → CountsUses pool uses d
    → ((n : ℕ) → uses n ≡ how_often n slots + after n) → CountsUses pool after (all_less slots d)
all_lessened pool [] uses after d c less = same_uses pool uses after d (λ n. less n ∙ zero_on (after n)) c
  where
    zero_on : (k : ℕ) → 0 + k ≡ k
    zero_on k = omega arith
all_lessened pool (slot ∷ slots) uses after d c less =
    all_lessened pool slots (λ n. how_often n slots + after n) after (uses_less slot d)
    (lessened pool uses (λ n. how_often n slots + after n) d slot c (λ n. less n ∙ apart (one_if (slot == n)) (how_often n slots) (after n)))
    (λ n. refl)
  where
    apart : (a b k : ℕ) → (a + b) + k ≡ a + (b + k)
    apart a b k = omega arith
