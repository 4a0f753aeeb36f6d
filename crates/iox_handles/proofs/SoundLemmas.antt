-- What is so of each table, as its callers see it.
use Rattle.std.specs.Prelude.{◌≡◌, ℕ, ◌≤◌, zero, suc, Bool, true, false, ◌||◌, ◌==◌, List, [], ◌∷◌, ◌++◌, map, Option, Some, None, refl}
use Rattle.std.proofs.Common.{sym, ap, subst, ◌∙◌, true≢false, eqb-true, eq-eqb, arith, append-nil}
use Rattle.iox_handles.specs.declared.entry.Entry.{Entry}
use Rattle.iox_model.specs.Maps.{has_number, AreDistinct}
use Rattle.iox_handles.specs.Tables.{IsSound}
use Rattle.iox_handles.specs.Places.{option_list, by_number, handles_in, in_places, IsTable}
use Rattle.iox_handles.proofs.NumberLemmas.{AreOwn, less_is_other, not_there}
use Rattle.iox_handles.proofs.PlaceLemmas.{own_numbers}

-- the numbers of the handles
abbrev numbers : List Entry → List ℕ
numbers hs = map (λ h. h.number) hs

-- ---- one more at the end

neither : (a b : Bool) → a ≡ false → b ≡ false → (a || b) ≡ false
neither false b e f = f
neither true b e f = absurd (true≢false e)

first_of : (a b : Bool) → (a || b) ≡ false → (a ≡ false) × (b ≡ false)
first_of false b e = (refl, e)
first_of true b e = absurd (true≢false e)

not_last : (m : ℕ) (hs : List Entry) (o : Option Entry) → has_number m (numbers hs) ≡ false
    → has_number m (numbers (option_list o)) ≡ false → has_number m (numbers (hs ++ option_list o)) ≡ false
not_last m [] o e f = f
not_last m (h ∷ hs) o e f =
    let r : ((h.number == m) ≡ false) × (has_number m (numbers hs) ≡ false) = first_of (h.number == m) (has_number m (numbers hs)) e in
    neither (h.number == m) (has_number m (numbers (hs ++ option_list o))) r.0 (not_last m hs o r.1 f)

apart_last : (hs : List Entry) (h : Entry) → AreDistinct (numbers hs) → ((g : ℕ) → has_number g (numbers hs) ≡ true → (h.number == g) ≡ false)
    → AreDistinct (numbers (hs ++ h ∷ []))
apart_last [] h d new = (refl, tt)
apart_last (g ∷ hs) h d new = (
  not_last g.number hs (Some h) d.0 (neither (h.number == g.number) false (new g.number (here g.number (has_number g.number (numbers hs)))) refl),
  apart_last hs h d.1 (λ k e. new k (behind (g.number == k) (has_number k (numbers hs)) e)),
)
  where
    here : (n : ℕ) (b : Bool) → ((n == n) || b) ≡ true
    here n b = by_case (n == n) (eq-eqb n n refl)
      where
        by_case : (c : Bool) → c ≡ true → (c || b) ≡ true
        by_case true e = refl
        by_case false e = absurd (true≢false (sym e))

    behind : (a b : Bool) → b ≡ true → (a || b) ≡ true
    behind true b e = refl
    behind false b e = e

-- ---- by number

below_n : (at : ℕ → Option Entry) (n m : ℕ) → AreOwn at → n ≤ m → has_number m (numbers (by_number at n)) ≡ false
below_n at zero m own h = refl
below_n at (suc n) m own h =
    not_last m (by_number at n) (at n) (below_n at n m own (omega arith)) (last (at n) (own n))
  where
    last : (o : Option Entry) → ((g : Entry) → o ≡ Some g → g.number ≡ n) → has_number m (numbers (option_list o)) ≡ false
    last None own = refl
    last (Some g) own = neither (g.number == m) false (ap (λ k. k == m) (own g refl) ∙ less_is_other n m (omega arith)) refl

numbers_apart : (at : ℕ → Option Entry) (n : ℕ) → AreOwn at → AreDistinct (numbers (by_number at n))
numbers_apart at zero own = tt
numbers_apart at (suc n) own = last (at n) (own n) (numbers_apart at n own)
  where
    last : (o : Option Entry) → ((g : Entry) → o ≡ Some g → g.number ≡ n) → AreDistinct (numbers (by_number at n))
        → AreDistinct (numbers (by_number at n ++ option_list o))
    last None own' d = subst (λ hs. AreDistinct (numbers hs)) (sym (append-nil (by_number at n))) d
    last (Some g) own' d = apart_last (by_number at n) g d (λ k e. by_case k e (g.number == k) refl)
      where
        by_case : (k : ℕ) → has_number k (numbers (by_number at n)) ≡ true → (b : Bool) → (g.number == k) ≡ b → b ≡ false
        by_case k e true is =
            absurd (true≢false (sym e ∙ below_n at n k own (omega (arith, own' g refl, eqb-true g.number k is))))
        by_case k e false is = refl

-- ---- each table

pub table_is_sound : (ps : List (Option Entry)) (free : List ℕ) (room next pc fc : ℕ) → IsTable ps free room next pc fc
    → IsSound (record { room = room; next = next; handles = handles_in ps next })
table_is_sound ps free room next pc fc t = record {
  apart = numbers_apart (in_places ps) next (own_numbers ps);
  below = λ k past. not_there (in_places ps) next k (own_numbers ps) past;
}
