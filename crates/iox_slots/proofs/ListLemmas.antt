-- Lists after a change of one item, and how often a number is in a list.
use Rattle.std.specs.Prelude.{◌≡◌, ℕ, ◌+◌, ◌<◌, zero, suc, Bool, if◌then◌else◌, ◌==◌, List, [], ◌∷◌, ◌++◌, length, Option, Some, None, slice_get, slice_set, slice_index_or, refl}
use Rattle.std.specs.Option.{option_map_or}
use Rattle.std.proofs.Common.{sym, ap, ◌∙◌, arith, add_assoc, zero-add, add-zero}
use Rattle.std.proofs.lemmas.Option.{none-some}
use Rattle.std.proofs.Math.Dec.{eqb-suc-suc, eqb-suc-zero, eqb-zero-suc}
use Rattle.iox_tables.specs.HubBooks.Counts.{how_often}

-- what is read is there
pub read_is : {A : Type 0} (xs : List A) (k : ℕ) (x : A) → k < length xs → x ≡ slice_index_or xs k x → slice_get xs k ≡ Some x
read_is [] k x within is = absurd (omega arith)
read_is (y ∷ xs) zero x within is = ap (λ z. Some z) (sym is)
read_is (y ∷ xs) (suc k) x within is = read_is xs k x (omega arith) is

pub item_is : {A : Type 0} (xs : List A) (k : ℕ) (x d : A) → slice_get xs k ≡ Some x → slice_index_or xs k d ≡ x
item_is [] k x d at = absurd (none-some x at)
item_is (y ∷ xs) zero x d at = ap (λ (o : Option _). option_map_or (λ z. z) o y) at
item_is (y ∷ xs) (suc k) x d at = item_is xs k x d at

-- what is there after a change of the item of number k
pub get_set : {A : Type 0} (xs : List A) (k j : ℕ) (y x : A) → slice_get xs k ≡ Some y
    → slice_get (slice_set xs k x) j ≡ (if k == j then Some x else slice_get xs j)
get_set [] k j y x e = absurd (none-some y e)
get_set (z ∷ xs) zero zero y x e = refl
get_set (z ∷ xs) zero (suc j) y x e = sym (ap (λ (b : Bool). if b then Some x else slice_get xs j) (eqb-zero-suc j))
get_set (z ∷ xs) (suc k) zero y x e = sym (ap (λ (b : Bool). if b then Some x else Some z) (eqb-suc-zero k))
get_set (z ∷ xs) (suc k) (suc j) y x e =
    get_set xs k j y x e ∙ sym (ap (λ (b : Bool). if b then Some x else slice_get xs j) (eqb-suc-suc k j))

-- what is there with one more at the end
pub get_push : {A : Type 0} (xs : List A) (x : A) (j : ℕ) → slice_get (xs ++ x ∷ []) j ≡ (if length xs == j then Some x else slice_get xs j)
get_push [] x zero = refl
get_push [] x (suc j) = sym (ap (λ (b : Bool). if b then Some x else None) (eqb-zero-suc j))
get_push (y ∷ xs) x zero = sym (ap (λ (b : Bool). if b then Some x else Some y) (eqb-suc-zero (length xs)))
get_push (y ∷ xs) x (suc j) = get_push xs x j ∙ sym (ap (λ (b : Bool). if b then Some x else slice_get xs j) (eqb-suc-suc (length xs) j))

-- past the end nothing is there, whatever is set
pub get_set_past : {A : Type 0} (xs : List A) (k j : ℕ) (x : A) → slice_get xs k ≡ None → slice_get (slice_set xs k x) j ≡ slice_get xs j
get_set_past [] k j x e = refl
get_set_past (y ∷ xs) zero j x e = absurd (none-some y (sym e))
get_set_past (y ∷ xs) (suc k) zero x e = refl
get_set_past (y ∷ xs) (suc k) (suc j) x e = get_set_past xs k j x e

-- ---- how often

-- 1 if they are one number
abbrev pub one_if : ℕ → ℕ → ℕ
one_if q p = if q == p then 1 else 0

pub often-append : (p : ℕ) (qs : List ℕ) (q : ℕ) → how_often p (qs ++ q ∷ []) ≡ how_often p qs + one_if q p
often-append p [] q = add-zero (one_if q p) ∙ sym (zero-add (one_if q p))
often-append p (x ∷ qs) q = ap (λ n. one_if x p + n) (often-append p qs q) ∙ sym (add_assoc (one_if x p) (how_often p qs) (one_if q p))

pub one_if_same : (k : ℕ) → one_if k k ≡ 1
one_if_same zero = refl
one_if_same (suc k) = ap (λ (b : Bool). if b then 1 else 0) (eqb-suc-suc k k) ∙ one_if_same k
