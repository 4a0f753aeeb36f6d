-- The first of a number, in a list that is mapped, or of which others went.
use Rattle.std.specs.Prelude.{◌≡◌, ℕ, Bool, true, false, not, ◌||◌, if◌then◌else◌, ◌==◌, List, [], ◌∷◌, map, filter, Option, Some, None, is_some, refl}
use Rattle.std.specs.Option.{option_map, option_map_or}
use Rattle.std.proofs.Common.{sym, ap, ◌∙◌, true≢false, eqb-true, eq-eqb}
use Rattle.std.proofs.lemmas.Option.{none-some}
use Rattle.iox_model.specs.Maps.{AreDistinct, has_number}
use Rattle.iox_tables.specs.HubStates.Tables.{first_by}
use Rattle.iox_tables.proofs.HubStates.Keys.{joined}

-- what is so either way
pub either_way : {A : Type 0} (b : Bool) (o : Option A) → o ≡ (if b then o else o)
either_way true o = refl
either_way false o = refl

module _ {A : Type 0} (key : A → ℕ) where
  pub first_kept : (n : ℕ) (xs : List A) (k : ℕ) → first_by key (filter (λ x. not (key x == n)) xs) k ≡ (if k == n then None else first_by key xs k)
  first_kept n [] k = either_way (k == n) None
  first_kept n (x ∷ xs) k = step (key x == n) (key x == k) (k == n) refl refl refl (first_kept n xs k)
    where
      step : (a b c : Bool) → (key x == n) ≡ a → (key x == k) ≡ b → (k == n) ≡ c
          → first_by key (filter (λ x. not (key x == n)) xs) k ≡ (if c then None else first_by key xs k)
          → first_by key (if not a then x ∷ filter (λ x. not (key x == n)) xs else filter (λ x. not (key x == n)) xs) k
          ≡ (if c then None else (if b then Some x else first_by key xs k))
      step true b true ea eb ec rest = rest
      step true true false ea eb ec rest = absurd (true≢false (sym (joined (key x) n k ea eb) ∙ ec))
      step true false false ea eb ec rest = rest
      step false true true ea eb ec rest = absurd (true≢false (sym (eq-eqb (key x) n (eqb-true (key x) k eb ∙ eqb-true k n ec)) ∙ ea))
      step false true false ea eb ec rest = ap (λ (d : Bool). if d then Some x else first_by key (filter (λ x. not (key x == n)) xs) k) eb
      step false false c ea eb ec rest = ap (λ (d : Bool). if d then Some x else first_by key (filter (λ x. not (key x == n)) xs) k) eb ∙ rest

-- the first of what is made of the others
pub first_made : {A B : Type 0} (key : A → ℕ) (key' : B → ℕ) (f : A → B) → ((x : A) → key' (f x) ≡ key x) → (xs : List A) (k : ℕ)
    → first_by key' (map f xs) k ≡ option_map f (first_by key xs k)
first_made key key' f keeps [] k = refl
first_made {A = A} {B = B} key key' f keeps (x ∷ xs) k =
    ap (λ (j : ℕ). if j == k then Some (f x) else first_by key' (map f xs) k) (keeps x) ∙ step (key x == k) (first_made key key' f keeps xs k)
  where
    step : (b : Bool) → first_by key' (map f xs) k ≡ option_map f (first_by key xs k)
        → (if b then Some (f x) else first_by key' (map f xs) k) ≡ option_map f (if b then Some x else first_by key xs k)
    step true rest = refl
    step false rest = rest

pub first_mapped : {A : Type 0} (key : A → ℕ) (f : A → A) → ((x : A) → key (f x) ≡ key x) → (xs : List A) (k : ℕ) → first_by key (map f xs) k ≡ option_map f (first_by key xs k)
first_mapped key f keeps xs k = first_made key key f keeps xs k

-- a number is in the list if there is a first of it
pub has_first : {A : Type 0} (key : A → ℕ) (xs : List A) (n : ℕ) → has_number n (map key xs) ≡ is_some (first_by key xs n)
has_first key [] n = refl
has_first key (x ∷ xs) n = step (key x == n) (has_first key xs n)
  where
    step : (b : Bool) → has_number n (map key xs) ≡ is_some (first_by key xs n)
        → (b || has_number n (map key xs)) ≡ is_some (if b then Some x else first_by key xs n)
    step true rest = refl
    step false rest = rest

-- where numbers differ, the first among those that pass is the first of all
pub first_among : {A : Type 0} (key : A → ℕ) (test : A → Bool) (xs : List A) (n : ℕ) (y : A) → AreDistinct (map key xs)
    → first_by key (filter test xs) n ≡ Some y → (first_by key xs n ≡ Some y) × (test y ≡ true)
first_among key test [] n y apart e = absurd (none-some y e)
first_among {A = A} key test (x ∷ xs) n y apart e = step (test x) (key x == n) refl refl (first_among key test xs n y apart.1) e
  where
    step : (b c : Bool) → test x ≡ b → (key x == n) ≡ c
        → (first_by key (filter test xs) n ≡ Some y → (first_by key xs n ≡ Some y) × (test y ≡ true))
        → first_by key (if b then x ∷ filter test xs else filter test xs) n ≡ Some y
        → ((if c then Some x else first_by key xs n) ≡ Some y) × (test y ≡ true)
    step true true et ec more h =
        let it : Some x ≡ Some y = sym (ap (λ (c : Bool). if c then Some x else first_by key (filter test xs) n) ec) ∙ h in
        (it, ap (λ (o : Option A). option_map_or test o true) (sym it) ∙ et)
    step true false et ec more h = more (sym (ap (λ (c : Bool). if c then Some x else first_by key (filter test xs) n) ec) ∙ h)
    step false false et ec more h = more h
    step false true et ec more h =
        absurd (true≢false (sym (has_first key xs n ∙ ap (λ (o : Option A). is_some o) (more h).0) ∙ ap (λ k. has_number k (map key xs)) (sym (eqb-true (key x) n ec)) ∙ apart.0))
