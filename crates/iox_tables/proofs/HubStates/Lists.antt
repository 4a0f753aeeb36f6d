-- The search of a list of places is that of the messages there.
use Rattle.std.specs.Prelude.{◌≡◌, ℕ, Bool, true, false, ◌||◌, if◌then◌else◌, List, [], ◌∷◌, ◌++◌, map, Option, Some, None, refl}
use Rattle.std.specs.List.{list_any}
use Rattle.std.specs.Option.{option_map}
use Rattle.std.proofs.Common.{ap, ◌∙◌}
use Rattle.iox_laws.specs.CallFunctions.Searches.{before_first, first_that, after_first}
use Rattle.iox_model.specs.Messages.{Message, serials_of}
use Rattle.iox_lanes.specs.Searches.{before_wanted, first_wanted, after_wanted}

pub first_is : (test : Message → Bool) (f : ℕ → Message) (slot : ℕ → Bool) → ((k : ℕ) → test (f k) ≡ slot k) → (ks : List ℕ)
    → first_that test (map f ks) ≡ option_map f (first_wanted slot ks)
first_is test f slot e [] = refl
first_is test f slot e (k ∷ ks) =
    elim (slot k) as (λ b. test (f k) ≡ b → (if test (f k) then Some (f k) else first_that test (map f ks)) ≡ option_map f (if b then Some k else first_wanted slot ks)) [
      | true ↦ λ is. ap (λ (b : Bool). if b then Some (f k) else first_that test (map f ks)) is
      | false ↦ λ is. ap (λ (b : Bool). if b then Some (f k) else first_that test (map f ks)) is ∙ first_is test f slot e ks
    ] (e k)

pub after_is : (test : Message → Bool) (f : ℕ → Message) (slot : ℕ → Bool) → ((k : ℕ) → test (f k) ≡ slot k) → (ks : List ℕ)
    → after_first test (map f ks) ≡ map f (after_wanted slot ks)
after_is test f slot e [] = refl
after_is test f slot e (k ∷ ks) =
    elim (slot k) as (λ b. test (f k) ≡ b → (if test (f k) then map f ks else after_first test (map f ks)) ≡ map f (if b then ks else after_wanted slot ks)) [
      | true ↦ λ is. ap (λ (b : Bool). if b then map f ks else after_first test (map f ks)) is
      | false ↦ λ is. ap (λ (b : Bool). if b then map f ks else after_first test (map f ks)) is ∙ after_is test f slot e ks
    ] (e k)

pub before_is : (test : Message → Bool) (f : ℕ → Message) (slot : ℕ → Bool) → ((k : ℕ) → test (f k) ≡ slot k) → (ks : List ℕ)
    → serials_of (before_first test (map f ks)) ≡ map (λ k. (f k).serial) (before_wanted slot ks)
before_is test f slot e [] = refl
before_is test f slot e (k ∷ ks) =
    elim (slot k) as (λ b. test (f k) ≡ b → serials_of (if test (f k) then [] else f k ∷ before_first test (map f ks)) ≡ map (λ k. (f k).serial) (if b then [] else k ∷ before_wanted slot ks)) [
      | true ↦ λ is. ap (λ (b : Bool). serials_of (if b then [] else f k ∷ before_first test (map f ks))) is
      | false ↦ λ is. ap (λ (b : Bool). serials_of (if b then [] else f k ∷ before_first test (map f ks))) is ∙ ap (λ zs. (f k).serial ∷ zs) (before_is test f slot e ks)
    ] (e k)

-- ---- what is out stays out

pub any-append : {A : Type 0} (p : A → Bool) (xs ys : List A) → list_any p (xs ++ ys) ≡ (list_any p xs || list_any p ys)
any-append p [] ys = refl
any-append p (x ∷ xs) ys = over (p x) _ _ _ (any-append p xs ys)
  where
    over : (b c d e : Bool) → c ≡ (d || e) → (b || c) ≡ ((b || d) || e)
    over true c d e h = refl
    over false c d e h = h

-- what was searched is what was passed over, what was found and what is left
abbrev pub found_too : (ℕ → Bool) → Option ℕ → Bool
found_too p (Some k) = p k
found_too p None = false

pub any_searched : (p slot : ℕ → Bool) (ks : List ℕ)
    → list_any p ks ≡ (list_any p (before_wanted slot ks) || (list_any p (after_wanted slot ks) || found_too p (first_wanted slot ks)))
any_searched p slot [] = refl
any_searched p slot (k ∷ ks) =
    elim (slot k) as (λ b. (p k || list_any p ks) ≡ (list_any p (if b then [] else k ∷ before_wanted slot ks) || (list_any p (if b then ks else after_wanted slot ks) || found_too p (if b then Some k else first_wanted slot ks)))) [
      | true ↦ swap (p k) (list_any p ks)
      | false ↦ over (p k) _ _ _ (any_searched p slot ks)
    ]
  where
    swap : (a b : Bool) → (a || b) ≡ (b || a)
    swap true true = refl
    swap true false = refl
    swap false true = refl
    swap false false = refl

    over : (b c d e : Bool) → c ≡ (d || e) → (b || c) ≡ ((b || d) || e)
    over true c d e h = refl
    over false c d e h = h
