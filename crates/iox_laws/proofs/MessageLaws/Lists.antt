-- What lists give, and what is one of them.
use Rattle.std.specs.Prelude.{◌≡◌, List, [], ◌∷◌, ◌++◌, flat_map, refl}
use Rattle.std.proofs.Common.{ap, ◌∙◌, append_assoc, inl, inr}
use Rattle.std.proofs.lemmas.Grind.{flat_map-append}
use Rattle.iox_laws.specs.MessageLaws.Lists.{IsOneOf, GivesThese}

-- one more in front is left out
pub leaves_out : {A : Type 0} (y : A) (ys xs : List A) → GivesThese ys xs → GivesThese (y ∷ ys) xs
leaves_out y ys [] p = tt
leaves_out y ys (x ∷ xs) p = inr p

pub leave_out : {A : Type 0} (ys later taken : List A) → GivesThese later taken → GivesThese (ys ++ later) taken
leave_out [] later taken p = p
leave_out (y ∷ ys) later taken p = leaves_out y (ys ++ later) taken (leave_out ys later taken p)

pub gives_itself : {A : Type 0} (xs : List A) → GivesThese (xs ++ []) ([] ++ xs)
gives_itself [] = tt
gives_itself (x ∷ xs) = inl (refl, gives_itself xs)

-- what is given is one of those that give it
pub given-one : {A : Type 0} (a : A) (ys xs : List A) → GivesThese ys xs → IsOneOf a xs → IsOneOf a ys
given-one a [] [] p among = among
given-one a [] (x ∷ xs) p among = absurd p
given-one a (y ∷ ys) [] p among = absurd among
given-one a (y ∷ ys) (x ∷ xs) (inl q) (inl e) = inl (e ∙ q.0)
given-one a (y ∷ ys) (x ∷ xs) (inl q) (inr among) = inr (given-one a ys xs q.1 among)
given-one a (y ∷ ys) (x ∷ xs) (inr p) among = inr (given-one a ys (x ∷ xs) p among)

pub one-front : {A : Type 0} (a : A) (xs ys : List A) → IsOneOf a xs → IsOneOf a (xs ++ ys)
one-front a [] ys p = absurd p
one-front a (x ∷ xs) ys (inl e) = inl e
one-front a (x ∷ xs) ys (inr p) = inr (one-front a xs ys p)

pub one-back : {A : Type 0} (a : A) (xs ys : List A) → IsOneOf a ys → IsOneOf a (xs ++ ys)
one-back a [] ys p = p
one-back a (x ∷ xs) ys p = inr (one-back a xs ys p)

-- what is made of two lists, one after another, with more behind it
pub joined : {A B : Type 0} (f : A → List B) (xs ys : List A) (ks : List B) → flat_map f (xs ++ ys) ++ ks ≡ flat_map f xs ++ (flat_map f ys ++ ks)
joined f xs ys ks = ap (λ ns. ns ++ ks) (flat_map-append f xs ys) ∙ append_assoc (flat_map f xs) (flat_map f ys) ks
