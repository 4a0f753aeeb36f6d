-- The values of a key, one attribute after the other.
use Rattle.std.proofs.Common.{ℕ, suc, zero, ◌≡◌, ◌≢◌, ◌∙◌, ◌-◌, true, false, List, ◌∷◌, length, refl, arith}
use Rattle.std.specs.List.{count_by, filter, slice_get}
use Rattle.std.proofs.lemmas.List.{length-map}
use Rattle.std.proofs.lemmas.List.Sums.{length-filter}
use Rattle.iox_names.specs.Texts.{text_eq}
use Rattle.iox_names.specs.declared.attribute.Attribute.{Attribute}
use Rattle.iox_attributes.specs.Sets.{values_of}

-- as many values as attributes of the key
pub length-values : (key : List ℕ) (set : List Attribute) →
    length (values_of key set) ≡ count_by (λ it. text_eq it.key key) set
length-values key set = length-map (filter (λ it. text_eq it.key key) set) (λ it. it.value)
    ∙ length-filter (λ it. text_eq it.key key) set

-- the first attribute has the key
pub values-here : (key : List ℕ) (first : Attribute) (rest : List Attribute) → text_eq first.key key ≡ true →
    values_of key (first ∷ rest) ≡ first.value ∷ values_of key rest
values-here key first rest h = rw h refl

-- it has not
pub values-later : (key : List ℕ) (first : Attribute) (rest : List Attribute) → text_eq first.key key ≡ false →
    values_of key (first ∷ rest) ≡ values_of key rest
values-later key first rest h = rw h refl

-- an item behind the first
pub item-later : (first : List ℕ) (rest : List (List ℕ)) (index : ℕ) → index ≢ 0 →
    slice_get (first ∷ rest) index ≡ slice_get rest (index - 1)
item-later first rest zero other = absurd (other refl)
item-later first rest (suc index) other = let less : suc index - 1 ≡ index = omega arith in rw less refl
