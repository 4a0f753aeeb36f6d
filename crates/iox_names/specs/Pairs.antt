-- Attributes are ordered by their keys' bytes, then by their values'.
use Rattle.std.specs.Prelude.{Bool, ◌&&◌}
use Rattle.std.specs.Ordering.{is_lt, on, then_cmp}
use Rattle.std.specs.declared.cmp.Ordering.{Ordering}
use Rattle.iox_names.specs.Texts.{text_cmp, text_eq}
use Rattle.iox_names.specs.declared.attribute.Attribute.{Attribute}

-- two pairs are equal if their keys and their values are
abbrev pub pair_eq : Attribute → Attribute → Bool
pair_eq a b = text_eq a.key b.key && text_eq a.value b.value

-- the keys decide, and where they are equal the values
abbrev pub pair_cmp : Attribute → Attribute → Ordering
pair_cmp = then_cmp (on (λ it. it.key) text_cmp) (on (λ it. it.value) text_cmp)

-- whether one attribute comes before another in this order
abbrev pub is_before : Attribute → Attribute → Bool
is_before a b = is_lt (pair_cmp a b)
