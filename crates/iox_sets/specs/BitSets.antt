-- A set of bits, as its callers see it: whether each bit is set, from bit 0 on.
use Rattle.std.specs.Prelude.{ℕ, suc, List, [], ◌∷◌, Bool, true, false, Option, replicate, slice_get, slice_index_or, slice_set}

-- none of the bits is set
abbrev pub no_bits : ℕ → List Bool
no_bits capacity = replicate capacity false

-- whether a bit is set
abbrev pub bit : List Bool → ℕ → Bool
bit bits id = slice_index_or bits id false

-- the bits once this one is set; the others are unchanged
abbrev pub with_bit : List Bool → ℕ → List Bool
with_bit bits id = slice_set bits id true

-- the bits once this one is cleared; the others are unchanged
abbrev pub without_bit : List Bool → ℕ → List Bool
without_bit bits id = slice_set bits id false

-- the numbers of the bits that are set, ascending, where the first bit has the number `id`
abbrev pub set_bits_from : ℕ → List Bool → List ℕ
set_bits_from id [] = []
set_bits_from id (true ∷ bits) = id ∷ set_bits_from (suc id) bits
set_bits_from id (false ∷ bits) = set_bits_from (suc id) bits

-- the numbers of the bits that are set, ascending
abbrev pub set_bits : List Bool → List ℕ
set_bits bits = set_bits_from 0 bits

-- the lowest of them, if any is set
abbrev pub lowest : List Bool → Option ℕ
lowest bits = slice_get (set_bits bits) 0
