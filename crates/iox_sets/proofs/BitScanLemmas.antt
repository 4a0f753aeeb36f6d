-- The lowest bit that is set, found in the first word that is not 0.
use Rattle.std.proofs.Common.{◌≡◌, ◌≢◌, ◌+◌, ◌-◌, ◌*◌, ◌/◌, ◌%◌, ◌^◌, ◌<◌, ℕ, Bool, true, false, List, Some, None, eqb, bit_and, length, get_or, set, slice_get, ap, sym, ◌∙◌, inl, inr, arith, w64}
use Rattle.std.specs.Int.{bit_at, bit_not, trailing_zeros}
use Rattle.std.proofs.lemmas.Bool.{cases_lt, ne_eqb}
use Rattle.std.proofs.lemmas.List.{get_or_past, get_or_read}
use Rattle.std.proofs.lemmas.Nat.Bits.{bit_at-zero, bit_at-trailing_zeros, bit_at_clear_same, bit_at_clear_other}
use Rattle.iox_sets.specs.BitSets.{lowest, without_bit}
use Rattle.iox_sets.specs.BitWords.{IsWholeSet, bit_in, bits_in}
use Rattle.iox_sets.specs.Words.{IsFirstUsed, IsUnusedFrom}
use Rattle.iox_sets.proofs.BitSetLemmas.{set_bits-lowest, set_bits-none}
use Rattle.iox_sets.proofs.BitWordLemmas.{get_or-bits_in, length-bits_in, bits_in-set, IsWholeSet-set}

module _ (words : List ℕ) (capacity : ℕ) (whole : IsWholeSet words capacity)
    (bits : List Bool) (shown : bits_in words capacity ≡ bits) where
  -- a bit in a word that is 0
  bit_in-zero : (id : ℕ) → get_or words (id / 64) 0 ≡ 0 → bit_in words id ≡ false
  bit_in-zero id is_zero = rw (is_zero, bit_at-zero)

  -- where no word is used, no bit is set
  pub lowest-unused : IsUnusedFrom words 0 → lowest bits ≡ None
  lowest-unused unused =
      let size = length-bits_in words capacity in
      ap lowest (sym shown) ∙ ap (λ ids. slice_get ids 0) (set_bits-none (bits_in words capacity) (λ id within.
      let below : id < capacity = omega arith in
      get_or-bits_in words capacity id false below ∙ bit_in-zero id (elim (cases_lt (id / 64) (length words)) [
        | inl there ↦ unused (id / 64) (omega arith) there
        | inr past ↦ get_or_past words (id / 64) 0 past
      ])))

  module _ (place word : ℕ) (first : IsFirstUsed words 0 place) (read : word ≡ get_or words place word)
      (fits : word < 2 ^ 64) where
    shift : ℕ
    shift = trailing_zeros w64 word

    within : place < length words
    within = first.within

    read_at_0 : word ≡ get_or words place 0
    read_at_0 = get_or_read words place word within read 0

    some : 0 < word
    some = let used = first.used in let is = read_at_0 in omega arith

    shift_small : shift < 64
    unfolding shift
    shift_small = (bit_at-trailing_zeros w64 word some fits).0

    shift_set : bit_at word shift ≡ 1
    unfolding shift
    shift_set = (bit_at-trailing_zeros w64 word some fits).1

    shift_first : (i : ℕ) → i < shift → bit_at word i ≡ 0
    unfolding shift
    shift_first = (bit_at-trailing_zeros w64 word some fits).2

    at : (i : ℕ) → i < 64 → (place * 64 + i) / 64 ≡ place
    at i small = omega arith

    on : (i : ℕ) → i < 64 → (place * 64 + i) % 64 ≡ i
    on i small = omega arith

    bit_in-here : (i : ℕ) → i < 64 → bit_in words (place * 64 + i) ≡ eqb (bit_at word i) 1
    bit_in-here i small = rw (at i small, on i small, ← read_at_0)

    -- the bit that was found is set, and within the set
    found_set : bit_in words (place * 64 + shift) ≡ true
    found_set = bit_in-here shift shift_small ∙ rw shift_set

    pub found_within : place * 64 + trailing_zeros w64 word < capacity
    unfolding shift
    found_within = whole.inside _ found_set

    -- and no bit before it is
    found_lowest : (id : ℕ) → id < place * 64 + shift → bit_in words id ≡ false
    found_lowest id before = elim (cases_lt id (place * 64)) [
      | inl earlier ↦ bit_in-zero id (first.unused (id / 64) (omega arith) (omega arith))
      | inr here ↦
          let small = shift_small in
          let is : place * 64 + (id - place * 64) ≡ id = omega arith in
          ap (bit_in words) (sym is) ∙ bit_in-here (id - place * 64) (omega arith)
          ∙ ne_eqb _ 1 (λ one. let zero_there = shift_first (id - place * 64) (omega arith) in omega arith)
    ]

    pub lowest-found : lowest bits ≡ Some (place * 64 + trailing_zeros w64 word)
    unfolding shift
    lowest-found =
        let size = length-bits_in words capacity in
        let inside = found_within in
        ap lowest (sym shown) ∙ ap (λ ids. slice_get ids 0) (set_bits-lowest (bits_in words capacity) (place * 64 + shift)
        (get_or-bits_in words capacity _ false inside ∙ found_set)
        (λ id before. get_or-bits_in words capacity id false (omega arith) ∙ found_lowest id before))

    module _ (cleared : ℕ) (is : cleared ≡ bit_and word (bit_not w64 (1 * 2 ^ trailing_zeros w64 word % 2 ^ 64))) where
      others : (i : ℕ) → i < 64 → i ≢ shift → bit_at cleared i ≡ bit_at (get_or words place 0) i
      unfolding shift
      others i small other = rw (is) (bit_at_clear_other w64 word shift shift_small i small other ∙ ap (λ n. bit_at n i) read_at_0)

      here : bit_at cleared shift ≡ 0
      unfolding shift
      here = rw (is) (bit_at_clear_same w64 word shift shift_small)

      pub bits_in-found : bits_in (set words place cleared) capacity
          ≡ without_bit bits (place * 64 + trailing_zeros w64 word)
      unfolding shift
      bits_in-found = bits_in-set words capacity place shift cleared 0 within shift_small here others
          ∙ ap (λ b. without_bit b (place * 64 + shift)) shown

      pub IsWholeSet-found : IsWholeSet (set words place cleared) capacity
      IsWholeSet-found =
          IsWholeSet-set words capacity place shift cleared 0 within shift_small here others (λ one. absurd (omega arith)) whole
