-- Bits that lie in words: each of them, and after a write to one word.
use Rattle.std.proofs.Common.{◌≡◌, ◌≢◌, ◌+◌, ◌*◌, ◌/◌, ◌%◌, ◌<◌, ◌≤◌, ℕ, Bool, false, List, eqb, not, length, get_or, set, replicate, ap, sym, ◌∙◌, inl, inr, arith, w64, bit_and, bit_or, ◌^◌, length-set, get_or-set_same, get_or-set_other}
use Rattle.std.specs.Int.{bit_at}
use Rattle.std.proofs.lemmas.Bool.{cases_eq, cases_lt, eqb-true}
use Rattle.std.proofs.lemmas.List.{same_lists, get_or-replicate, get_or_past, get_or_read, length-replicate}
use Rattle.std.proofs.lemmas.List.FromFn.{length-map-range_with_len, get_or-map-range_with_len}
use Rattle.std.proofs.lemmas.Nat.Bits.{bit_at-lt, bit_at-zero, shr_and_one, bit_at_set_same, bit_at_set_other}
use Rattle.iox_sets.specs.BitSets.{bit, no_bits, with_bit}
use Rattle.iox_sets.specs.BitWords.{IsWholeSet, bit_in, bits_in}

pub length-bits_in : (words : List ℕ) (capacity : ℕ) → length (bits_in words capacity) ≡ capacity
length-bits_in words capacity = length-map-range_with_len (bit_in words) 0 capacity

pub get_or-bits_in : (words : List ℕ) (capacity id : ℕ) (default : Bool) → id < capacity
    → get_or (bits_in words capacity) id default ≡ bit_in words id
get_or-bits_in words capacity id default below =
    get_or-map-range_with_len (bit_in words) 0 capacity id id default below (omega arith)

-- a bit past the words is not set
bit_in-past : (words : List ℕ) (id : ℕ) → length words ≤ id / 64 → bit_in words id ≡ false
bit_in-past words id past = rw get_or_past (rw bit_at-zero)

-- in words that are 0, no bit is set
pub bit_in-replicate : (count id : ℕ) → bit_in (replicate count 0) id ≡ false
bit_in-replicate count id = elim (cases_lt (id / 64) count) [
  | inl below ↦ rw (get_or-replicate, bit_at-zero)
  | inr past ↦ bit_in-past _ id (omega (arith, length-replicate {A = ℕ} count 0))
]

module _ (words : List ℕ) (capacity place shift word value : ℕ)
    (within : place < length words) (small : shift < 64)
    (here : bit_at word shift ≡ value)
    (others : (i : ℕ) → i < 64 → i ≢ shift → bit_at word i ≡ bit_at (get_or words place 0) i) where
  -- after a write to one word that changes one bit, that bit is the new one
  bit_in-set_same : bit_in (set words place word) (place * 64 + shift) ≡ eqb value 1
  bit_in-set_same =
      let at : (place * 64 + shift) / 64 ≡ place = omega arith in
      let on : (place * 64 + shift) % 64 ≡ shift = omega arith in
      rw (at, on, get_or-set_same, here)

  -- and each other is as it was
  bit_in-set_other : (id : ℕ) → id ≢ place * 64 + shift → bit_in (set words place word) id ≡ bit_in words id
  bit_in-set_other id other = elim (cases_eq (id / 64) place) [
    | inl at ↦ rw (at, get_or-set_same) (ap (λ b. eqb b 1) (others (id % 64) (omega arith) (omega arith)))
    | inr apart ↦ rw get_or-set_other
  ]

  -- the bits that the words show then
  pub bits_in-set : bits_in (set words place word) capacity ≡ set (bits_in words capacity) (place * 64 + shift) (eqb value 1)
  bits_in-set =
      let old = length-bits_in words capacity in
      let new = length-bits_in (set words place word) capacity in
      same_lists _ _ (simp length-set (omega arith)) (λ id default below.
      let id_below : id < capacity = omega arith in
      get_or-bits_in _ capacity id default id_below ∙ elim (cases_eq id (place * 64 + shift)) [
        | inl this ↦ rw (this) (bit_in-set_same ∙ sym (get_or-set_same (bits_in words capacity) _ _ _ (omega arith)))
        | inr other ↦ bit_in-set_other id other
            ∙ sym (get_or-bits_in words capacity id default id_below)
            ∙ sym (get_or-set_other (bits_in words capacity) _ id _ _ other)
      ])

  pub IsWholeSet-set : (value ≡ 1 → place * 64 + shift < capacity) → IsWholeSet words capacity → IsWholeSet (set words place word) capacity
  IsWholeSet-set may whole = record {
    room = simp length-set (whole.room);
    inside = λ id is_set. elim (cases_eq id (place * 64 + shift)) [
      | inl this ↦ rw (this) (may (eqb-true value 1 (sym bit_in-set_same ∙ rw (this) at is_set)))
      | inr other ↦ whole.inside id (sym (bit_in-set_other id other) ∙ is_set)
    ];
  }

-- the bits of words that are all 0
pub bits_in-replicate : (count capacity : ℕ) → bits_in (replicate count 0) capacity ≡ no_bits capacity
bits_in-replicate count capacity =
    let shown = length-bits_in (replicate count 0) capacity in
    let none = length-replicate capacity false in
    same_lists _ _ (omega arith) (λ id default below.
    let id_below : id < capacity = omega arith in
    get_or-bits_in _ capacity id default id_below ∙ bit_in-replicate count id
    ∙ sym (get_or-replicate capacity id false default id_below))

-- the word of a bit is there
pub word_within : (words : List ℕ) (capacity id : ℕ) → IsWholeSet words capacity → id < capacity → id / 64 < length words
word_within words capacity id whole below = let room = whole.room in omega arith

module _ (words : List ℕ) (capacity id word : ℕ) (whole : IsWholeSet words capacity) (below : id < capacity)
    (read : word ≡ get_or words (id / 64) word) where
  within : id / 64 < length words
  within = word_within words capacity id whole below

  read_at_0 : word ≡ get_or words (id / 64) 0
  read_at_0 = get_or_read words _ word within read 0

  -- a bit that is set now
  pub bits_in-with : bits_in (set words (id / 64) (bit_or word (1 * 2 ^ (id % 64) % 2 ^ 64))) capacity
      ≡ with_bit (bits_in words capacity) id
  bits_in-with =
      let place : id / 64 * 64 + id % 64 ≡ id = omega arith in
      bits_in-set words capacity (id / 64) (id % 64) _ 1 within (omega arith)
      (bit_at_set_same w64 word (id % 64) (omega arith))
      (λ i small other. bit_at_set_other w64 word (id % 64) (omega arith) i other ∙ ap (λ n. bit_at n i) read_at_0)
      ∙ ap (λ n. with_bit (bits_in words capacity) n) place

  pub IsWholeSet-with : IsWholeSet (set words (id / 64) (bit_or word (1 * 2 ^ (id % 64) % 2 ^ 64))) capacity
  IsWholeSet-with =
      IsWholeSet-set words capacity (id / 64) (id % 64) _ 1 within (omega arith)
      (bit_at_set_same w64 word (id % 64) (omega arith))
      (λ i small other. bit_at_set_other w64 word (id % 64) (omega arith) i other ∙ ap (λ n. bit_at n i) read_at_0)
      (λ is_set. omega arith) whole

  -- the test of the word tells whether the bit was not set
  pub not_bit_in : eqb (bit_and (word / 2 ^ (id % 64)) 1) 0 ≡ not (bit (bits_in words capacity) id)
  not_bit_in =
      let small = bit_at-lt word (id % 64) in
      ap (λ n. eqb n 0) (shr_and_one word (id % 64)) ∙ flipped (bit_at word (id % 64)) small
      ∙ ap (λ n. not (eqb (bit_at n (id % 64)) 1)) read_at_0
      ∙ ap not (sym (get_or-bits_in words capacity id false below))
    where
      flipped : (n : ℕ) → n < 2 → eqb n 0 ≡ not (eqb n 1)
      flipped n small = elim (cases_eq n 0) [
        | inl is ↦ rw (is)
        | inr other ↦ let one : n ≡ 1 = omega arith in rw (one)
      ]
