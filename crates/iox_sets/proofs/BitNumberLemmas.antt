-- The numbers of the bits of a word, lowest first, and of words, one word after another.
use Rattle.std.proofs.Common.{◌≡◌, ◌≢◌, ◌+◌, ◌-◌, ◌*◌, ◌/◌, ◌%◌, ◌^◌, ◌<◌, ◌≤◌, ◌++◌, ℕ, suc, Bool, true, false, List, [], ◌∷◌, eqb, bit_and, length, get_or, set, refl, ap, sym, ◌∙◌, inl, inr, arith, w64}
use Rattle.std.specs.Int.{bit_at, trailing_zeros}
use Rattle.std.proofs.lemmas.Bool.{cases_Bool, cases_eq, cases_lt, eqb-true, false≢true, true≢false}
use Rattle.std.proofs.lemmas.List.{get_or_append_left, get_or-append_right, get_or_past}
use Rattle.std.proofs.lemmas.Nat.Bits.{bit_at-zero, bit_at-trailing_zeros}
use Rattle.iox_sets.specs.BitSets.{set_bits, set_bits_from}
use Rattle.iox_sets.specs.BitWords.{IsWholeSet, bit_in, bits_in, bits_of, numbers_from, numbers_in}
use Rattle.iox_sets.proofs.BitSetLemmas.{set_bits_from-none, set_bits_from-lowest}
use Rattle.iox_sets.proofs.LowestBitLemmas.{bit_at_drop_same, bit_at_drop_other}
use Rattle.iox_sets.proofs.BitWordLemmas.{length-bits_in, get_or-bits_in, bit_in-replicate, bits_in-set}

-- a bit of one word
bit_in-word : (word id : ℕ) → id < 64 → bit_in (word ∷ []) id ≡ eqb (bit_at word id) 1
bit_in-word word id small =
    let first : id / 64 ≡ 0 = omega arith in
    let here : id % 64 ≡ id = omega arith in
    rw (first, here) refl

-- a bit of the word at a place
pub bit_in-there : (words : List ℕ) (place id : ℕ) → id < 64 → bit_in words (place * 64 + id) ≡ bit_in (get_or words place 0 ∷ []) id
bit_in-there words place id small =
    let there : (place * 64 + id) / 64 ≡ place = omega arith in
    let on : (place * 64 + id) % 64 ≡ id = omega arith in
    let first : id / 64 ≡ 0 = omega arith in
    let here : id % 64 ≡ id = omega arith in
    rw (there, on, first, here) refl

length-bits_of : (word : ℕ) → length (bits_of word) ≡ 64
unfolding bits_of
length-bits_of word = length-bits_in (word ∷ []) 64

get_or-bits_of : (word id : ℕ) → id < 64 → get_or (bits_of word) id false ≡ bit_in (word ∷ []) id
unfolding bits_of
get_or-bits_of word id small = get_or-bits_in (word ∷ []) 64 id false small

-- a word that is 0 has no numbers
pub numbers_in-zero : (place : ℕ) → numbers_in place 0 ≡ []
numbers_in-zero place =
    set_bits_from-none (place * 64) (bits_of 0) (λ id below.
    let size = length-bits_of 0 in
    get_or-bits_of 0 id (omega arith) ∙ bit_in-replicate 1 id)

module _ (word : ℕ) (some : word ≢ 0) (fits : word < 2 ^ 64) where
  shift : ℕ
  shift = trailing_zeros w64 word

  shift_small : shift < 64
  unfolding shift
  shift_small = (bit_at-trailing_zeros w64 word (omega arith) fits).0

  shift_set : bit_at word shift ≡ 1
  unfolding shift
  shift_set = (bit_at-trailing_zeros w64 word (omega arith) fits).1

  shift_first : (i : ℕ) → i < shift → bit_at word i ≡ 0
  unfolding shift
  shift_first = (bit_at-trailing_zeros w64 word (omega arith) fits).2

  pub lowest_set : bit_in (word ∷ []) (trailing_zeros w64 word) ≡ true
  unfolding shift
  lowest_set = bit_in-word word shift shift_small ∙ rw shift_set

  pub lowest_small : trailing_zeros w64 word < 64
  unfolding shift
  lowest_small = shift_small

  module _ (cleared : ℕ) (is : cleared ≡ bit_and word (word - 1)) where
    others : (i : ℕ) → i < 64 → i ≢ shift → bit_at cleared i ≡ bit_at word i
    unfolding shift
    others i small other = rw (is) (bit_at_drop_other word shift shift_set shift_first i other)

    here : bit_at cleared shift ≡ 0
    unfolding shift
    here = rw (is) (bit_at_drop_same word shift shift_set shift_first)

    -- what is set without the lowest bit was set before
    pub set_before : (id : ℕ) → id < 64 → bit_in (cleared ∷ []) id ≡ true → bit_in (word ∷ []) id ≡ true
    set_before id small is_set = elim (cases_eq id shift) [
      | inl this ↦ (let one = eqb-true _ 1 (sym (bit_in-word cleared id small) ∙ is_set) in
          let zero_there = ap (bit_at cleared) this ∙ here in absurd (omega arith))
      | inr other ↦ bit_in-word word id small ∙ ap (λ b. eqb b 1) (sym (others id small other))
          ∙ sym (bit_in-word cleared id small) ∙ is_set
    ]

    bits_of-cleared : bits_of cleared ≡ set (bits_of word) shift false
    unfolding bits_of
    bits_of-cleared =
        bits_in-set (word ∷ []) 64 0 shift cleared 0 (omega arith) shift_small here others
        ∙ ap (λ n. set (bits_in (word ∷ []) 64) n false) (omega arith)

    -- the lowest bit comes first, and then those that are left without it
    pub numbers_in-lowest : (place : ℕ) → numbers_in place word ≡ (place * 64 + trailing_zeros w64 word) ∷ numbers_in place cleared
    unfolding shift
    numbers_in-lowest place =
        set_bits_from-lowest (place * 64) (bits_of word) shift
        (get_or-bits_of word shift shift_small ∙ lowest_set)
        (λ id below. let small = shift_small in
        get_or-bits_of word id (omega arith) ∙ bit_in-word word id (omega arith) ∙ rw (shift_first id below) refl)
        ∙ ap (λ bits. (place * 64 + shift) ∷ set_bits_from (place * 64) bits) (sym bits_of-cleared)

-- the bits of words, one word after another
abbrev all_bits : List ℕ → List Bool
all_bits [] = []
all_bits (word ∷ words) = bits_of word ++ all_bits words

get_or-all_bits : (words : List ℕ) (id : ℕ) → get_or (all_bits words) id false ≡ bit_in words id
get_or-all_bits [] id = rw (get_or_past {X = ℕ} [] (id / 64) 0 (omega arith), bit_at-zero (id % 64)) refl
get_or-all_bits (word ∷ words) id =
    let size = length-bits_of word in
    elim (cases_lt id 64) [
      | inl small ↦ get_or_append_left (bits_of word) (all_bits words) false id (omega arith)
          ∙ get_or-bits_of word id small ∙ sym (first_word id small)
      | inr large ↦ get_or-append_right (bits_of word) (all_bits words) 64 id false size large
          ∙ get_or-all_bits words (id - 64) ∙ sym (later_word id large)
    ]
  where
    first_word : (id : ℕ) → id < 64 → bit_in (word ∷ words) id ≡ bit_in (word ∷ []) id
    first_word id small = let at : id / 64 ≡ 0 = omega arith in rw (at) refl

    later_word : (id : ℕ) → 64 ≤ id → bit_in (word ∷ words) id ≡ bit_in words (id - 64)
    later_word id large =
        let at : id / 64 ≡ suc ((id - 64) / 64) = omega arith in
        let on : id % 64 ≡ (id - 64) % 64 = omega arith in
        rw (at, on) refl

set_bits_from-append : (id : ℕ) (a b : List Bool) → set_bits_from id (a ++ b) ≡ set_bits_from id a ++ set_bits_from (id + length a) b
set_bits_from-append id [] b = ap (λ n. set_bits_from n b) (omega arith)
set_bits_from-append id (true ∷ a) b =
    ap (λ ids. id ∷ ids) (set_bits_from-append (suc id) a b ∙ ap (λ n. set_bits_from (suc id) a ++ set_bits_from n b) (omega arith))
set_bits_from-append id (false ∷ a) b =
    set_bits_from-append (suc id) a b ∙ ap (λ n. set_bits_from (suc id) a ++ set_bits_from n b) (omega arith)

set_bits-all_bits : (place : ℕ) (words : List ℕ) → set_bits_from (place * 64) (all_bits words) ≡ numbers_from place words
set_bits-all_bits place [] = refl
set_bits-all_bits place (word ∷ words) =
    let size = length-bits_of word in
    set_bits_from-append (place * 64) (bits_of word) (all_bits words)
    ∙ ap (λ n. numbers_in place word ++ set_bits_from n (all_bits words)) (omega arith)
    ∙ ap (λ ids. numbers_in place word ++ ids) (set_bits-all_bits (place + 1) words)

-- the same bits have the same numbers, whatever clear bits stand behind them
same_numbers : (id : ℕ) (a b : List Bool) → ((k : ℕ) → get_or a k false ≡ get_or b k false) → set_bits_from id a ≡ set_bits_from id b
same_numbers id [] b same = sym (set_bits_from-none id b (λ k below. sym (same k)))
same_numbers id (bit ∷ a) [] same = set_bits_from-none id (bit ∷ a) (λ k below. same k)
same_numbers id (true ∷ a) (true ∷ b) same = ap (λ ids. id ∷ ids) (same_numbers (suc id) a b (λ k. same (suc k)))
same_numbers id (false ∷ a) (false ∷ b) same = same_numbers (suc id) a b (λ k. same (suc k))
same_numbers id (true ∷ a) (false ∷ b) same = absurd (true≢false (same 0))
same_numbers id (false ∷ a) (true ∷ b) same = absurd (false≢true (same 0))

-- the numbers of a set are those of its words
pub set_bits-words : (words : List ℕ) (capacity : ℕ) → IsWholeSet words capacity → set_bits (bits_in words capacity) ≡ numbers_from 0 words
set_bits-words words capacity whole =
    same_numbers 0 (bits_in words capacity) (all_bits words) (λ id. get_or-all id ∙ sym (get_or-all_bits words id))
    ∙ set_bits-all_bits 0 words
  where
    outside : (id : ℕ) → capacity ≤ id → bit_in words id ≡ false
    outside id past = elim (cases_Bool (bit_in words id)) [
      | inl is_set ↦ let inside = whole.inside id is_set in absurd (omega arith)
      | inr is_clear ↦ is_clear
    ]

    get_or-all : (id : ℕ) → get_or (bits_in words capacity) id false ≡ bit_in words id
    get_or-all id =
        let size = length-bits_in words capacity in
        elim (cases_lt id capacity) [
          | inl below ↦ get_or-bits_in words capacity id false below
          | inr past ↦ get_or_past (bits_in words capacity) id false (omega arith) ∙ sym (outside id past)
        ]
