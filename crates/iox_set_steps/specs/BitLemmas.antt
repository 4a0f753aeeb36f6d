-- What a store in one word does to the bits, and which event accounts for it.
use Rattle.std.specs.Prelude.{List, Some, None, ◌==◌}
use Rattle.std.specs.Option.{option_to_list}
use Rattle.std.specs.Int.{bit_at}
use Rattle.std.proofs.Common.{◌≡◌, ◌≢◌, ℕ, ◌+◌, ◌/◌, ◌%◌, ◌^◌, ◌<◌, ◌≤◌, if◌then◌else◌, length, get_or, set, refl, ap}
use Rattle.std.proofs.Common.{sym, ◌∙◌, inl, inr, arith, get_or-set_same, get_or-set_other}
use Rattle.std.proofs.lemmas.Bool.{cases_eq, cases_lt, lt-ltb, le-ltb, eq-eqb, ne_eqb}
use Rattle.std.proofs.lemmas.Nat.Bits.{bit_at-lt, bit_at-zero}
use Rattle.iox_set_steps.specs.declared.bit_set.BitSite.{BitSite}
use Rattle.iox_set_steps.specs.declared.bit_set.BitEvent.{BitEvent}
use Rattle.iox_set_steps.specs.declared.bit_set.BitEvent.TheVariants.{Set, Cleared, ClearedAll}
use Rattle.iox_set_steps.specs.Bits.{bit_words, place_of_word, bit_now, times_set, times_cleared}

-- the place of a word of the bits
pub place_is : (site : BitSite) (word : ℕ) → word < bit_words site.capacity
    → site.base + bit_words site.capacity < 2 ^ 64 → place_of_word site word ≡ site.base + word
place_is site word below memory = omega arith

-- the bit, from its word
pub now_is : (site : BitSite) (words : List ℕ) (word id : ℕ) → word < bit_words site.capacity → id / 64 ≡ word
    → bit_now site words id ≡ bit_at (get_or words (site.base + word) 0) (id % 64)
now_is site words word id below here = rw (here, lt-ltb word (bit_words site.capacity) below) refl

module _ (site : BitSite) (words : List ℕ) (word value : ℕ) (below : word < bit_words site.capacity)
    (room : site.base + bit_words site.capacity ≤ length words) where
  -- after a store in one word, its bits are those of what was stored
  pub now-same : (id : ℕ) → id / 64 ≡ word → bit_now site (set words (site.base + word) value) id ≡ bit_at value (id % 64)
  now-same id here =
      now_is site (set words (site.base + word) value) word id below here
      ∙ ap (λ n. bit_at n (id % 64)) (get_or-set_same words (site.base + word) value 0 (omega arith))

  -- after a store in one word, the bits of the other words are unchanged
  pub now-other : (id : ℕ) → id / 64 ≢ word → bit_now site (set words (site.base + word) value) id ≡ bit_now site words id
  now-other id apart = elim (cases_lt (id / 64) (bit_words site.capacity)) [
    | inl inside ↦ now_is site (set words (site.base + word) value) (id / 64) id inside refl
        ∙ ap (λ n. bit_at n (id % 64)) (get_or-set_other words (site.base + word) (site.base + id / 64) value 0 (omega arith))
        ∙ sym (now_is site words (id / 64) id inside refl)
    | inr past ↦ rw (le-ltb (id / 64) (bit_words site.capacity) past) refl
  ]

-- after a store that changes only one bit, all other bits are unchanged
pub now-others : (site : BitSite) (words : List ℕ) (bit value id : ℕ) → bit / 64 < bit_words site.capacity
    → site.base + bit_words site.capacity ≤ length words
    → ((i : ℕ) → i < 64 → i ≢ bit % 64 → bit_at value i ≡ bit_at (get_or words (site.base + bit / 64) 0) i)
    → id ≢ bit → bit_now site (set words (site.base + bit / 64) value) id ≡ bit_now site words id
now-others site words bit value id below room same other = elim (cases_eq (id / 64) (bit / 64)) [
  | inl here ↦ now-same site words (bit / 64) value below room id here
      ∙ same (id % 64) (omega arith) (omega arith)
      ∙ sym (now_is site words (bit / 64) id below here)
  | inr apart ↦ now-other site words (bit / 64) value below room id apart
]

-- the events account for the change of a bit from `old` to `new`
abbrev pub MakesUp : ℕ → ℕ → List BitEvent → ℕ → Type 0
MakesUp id old events new = old + times_set id events ≡ times_cleared id events + new

-- a bit is set, and the event says so if it was clear
pub set_makes_up : (bit id word old new : ℕ) → (id ≡ bit → (old ≡ bit_at word (bit % 64)) × (new ≡ 1)) → (id ≢ bit → new ≡ old)
    → MakesUp id old (option_to_list (if bit_at word (bit % 64) == 1 then None else Some (Set bit))) new
set_makes_up bit id word old new this others =
    let small = bit_at-lt word (bit % 64) in
    elim (cases_eq (bit_at word (bit % 64)) 1) [
      | inl one ↦ rw (eq-eqb _ _ one) (elim (cases_eq id bit)
          [ inl same ↦ (let at = this same in omega arith) | inr apart ↦ (let at = others apart in omega arith) ])
      | inr none ↦ rw (ne_eqb _ _ none) (elim (cases_eq id bit) [
        | inl same ↦ (let at = this same in rw (eq-eqb _ _ same) (omega arith))
        | inr apart ↦ (let at = others apart in rw (ne_eqb _ _ apart) (omega arith))
      ])
    ]

-- a bit is cleared, and the event says so if it was set
pub clear_makes_up : (bit id word old new : ℕ) → (id ≡ bit → (old ≡ bit_at word (bit % 64)) × (new ≡ 0)) → (id ≢ bit → new ≡ old)
    → MakesUp id old (option_to_list (if bit_at word (bit % 64) == 1 then Some (Cleared bit) else None)) new
clear_makes_up bit id word old new this others =
    let small = bit_at-lt word (bit % 64) in
    elim (cases_eq (bit_at word (bit % 64)) 1) [
      | inl one ↦ rw (eq-eqb _ _ one) (elim (cases_eq id bit) [
        | inl same ↦ (let at = this same in rw (eq-eqb _ _ same) (omega arith))
        | inr apart ↦ (let at = others apart in rw (ne_eqb _ _ apart) (omega arith))
      ])
      | inr none ↦ rw (ne_eqb _ _ none) (elim (cases_eq id bit)
          [ inl same ↦ (let at = this same in omega arith) | inr apart ↦ (let at = others apart in omega arith) ])
    ]

-- all bits of a word are cleared, and the event says so if one was set
pub clear_all_makes_up : (place id word old new : ℕ) → (id / 64 ≡ place → (old ≡ bit_at word (id % 64)) × (new ≡ 0)) → (id / 64 ≢ place → new ≡ old)
    → MakesUp id old (option_to_list (if word == 0 then None else Some (ClearedAll place word))) new
clear_all_makes_up place id word old new this others = elim (cases_eq word 0) [
  | inl zero ↦ rw (eq-eqb _ _ zero) (elim (cases_eq (id / 64) place) [
    | inl same ↦ (let at = this same in let none : bit_at word (id % 64) ≡ 0 = rw (zero) (bit_at-zero (id % 64)) in omega arith)
    | inr apart ↦ (let at = others apart in omega arith)
  ])
  | inr some ↦ rw (ne_eqb _ _ some) (elim (cases_eq (id / 64) place) [
    | inl same ↦ (let at = this same in rw (eq-eqb _ _ same) (omega arith))
    | inr apart ↦ (let at = others apart in rw (ne_eqb _ _ apart) (omega arith))
  ])
]
