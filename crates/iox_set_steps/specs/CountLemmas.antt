-- What a store in one word does to the counts, and which event accounts for it.
use Rattle.std.specs.Prelude.{List, Some, None, ◌==◌}
use Rattle.std.specs.Option.{option_to_list}
use Rattle.std.proofs.Common.{◌≡◌, ◌≢◌, ℕ, ◌+◌, ◌^◌, ◌<◌, ◌≤◌, if◌then◌else◌, length, get_or, set, refl, sym}
use Rattle.std.proofs.Common.{◌∙◌, inl, inr, arith, get_or-set_same, get_or-set_other}
use Rattle.std.proofs.lemmas.Bool.{cases_eq, cases_lt, lt-ltb, le-ltb, eq-eqb, ne_eqb}
use Rattle.iox_set_steps.specs.declared.counting_bit_set.CountSite.{CountSite}
use Rattle.iox_set_steps.specs.declared.counting_bit_set.CountEvent.{CountEvent}
use Rattle.iox_set_steps.specs.declared.counting_bit_set.CountEvent.TheVariants.{Taken}
use Rattle.iox_set_steps.specs.Counts.{place_of_count, count_now, times_added, taken_out}

-- the place of the count of a bit
pub count_place_is : (site : CountSite) (id : ℕ) → id < site.capacity → site.base + site.capacity < 2 ^ 64
    → place_of_count site id ≡ site.base + id
count_place_is site id below memory = omega arith

-- the count, from its word
pub count_is : (site : CountSite) (words : List ℕ) (id : ℕ) → id < site.capacity
    → count_now site words id ≡ get_or words (site.base + id) 0
count_is site words id below = rw (lt-ltb id site.capacity below) refl

module _ (site : CountSite) (words : List ℕ) (bit value : ℕ) (below : bit < site.capacity)
    (room : site.base + site.capacity ≤ length words) where
  -- after a store in the word of a bit, its count is what was stored
  pub count-same : (id : ℕ) → id ≡ bit → count_now site (set words (site.base + bit) value) id ≡ value
  count-same id same = rw (same) (count_is site (set words (site.base + bit) value) bit below ∙ get_or-set_same words (site.base + bit) value 0 (omega arith))

  -- after a store in the word of a bit, the other counts are unchanged
  pub count-other : (id : ℕ) → id ≢ bit → count_now site (set words (site.base + bit) value) id ≡ count_now site words id
  count-other id apart = elim (cases_lt id site.capacity) [
    | inl inside ↦ count_is site (set words (site.base + bit) value) id inside
        ∙ get_or-set_other words (site.base + bit) (site.base + id) value 0 (omega arith)
        ∙ sym (count_is site words id inside)
    | inr past ↦ rw (le-ltb id site.capacity past) refl
  ]

-- the events account for the change of a count from `old` to `new`
abbrev pub CountMakesUp : ℕ → ℕ → List CountEvent → ℕ → Type 0
CountMakesUp id old events new = old + times_added id events ≡ taken_out id events + new

-- a count is taken out, and the event says so if it was not 0
pub take_makes_up : (bit id seen old new : ℕ) → (id ≡ bit → (old ≡ seen) × (new ≡ 0)) → (id ≢ bit → new ≡ old)
    → CountMakesUp id old (option_to_list (if seen == 0 then None else Some (Taken bit seen))) new
take_makes_up bit id seen old new this others = elim (cases_eq seen 0) [
  | inl none ↦ rw (eq-eqb _ _ none) (elim (cases_eq id bit)
      [ inl same ↦ (let at = this same in omega arith) | inr apart ↦ (let at = others apart in omega arith) ])
  | inr some ↦ rw (ne_eqb _ _ some) (elim (cases_eq id bit) [
    | inl same ↦ (let at = this same in rw (eq-eqb _ _ same) (omega arith))
    | inr apart ↦ (let at = others apart in rw (ne_eqb _ _ apart) (omega arith))
  ])
]
