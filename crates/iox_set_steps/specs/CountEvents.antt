-- One access of a party at counts names a word that exists, its event says what it did, and the
-- next program is sound.
use Rattle.std.specs.Prelude.{List, All, ◌==◌, if◌then◌else◌}
use Rattle.std.specs.Option.{option_to_list}
use Rattle.std.proofs.Common.{◌≡◌, ℕ, ◌+◌, ◌-◌, ◌^◌, ◌<◌, ◌≤◌, lit≤, length, get_or, set, ◌∙◌, inl, inr, arith, bit_and, min}
use Rattle.std.proofs.lemmas.Bool.{cases_eq, cases_lt, lt-ltb, le-ltb, eq-eqb, ne_eqb}
use Rattle.std.proofs.lemmas.Nat.{and_le_l, and_le_r}
use Rattle.std.proofs.lemmas.List.Elements.{All-set}
use Rattle.iox_steps.specs.Accesses.{seen_by, words_after, IsWithin}
use Rattle.iox_set_steps.specs.declared.counting_bit_set.CountSite.{CountSite}
use Rattle.iox_set_steps.specs.declared.counting_bit_set.CountProgram.{CountProgram}
use Rattle.iox_set_steps.specs.declared.counting_bit_set.CountProgram.TheVariants.{AtRest, Replies, Loads, Exchanges, Takes}
use Rattle.iox_set_steps.specs.Counts.{max_count, place_of_count, count_now}
use Rattle.iox_set_steps.specs.CountPrograms.{count_access, count_next, count_event, adds_to, program_of}
use Rattle.iox_set_steps.specs.CountPlays.{CountsKnow}
use Rattle.iox_set_steps.specs.CountLemmas.{count_place_is, count_is, count-same, count-other, CountMakesUp, take_makes_up}
use Rattle.iox_set_steps.specs.SitedLaws.{word_below}

module _ (site : CountSite) (words : List ℕ) (room : site.base + site.capacity ≤ length words) (memory : length words < 2 ^ 64) where
  -- each access names a word that exists
  pub count_access_within : (program : CountProgram) → CountsKnow site program → IsWithin 0 (length words) (count_access site program)
  count_access_within AtRest knows = tt
  count_access_within (Replies reply) knows = tt
  count_access_within (Loads id) knows = (omega arith, omega arith)
  count_access_within (Exchanges id count) knows = (omega arith, omega arith)
  count_access_within (Takes id) knows = (omega arith, omega arith)

  -- an exchange that succeeds adds one to the count, and another changes nothing
  exchanged : (bit id count : ℕ) → bit < site.capacity → count < max_count
      → CountMakesUp id (count_now site words id) (option_to_list (count_event (Exchanges bit count) (get_or words (site.base + bit) 0)))
      (count_now site (if get_or words (site.base + bit) 0 == count then set words (site.base + bit) (min (count + 1) max_count) else words) id)
  exchanged bit id count below small = elim (cases_eq (get_or words (site.base + bit) 0) count) [
    | inl hit ↦ rw (eq-eqb _ _ hit) (elim (cases_eq id bit) [
      | inl same ↦ (let was : count_now site words id ≡ count = rw (same) (count_is site words bit below ∙ hit) in
          let is = count-same site words bit (min (count + 1) max_count) below room id same in
          rw (eq-eqb id bit same) (omega arith))
      | inr apart ↦ (let is = count-other site words bit (min (count + 1) max_count) below room id apart in
          rw (ne_eqb id bit apart) (omega arith))
    ])
    | inr miss ↦ rw (ne_eqb _ _ miss) (omega arith)
  ]

  -- the amount at each count changes by what the event added and took out
  pub count_makes_up : (program : CountProgram) → CountsKnow site program → (id : ℕ)
      → let access = count_access site program in let seen = seen_by access (λ place. get_or words place 0) in
      CountMakesUp id (count_now site words id) (option_to_list (count_event program seen)) (count_now site (words_after access words) id)
  count_makes_up AtRest knows id = omega arith
  count_makes_up (Replies reply) knows id = omega arith
  count_makes_up (Loads bit) knows id = omega arith
  count_makes_up (Exchanges bit count) knows id = rw (count_place_is site bit knows.0 (omega arith)) (exchanged bit id count knows.0 knows.1)
  count_makes_up (Takes bit) knows id =
      let seen = get_or words (site.base + bit) 0 in
      let none : bit_and seen 0 ≡ 0 = omega (arith, and_le_r seen 0) in
      rw (count_place_is site bit knows (omega arith)) (take_makes_up bit id seen _ _
      (λ same. (rw (same) (count_is site words bit knows), count-same site words bit (bit_and seen 0) knows room id same ∙ none))
      (count-other site words bit (bit_and seen 0) knows room id))

  -- the words stay words of 64 bits
  pub count_words_stay : (program : CountProgram) → All (λ word. word < 2 ^ 64) words
      → All (λ word. word < 2 ^ 64) (words_after (count_access site program) words)
  count_words_stay AtRest bounded = bounded
  count_words_stay (Replies reply) bounded = bounded
  count_words_stay (Loads id) bounded = bounded
  count_words_stay (Exchanges id count) bounded = elim (cases_eq (get_or words (place_of_count site id) 0) count) [
    | inl hit ↦ rw (eq-eqb _ _ hit) (All-set (λ word. word < 2 ^ 64) words _ _ (omega arith) bounded)
    | inr miss ↦ rw (ne_eqb _ _ miss) bounded
  ]
  count_words_stay (Takes id) bounded = All-set (λ word. word < 2 ^ 64) words _ _
      (omega (arith, and_le_l (get_or words (place_of_count site id) 0) 0, word_below words (place_of_count site id) bounded)) bounded

  -- what holds of a program that is to add to the count that it saw
  add_knows : (id seen : ℕ) → id < site.capacity → seen < 2 ^ 64 → CountsKnow site (program_of (adds_to id seen))
  add_knows id seen below small = elim (cases_eq seen max_count) [
    | inl full ↦ rw (eq-eqb seen max_count full) tt
    | inr room ↦ rw (ne_eqb seen max_count room) (below, omega arith)
  ]

  -- the program after an access names a bit of the site
  pub count_next_knows : (program : CountProgram) → All (λ word. word < 2 ^ 64) words → CountsKnow site program
      → let seen = seen_by (count_access site program) (λ place. get_or words place 0) in CountsKnow site (program_of (count_next site program seen))
  count_next_knows AtRest bounded knows = tt
  count_next_knows (Replies reply) bounded knows = tt
  count_next_knows (Loads id) bounded knows = add_knows id _ knows (word_below words (place_of_count site id) bounded)
  count_next_knows (Exchanges id count) bounded knows = let seen = get_or words (place_of_count site id) 0 in elim (cases_eq seen count) [
    | inl hit ↦ rw (eq-eqb seen count hit) tt
    | inr miss ↦ rw (ne_eqb seen count miss) (add_knows id seen knows.0 (word_below words (place_of_count site id) bounded))
  ]
  count_next_knows (Takes id) bounded knows = elim (cases_lt (min (id + 1) (2 ^ 64 - 1)) site.capacity) [
    | inl inside ↦ rw (lt-ltb _ _ inside) inside
    | inr past ↦ rw (le-ltb _ _ past) tt
  ]
