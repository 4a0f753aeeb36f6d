-- One access of a party at bits names a word that exists, its event says what it did, and the next
-- program is sound.
use Rattle.std.specs.Prelude.{List, None, All}
use Rattle.std.specs.Option.{option_to_list}
use Rattle.std.specs.Int.{bit_at, bit_not, w64}
use Rattle.std.proofs.Common.{◌≡◌, ℕ, ◌+◌, ◌-◌, ◌*◌, ◌/◌, ◌%◌, ◌^◌, ◌<◌, ◌≤◌, lit≤, length, get_or, ap, ◌∙◌, inl, inr, arith, bit_and, bit_or, min}
use Rattle.std.proofs.lemmas.Bool.{cases_eq, cases_lt, lt-ltb, le-ltb, eq-eqb, ne_eqb}
use Rattle.std.proofs.lemmas.Nat.{or_lt, and_le_l, and_le_r, mod_below}
use Rattle.std.proofs.lemmas.Nat.Bits.{bit_at_set_same, bit_at_set_other, bit_at_clear_same, bit_at_clear_other, bit_at-zero, bit_at-trailing_zeros}
use Rattle.std.proofs.lemmas.List.Elements.{All-set}
use Rattle.iox_steps.specs.Accesses.{seen_by, words_after, IsWithin}
use Rattle.iox_set_steps.specs.declared.bit_set.BitSite.{BitSite}
use Rattle.iox_set_steps.specs.declared.bit_set.BitReply.{BitReply}
use Rattle.iox_set_steps.specs.declared.bit_set.BitReply.TheVariants.{ResetNext, ResetAll}
use Rattle.iox_set_steps.specs.declared.bit_set.BitProgram.{BitProgram}
use Rattle.iox_set_steps.specs.declared.bit_set.BitProgram.TheVariants.{AtRest, Replies, Sets, Looks, Clears, ClearsAll}
use Rattle.iox_set_steps.specs.Bits.{bit_words, place_of_word, bit_now}
use Rattle.iox_set_steps.specs.BitPrograms.{bit_access, bit_next, bit_event, mask, program_of, word_behind, on_to}
use Rattle.iox_set_steps.specs.BitPlays.{BitsKnow}
use Rattle.iox_set_steps.specs.BitLemmas.{place_is, now_is, now-same, now-other, now-others, MakesUp, set_makes_up, clear_makes_up, clear_all_makes_up}
use Rattle.iox_set_steps.specs.SitedLaws.{word_below}

module _ (site : BitSite) (words : List ℕ) (room : site.base + bit_words site.capacity ≤ length words) (memory : length words < 2 ^ 64) where
  -- each access names a word that exists
  pub bit_access_within : (program : BitProgram) → BitsKnow site program → IsWithin 0 (length words) (bit_access site program)
  bit_access_within AtRest knows = tt
  bit_access_within (Replies reply) knows = tt
  bit_access_within (Sets id) knows = (omega arith, omega arith)
  bit_access_within (Looks word) knows = (omega arith, omega arith)
  bit_access_within (Clears id) knows = (omega arith, omega arith)
  bit_access_within (ClearsAll word) knows = (omega arith, omega arith)

  -- the amount at each bit changes by what the event set and cleared
  pub bit_makes_up : (program : BitProgram) → BitsKnow site program → (id : ℕ)
      → let access = bit_access site program in let seen = seen_by access (λ place. get_or words place 0) in
      MakesUp id (bit_now site words id) (option_to_list (bit_event program seen)) (bit_now site (words_after access words) id)
  bit_makes_up AtRest knows id = omega arith
  bit_makes_up (Replies reply) knows id = omega arith
  bit_makes_up (Sets bit) knows id =
      let below : bit / 64 < bit_words site.capacity = omega arith in
      let word = get_or words (site.base + bit / 64) 0 in
      let value = bit_or word (mask bit) in
      rw (place_is site (bit / 64) below (omega arith)) (set_makes_up bit id word _ _
      (λ same. (
        now_is site words (bit / 64) id below (omega arith) ∙ ap (λ n. bit_at word (n % 64)) same,
        now-same site words (bit / 64) value below room id (omega arith) ∙ ap (λ n. bit_at value (n % 64)) same
            ∙ bit_at_set_same w64 word (bit % 64) (omega arith),
      ))
      (now-others site words bit value id below room (λ i small other. bit_at_set_other w64 word (bit % 64) (omega arith) i other)))
  bit_makes_up (Looks word) knows id = omega arith
  bit_makes_up (Clears bit) knows id =
      let word = get_or words (site.base + bit / 64) 0 in
      let value = bit_and word (bit_not w64 (mask bit)) in
      rw (place_is site (bit / 64) knows (omega arith)) (clear_makes_up bit id word _ _
      (λ same. (
        now_is site words (bit / 64) id knows (omega arith) ∙ ap (λ n. bit_at word (n % 64)) same,
        now-same site words (bit / 64) value knows room id (omega arith) ∙ ap (λ n. bit_at value (n % 64)) same
            ∙ bit_at_clear_same w64 word (bit % 64) (omega arith),
      ))
      (now-others site words bit value id knows room (λ i small other. bit_at_clear_other w64 word (bit % 64) (omega arith) i small other)))
  bit_makes_up (ClearsAll place) knows id =
      let word = get_or words (site.base + place) 0 in
      let none : bit_and word 0 ≡ 0 = omega (arith, and_le_r word 0) in
      rw (place_is site place knows (omega arith)) (clear_all_makes_up place id word _ _
      (λ here. (
        now_is site words place id knows here,
        now-same site words place (bit_and word 0) knows room id here ∙ ap (λ n. bit_at n (id % 64)) none ∙ bit_at-zero (id % 64),
      ))
      (now-other site words place (bit_and word 0) knows room id))

  -- the words stay words of 64 bits
  pub bit_words_stay : (program : BitProgram) → All (λ word. word < 2 ^ 64) words → All (λ word. word < 2 ^ 64) (words_after (bit_access site program) words)
  bit_words_stay AtRest bounded = bounded
  bit_words_stay (Replies reply) bounded = bounded
  bit_words_stay (Sets bit) bounded = All-set (λ word. word < 2 ^ 64) words _ _
      (or_lt 64 _ (mask bit) (word_below words _ bounded) (mod_below (1 * 2 ^ (bit % 64)) (2 ^ 64) (lit≤ tt))) bounded
  bit_words_stay (Looks word) bounded = bounded
  bit_words_stay (Clears bit) bounded = All-set (λ word. word < 2 ^ 64) words _ _
      (omega (
        arith,
        and_le_l (get_or words (place_of_word site (bit / 64)) 0) (bit_not w64 (mask bit)),
        word_below words (place_of_word site (bit / 64)) bounded,
      )) bounded
  bit_words_stay (ClearsAll word) bounded = All-set (λ word. word < 2 ^ 64) words _ _
      (omega (arith, and_le_l (get_or words (place_of_word site word) 0) 0, word_below words (place_of_word site word) bounded)) bounded

  -- the program that continues at the next word names one of the site
  behind_knows : (word : ℕ) (goes : ℕ → BitProgram) (reply : BitReply) → ((place : ℕ) → place < bit_words site.capacity → BitsKnow site (goes place))
      → BitsKnow site (program_of (on_to goes reply (word_behind site word)))
  behind_knows word goes reply knows = elim (cases_lt (min (word + 1) (2 ^ 64 - 1)) (bit_words site.capacity)) [
    | inl inside ↦ rw (lt-ltb _ _ inside) (knows _ inside)
    | inr past ↦ rw (le-ltb _ _ past) tt
  ]

  -- the program after an access names a bit or a word of the site
  pub bit_next_knows : (program : BitProgram) → All (λ word. word < 2 ^ 64) words → BitsKnow site program
      → let seen = seen_by (bit_access site program) (λ place. get_or words place 0) in BitsKnow site (program_of (bit_next site program seen))
  bit_next_knows AtRest bounded knows = tt
  bit_next_knows (Replies reply) bounded knows = tt
  bit_next_knows (Sets bit) bounded knows = tt
  bit_next_knows (Looks word) bounded knows = let seen = get_or words (place_of_word site word) 0 in elim (cases_eq seen 0) [
    | inl none ↦ rw (eq-eqb seen 0 none) (behind_knows word Looks (ResetNext None) (λ place inside. inside))
    | inr some ↦ rw (ne_eqb seen 0 some) (
        let lowest = bit_at-trailing_zeros w64 seen (omega arith) (word_below words (place_of_word site word) bounded) in
        let at = lowest.0 in omega arith)
  ]
  bit_next_knows (Clears bit) bounded knows = let seen = get_or words (place_of_word site (bit / 64)) 0 in elim (cases_eq (bit_at seen (bit % 64)) 1) [
    | inl one ↦ rw (eq-eqb _ _ one) tt
    | inr none ↦ rw (ne_eqb _ _ none) knows
  ]
  bit_next_knows (ClearsAll word) bounded knows = behind_knows word ClearsAll ResetAll (λ place inside. inside)
