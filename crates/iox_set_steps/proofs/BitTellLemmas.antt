-- Each access of a call of a party at bits tells of the call's own bit.
use Rattle.std.specs.Prelude.{List, [], ◌∷◌}
use Rattle.std.specs.Int.{bit_at, w64}
use Rattle.std.proofs.Common.{◌≡◌, ℕ, ◌+◌, ◌-◌, ◌/◌, ◌%◌, ◌^◌, ◌<◌, ◌≤◌, lit≤, length, get_or, refl, ap, sym, ◌∙◌, subst, inl, inr, arith, min}
use Rattle.std.proofs.lemmas.Bool.{cases_eq, cases_lt, lt-ltb, le-ltb, eq-eqb, ne_eqb}
use Rattle.std.proofs.lemmas.Nat.Bits.{bit_at-lt, bit_at-zero, bit_at-trailing_zeros}
use Rattle.iox_set_steps.specs.declared.bit_set.BitSite.{BitSite}
use Rattle.iox_set_steps.specs.declared.bit_set.BitCall.{BitCall}
use Rattle.iox_set_steps.specs.declared.bit_set.BitCall.TheVariants.{Set, ResetNext, ResetAll}
use Rattle.iox_set_steps.specs.declared.bit_set.BitProgram.{BitProgram}
use Rattle.iox_set_steps.specs.declared.bit_set.BitProgram.TheVariants.{AtRest, Replies, Sets, Looks, Clears, ClearsAll}
use Rattle.iox_set_steps.specs.Bits.{bit_words, place_of_word, bit_now}
use Rattle.iox_set_steps.specs.BitPrograms.{bit_next, bit_start}
use Rattle.iox_set_steps.specs.BitPlays.{BitsKnow, bit_kind}
use Rattle.iox_set_steps.specs.BitLemmas.{place_is, now_is}
use Rattle.iox_set_steps.specs.BitLaws.{bit_laws}
use Rattle.iox_set_steps.specs.SitedLaws.{word_below}
use Rattle.iox_set_steps.specs.Kinds.{HaveSite, Tells, seen_in_words, turn_of}
use Rattle.iox_set_steps.proofs.SitedTellLemmas.{Telling, replies_tell as replies_tell_of}
use Rattle.iox_set_steps.specs.Turns.{AtSome}
use Rattle.iox_set_steps.specs.BitCalls.{BitTurn, FoundClear, LeftClear, SetsNone, IsDoing, RepliesTellOfTheirBits, bit_calls}

module _ (site : BitSite) (words : List ℕ) (have : HaveSite bit_kind site words) where
  room : site.base + bit_words site.capacity ≤ length words
  room = have.room

  memory : length words < 2 ^ 64
  memory = have.memory

  -- the bit, from the word that was seen
  seen_is : (word id : ℕ) → word < bit_words site.capacity → id / 64 ≡ word
      → bit_now site words id ≡ bit_at (get_or words (place_of_word site word) 0) (id % 64)
  seen_is word id below here =
      now_is site words word id below here
      ∙ ap (λ place. bit_at (get_or words place 0) (id % 64)) (sym (place_is site word below (omega (arith, room, memory))))

  -- there is no bit behind the last word
  past_clear : (id : ℕ) → bit_words site.capacity ≤ id / 64 → bit_now site words id ≡ 0
  past_clear id past = rw (le-ltb (id / 64) (bit_words site.capacity) past) refl

  set_tells : (id : ℕ) (earlier : List BitTurn) → id < site.capacity
      → Tells bit_calls site (Set id) earlier (turn_of bit_kind site (Sets id) words) (bit_next site (Sets id) (seen_in_words bit_kind site (Sets id) words))
  set_tells id earlier below =
      let seen = get_or words (place_of_word site (id / 64)) 0 in
      let is = seen_is (id / 64) id (omega (arith, below)) refl in
      let small = bit_at-lt seen (id % 64) in
      elim (cases_eq (bit_at seen (id % 64)) 1) [
        | inl one ↦ rw (eq-eqb _ _ one) (refl, inl (is ∙ one))
        | inr none ↦ rw (ne_eqb _ _ none) (refl, omega (arith, is, small, none), below)
      ]

  -- each bit of the words up to this one was clear, once it was so of those before it
  look_tells : (word : ℕ) (earlier : List BitTurn) → word < bit_words site.capacity → IsDoing site ResetNext earlier (Looks word)
      → Tells bit_calls site ResetNext earlier (turn_of bit_kind site (Looks word) words) (bit_next site (Looks word) (seen_in_words bit_kind site (Looks word) words))
  look_tells word earlier below doing =
      let seen = get_or words (place_of_word site word) 0 in
      let turn = turn_of bit_kind site (Looks word) words in
      elim (cases_eq seen 0) [
        | inl none ↦ rw (eq-eqb seen 0 none) (
            let upto : (id : ℕ) → id / 64 < word + 1 → AtSome (FoundClear site id) (turn ∷ earlier) = λ id under. elim (cases_lt (id / 64) word) [
              | inl before ↦ inr (doing id before)
              | inr not_before ↦ inl (seen_is word id below (omega (arith, under, not_before)) ∙ ap (λ n. bit_at n (id % 64)) none ∙ bit_at-zero (id % 64))
            ] in
            let behind : min (word + 1) (2 ^ 64 - 1) ≡ word + 1 = omega (arith, below, room, memory) in
            elim (cases_lt (min (word + 1) (2 ^ 64 - 1)) (bit_words site.capacity)) [
              | inl inside ↦ rw (lt-ltb _ _ inside) (refl, λ id under. upto id (omega (arith, under, behind)))
              | inr past ↦ rw (le-ltb _ _ past) (
                refl,
                λ id. elim (cases_lt (id / 64) (word + 1)) [
                  | inl under ↦ upto id under
                  | inr over ↦ inl (past_clear id (omega (arith, past, behind, over)))
                ],
              )
            ])
        | inr some ↦ rw (ne_eqb seen 0 some) (
          refl,
          λ id under. inr (doing id (
              let lowest = bit_at-trailing_zeros w64 seen (omega (arith, some)) (word_below words (place_of_word site word) have.small) in
              let at = lowest.0 in omega (arith, under, at))),
        )
      ]

  clear_tells : (bit : ℕ) (earlier : List BitTurn) → bit / 64 < bit_words site.capacity → IsDoing site ResetNext earlier (Clears bit)
      → Tells bit_calls site ResetNext earlier (turn_of bit_kind site (Clears bit) words) (bit_next site (Clears bit) (seen_in_words bit_kind site (Clears bit) words))
  clear_tells bit earlier below doing =
      let seen = get_or words (place_of_word site (bit / 64)) 0 in
      let is = seen_is (bit / 64) bit below refl in
      elim (cases_eq (bit_at seen (bit % 64)) 1) [
        | inl one ↦ rw (eq-eqb _ _ one) (refl, is ∙ one)
        | inr none ↦ rw (ne_eqb _ _ none) (refl, λ id under. inr (doing id under))
      ]

  -- what an access that clears a word tells
  all_left : (word : ℕ) → word < bit_words site.capacity → (id : ℕ) → id / 64 ≡ word → LeftClear site id (turn_of bit_kind site (ClearsAll word) words)
  all_left word below id here =
      let seen = get_or words (place_of_word site word) 0 in
      let is = seen_is word id below here in
      let small = bit_at-lt seen (id % 64) in
      elim (cases_eq (bit_at seen (id % 64)) 0) [
        | inl none ↦ inl (is ∙ none)
        | inr some ↦ elim (cases_eq seen 0) [
          | inl zero ↦ inl (is ∙ ap (λ n. bit_at n (id % 64)) zero ∙ bit_at-zero (id % 64))
          | inr more ↦ inr (rw (ne_eqb seen 0 more, eq-eqb (id / 64) word here) (omega (arith, some, small)))
        ]
      ]

  sets_none : (word : ℕ) → SetsNone site (turn_of bit_kind site (ClearsAll word) words)
  sets_none word id = let seen = get_or words (place_of_word site word) 0 in
      elim (cases_eq seen 0) [ inl none ↦ rw (eq-eqb seen 0 none) refl | inr some ↦ rw (ne_eqb seen 0 some) refl ]

  all_tells : (word : ℕ) (earlier : List BitTurn) → word < bit_words site.capacity → IsDoing site ResetAll earlier (ClearsAll word)
      → Tells bit_calls site ResetAll earlier (turn_of bit_kind site (ClearsAll word) words) (bit_next site (ClearsAll word) (seen_in_words bit_kind site (ClearsAll word) words))
  all_tells word earlier below doing =
      let turn = turn_of bit_kind site (ClearsAll word) words in
      let upto : (id : ℕ) → id / 64 < word + 1 → AtSome (LeftClear site id) (turn ∷ earlier) = λ id under. elim (cases_lt (id / 64) word) [
        | inl before ↦ inr (doing id before)
        | inr not_before ↦ inl (all_left word below id (omega (arith, under, not_before)))
      ] in
      let behind : min (word + 1) (2 ^ 64 - 1) ≡ word + 1 = omega (arith, below, room, memory) in
      elim (cases_lt (min (word + 1) (2 ^ 64 - 1)) (bit_words site.capacity)) [
        | inl inside ↦ rw (lt-ltb _ _ inside) (sets_none word, λ id under. upto id (omega (arith, under, behind)))
        | inr past ↦ rw (le-ltb _ _ past) (
          sets_none word,
          λ id. elim (cases_lt (id / 64) (word + 1)) [
            | inl under ↦ upto id under
            | inr over ↦ inl (inl (past_clear id (omega (arith, past, behind, over))))
          ],
        )
      ]

  pub bit_tells : (call : BitCall) (earlier : List BitTurn) (program : BitProgram) → BitsKnow site program → IsDoing site call earlier program
      → Tells bit_calls site call earlier (turn_of bit_kind site program words) (bit_next site program (seen_in_words bit_kind site program words))
  bit_tells (Set id) earlier (Sets bit) knows doing =
      subst (λ i. Tells bit_calls site (Set i) earlier (turn_of bit_kind site (Sets bit) words) (bit_next site (Sets bit) (seen_in_words bit_kind site (Sets bit) words))) doing
      (set_tells bit earlier knows)
  bit_tells (Set id) earlier (Replies done) knows doing = rw (doing.0) (refl, inr doing.1)
  bit_tells (Set id) earlier AtRest knows doing = absurd doing
  bit_tells (Set id) earlier (Looks word) knows doing = absurd doing
  bit_tells (Set id) earlier (Clears bit) knows doing = absurd doing
  bit_tells (Set id) earlier (ClearsAll word) knows doing = absurd doing
  bit_tells ResetNext earlier (Looks word) knows doing = look_tells word earlier knows doing
  bit_tells ResetNext earlier (Clears bit) knows doing = clear_tells bit earlier knows doing
  bit_tells ResetNext earlier (Replies done) knows doing = rw (doing.0) (refl, λ id. inl (past_clear id (omega (arith, doing.1))))
  bit_tells ResetNext earlier AtRest knows doing = absurd doing
  bit_tells ResetNext earlier (Sets bit) knows doing = absurd doing
  bit_tells ResetNext earlier (ClearsAll word) knows doing = absurd doing
  bit_tells ResetAll earlier (ClearsAll word) knows doing = all_tells word earlier knows doing
  bit_tells ResetAll earlier (Replies done) knows doing = rw (doing.0) (λ id. refl, λ id. inl (inl (past_clear id (omega (arith, doing.1)))))
  bit_tells ResetAll earlier AtRest knows doing = absurd doing
  bit_tells ResetAll earlier (Sets bit) knows doing = absurd doing
  bit_tells ResetAll earlier (Looks word) knows doing = absurd doing
  bit_tells ResetAll earlier (Clears bit) knows doing = absurd doing

pub start_doing : (site : BitSite) (call : BitCall) → IsDoing site call [] (bit_start site call)
start_doing site (Set id) = elim (cases_lt id site.capacity) [ inl below ↦ rw (lt-ltb _ _ below) refl | inr past ↦ rw (le-ltb _ _ past) (refl, past) ]
start_doing site ResetNext = elim (cases_eq site.capacity 0) [
  | inl none ↦ rw (eq-eqb _ _ none) (refl, none)
  | inr some ↦ rw (ne_eqb _ _ some)
      (λ id below. absurd (omega (arith, below)))
]
start_doing site ResetAll = elim (cases_eq site.capacity 0) [
  | inl none ↦ rw (eq-eqb _ _ none) (refl, none)
  | inr some ↦ rw (ne_eqb _ _ some)
      (λ id below. absurd (omega (arith, below)))
]

pub bit_telling : Telling bit_kind bit_calls
bit_telling = record { tells = bit_tells; start_doing = start_doing }

pub replies_tell : RepliesTellOfTheirBits
replies_tell = replies_tell_of bit_kind bit_laws bit_calls bit_telling
