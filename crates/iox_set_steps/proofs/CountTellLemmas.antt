-- Each access of a call of a party at counts tells of the call's own count.
use Rattle.std.specs.Prelude.{List, [], ◌∷◌, None}
use Rattle.std.proofs.Common.{◌≡◌, ℕ, ◌+◌, ◌-◌, ◌^◌, ◌<◌, ◌≤◌, length, get_or, refl, ap, sym, ◌∙◌, subst, inl, inr, arith, min}
use Rattle.std.proofs.lemmas.Bool.{cases_eq, cases_lt, lt-ltb, le-ltb, eq-eqb, ne_eqb}
use Rattle.iox_set_steps.specs.declared.counting_bit_set.CountSite.{CountSite}
use Rattle.iox_set_steps.specs.declared.counting_bit_set.CountCall.{CountCall}
use Rattle.iox_set_steps.specs.declared.counting_bit_set.CountCall.TheVariants.{Set, ResetAll}
use Rattle.iox_set_steps.specs.declared.counting_bit_set.CountProgram.{CountProgram}
use Rattle.iox_set_steps.specs.declared.counting_bit_set.CountProgram.TheVariants.{AtRest, Replies, Loads, Exchanges, Takes}
use Rattle.iox_set_steps.specs.Counts.{max_count, place_of_count, count_now}
use Rattle.iox_set_steps.specs.CountPrograms.{count_next, count_start, adds_to}
use Rattle.iox_set_steps.specs.CountPlays.{CountsKnow, count_kind}
use Rattle.iox_set_steps.specs.CountLemmas.{count_place_is, count_is}
use Rattle.iox_set_steps.specs.CountLaws.{count_laws}
use Rattle.iox_set_steps.specs.Kinds.{HaveSite, Tells, seen_in_words, turn_of}
use Rattle.iox_set_steps.proofs.SitedTellLemmas.{Telling, replies_tell as replies_tell_of}
use Rattle.iox_set_steps.specs.Turns.{AtSome}
use Rattle.iox_set_steps.specs.CountCalls.{CountTurn, TookAll, AddedNone, IsDoing, RepliesTellOfTheirCounts, count_calls}

module _ (site : CountSite) (words : List ℕ) (have : HaveSite count_kind site words) where
  room : site.base + site.capacity ≤ length words
  room = have.room

  memory : length words < 2 ^ 64
  memory = have.memory

  -- the count, from the word that was seen
  seen_is : (id : ℕ) → id < site.capacity → count_now site words id ≡ get_or words (place_of_count site id) 0
  seen_is id below =
      count_is site words id below
      ∙ ap (λ place. get_or words place 0) (sym (count_place_is site id below (omega (arith, room, memory))))

  -- there is no count past the capacity
  past_zero : (id : ℕ) → site.capacity ≤ id → 0 ≡ count_now site words id
  past_zero id past = rw (le-ltb id site.capacity past) refl

  -- an access that sees the count, and adds nothing
  add_tells : (id : ℕ) (earlier : List CountTurn) → id < site.capacity
      → Tells count_calls site (Set id) earlier (record { found = words; event = None }) (adds_to id (get_or words (place_of_count site id) 0))
  add_tells id earlier below = let seen = get_or words (place_of_count site id) 0 in elim (cases_eq seen max_count) [
    | inl full ↦ rw (eq-eqb seen max_count full) (refl, inl (seen_is id below ∙ full))
    | inr more ↦ rw (ne_eqb seen max_count more) (refl, refl)
  ]

  exchange_tells : (id count : ℕ) (earlier : List CountTurn) → id < site.capacity → count < max_count
      → Tells count_calls site (Set id) earlier (turn_of count_kind site (Exchanges id count) words) (count_next site (Exchanges id count) (seen_in_words count_kind site
      (Exchanges id count) words))
  exchange_tells id count earlier below small = let seen = get_or words (place_of_count site id) 0 in elim (cases_eq seen count) [
    | inl hit ↦ rw (eq-eqb seen count hit) (let is = seen_is id below in (refl, omega (arith, is, hit, small), below))
    | inr miss ↦ rw (ne_eqb seen count miss) (add_tells id earlier below)
  ]

  -- what an access that takes a count out tells
  took : (id : ℕ) → id < site.capacity → TookAll site id (turn_of count_kind site (Takes id) words)
  took id below = let seen = get_or words (place_of_count site id) 0 in let is = seen_is id below in elim (cases_eq seen 0) [
    | inl none ↦ rw (eq-eqb seen 0 none) (omega (arith, is, none))
    | inr some ↦ rw (ne_eqb seen 0 some, eq-eqb id id refl) (omega (arith, is))
  ]

  added_none : (id : ℕ) → AddedNone site (turn_of count_kind site (Takes id) words)
  added_none id other = let seen = get_or words (place_of_count site id) 0 in
      elim (cases_eq seen 0) [ inl none ↦ rw (eq-eqb seen 0 none) refl | inr some ↦ rw (ne_eqb seen 0 some) refl ]

  take_tells : (bit : ℕ) (earlier : List CountTurn) → bit < site.capacity → IsDoing site ResetAll earlier (Takes bit)
      → Tells count_calls site ResetAll earlier (turn_of count_kind site (Takes bit) words) (count_next site (Takes bit) (seen_in_words count_kind site (Takes bit) words))
  take_tells bit earlier below doing =
      let turn = turn_of count_kind site (Takes bit) words in
      let upto : (id : ℕ) → id < bit + 1 → AtSome (TookAll site id) (turn ∷ earlier) = λ id under. elim (cases_eq id bit) [
        | inl same ↦ inl (subst (λ i. TookAll site i turn) (sym same) (took bit below))
        | inr apart ↦ inr (doing id (omega (arith, under, apart)))
      ] in
      let behind : min (bit + 1) (2 ^ 64 - 1) ≡ bit + 1 = omega (arith, below, room, memory) in
      elim (cases_lt (min (bit + 1) (2 ^ 64 - 1)) site.capacity) [
        | inl inside ↦ rw (lt-ltb _ _ inside) (added_none bit, λ id under. upto id (omega (arith, under, behind)))
        | inr past ↦ rw (le-ltb _ _ past) (
          added_none bit,
          λ id. elim (cases_lt id (bit + 1)) [
            | inl under ↦ upto id under
            | inr over ↦ inl (past_took bit id (omega (arith, past, behind, over)) (omega (arith, over)))
          ],
        )
      ]
    where
      past_took : (bit id : ℕ) → site.capacity ≤ id → bit < id → TookAll site id (turn_of count_kind site (Takes bit) words)
      past_took bit id past over = let seen = get_or words (place_of_count site bit) 0 in elim (cases_eq seen 0) [
        | inl none ↦ rw (eq-eqb seen 0 none) (past_zero id past)
        | inr some ↦ rw (ne_eqb seen 0 some, ne_eqb id bit (omega (arith, over))) (past_zero id past)
      ]

  pub count_tells : (call : CountCall) (earlier : List CountTurn) (program : CountProgram) → CountsKnow site program → IsDoing site call earlier program
      → Tells count_calls site call earlier (turn_of count_kind site program words) (count_next site program (seen_in_words count_kind site program words))
  count_tells (Set id) earlier (Loads bit) knows doing =
      subst (λ i. Tells count_calls site (Set i) earlier (turn_of count_kind site (Loads bit) words) (count_next site (Loads bit) (seen_in_words count_kind site (Loads bit) words))) doing
      (add_tells bit earlier knows)
  count_tells (Set id) earlier (Exchanges bit count) knows doing =
      subst (λ i. Tells count_calls site (Set i) earlier (turn_of count_kind site (Exchanges bit count) words) (count_next site (Exchanges bit count) (seen_in_words count_kind site
      (Exchanges bit count) words))) doing
      (exchange_tells bit count earlier knows.0 knows.1)
  count_tells (Set id) earlier (Replies done) knows doing = rw (doing.0) (refl, inr doing.1)
  count_tells (Set id) earlier AtRest knows doing = absurd doing
  count_tells (Set id) earlier (Takes bit) knows doing = absurd doing
  count_tells ResetAll earlier (Takes bit) knows doing = take_tells bit earlier knows doing
  count_tells ResetAll earlier (Replies done) knows doing = rw (doing.0) (λ id. refl, λ id. inl (past_zero id (omega (arith, doing.1))))
  count_tells ResetAll earlier AtRest knows doing = absurd doing
  count_tells ResetAll earlier (Loads bit) knows doing = absurd doing
  count_tells ResetAll earlier (Exchanges bit count) knows doing = absurd doing

pub start_doing : (site : CountSite) (call : CountCall) → IsDoing site call [] (count_start site call)
start_doing site (Set id) = elim (cases_lt id site.capacity) [ inl below ↦ rw (lt-ltb _ _ below) refl | inr past ↦ rw (le-ltb _ _ past) (refl, past) ]
start_doing site ResetAll = elim (cases_eq site.capacity 0) [
  | inl none ↦ rw (eq-eqb _ _ none) (refl, none)
  | inr some ↦ rw (ne_eqb _ _ some)
      (λ id below. absurd (omega (arith, below)))
]

pub count_telling : Telling count_kind count_calls
count_telling = record { tells = count_tells; start_doing = start_doing }

pub replies_tell : RepliesTellOfTheirCounts
replies_tell = replies_tell_of count_kind count_laws count_calls count_telling
