-- Marks in words, and words of marks above them.
use Rattle.std.proofs.Common.{◌≡◌, ◌≢◌, ◌<◌, ◌≤◌, ◌+◌, ◌-◌, ◌*◌, ◌/◌, ◌%◌, ◌^◌, ℕ, zero, suc, true, false, List, [], ◌∷◌, length, get_or, slice_set, w64, refl, sym, ap, ◌∙◌, inl, inr, arith}
use Rattle.std.proofs.lemmas.Bool.{cases_eq, cases_lt, false≢true}
use Rattle.std.proofs.lemmas.List.{get_or_past, get_or-set_same, get_or-set_other}
use Rattle.std.proofs.lemmas.Nat.Bits.{bit_at-trailing_zeros, bit_at-zero}
use Rattle.std.specs.Int.{bit_at, trailing_zeros}
use Rattle.std.specs.Prelude.{Bool}
use Rattle.iox_lanes.specs.Marks.{AreSummed, TellBelow, TellBut, TellsOfWord, first_of, is_marked, is_set, word_at}

-- ---- numbers that are not 0

set_above : (n : ℕ) → 0 < n → is_set n ≡ true
set_above zero h = absurd (omega (arith, h))
set_above (suc n) h = refl

above_set : (n : ℕ) → is_set n ≡ true → 0 < n
above_set zero h = absurd (false≢true h)
above_set (suc n) h = omega arith

zero_unset : (n : ℕ) → is_set n ≡ false → n ≡ 0
zero_unset zero h = refl
zero_unset (suc n) h = absurd (false≢true (sym h))

-- ---- a mark and its word

-- a number with a bit is not 0
bit_sets : (n i : ℕ) → is_set (bit_at n i) ≡ true → is_set n ≡ true
bit_sets zero i h = absurd (false≢true (sym (ap is_set (bit_at-zero i)) ∙ h))
bit_sets (suc n) i h = refl

-- nor is the word of a mark that is set
pub marked_word : (words : List ℕ) (k : ℕ) → is_marked words k ≡ true → is_set (word_at words (k / 64)) ≡ true
marked_word words k h = bit_sets (word_at words (k / 64)) (k % 64) h

-- a word that is 0 has no mark
pub unmarked_word : (words : List ℕ) (k : ℕ) → is_set (word_at words (k / 64)) ≡ false → is_marked words k ≡ false
unmarked_word words k h =
    ap (λ (n : ℕ). is_set (bit_at n (k % 64))) (zero_unset (word_at words (k / 64)) h) ∙ ap is_set (bit_at-zero (k % 64))

-- past the last word none is
pub unset_past : (words : List ℕ) (n : ℕ) → length words ≤ n → is_set (word_at words n) ≡ false
unset_past words n h = ap is_set (get_or_past words n 0 h)

pub set_within : (words : List ℕ) (n : ℕ) → is_set (word_at words n) ≡ true → n < length words
set_within words n h = elim (cases_lt n (length words)) [
  | inl below ↦ below
  | inr past ↦ absurd (false≢true (sym (unset_past words n past) ∙ h))
]

-- ---- a word is changed

pub word_other : (words : List ℕ) (i n w : ℕ) → n ≢ i → word_at (slice_set words i w) n ≡ word_at words n
word_other words i n w ne = get_or-set_other words i n w 0 ne

pub word_here : (words : List ℕ) (i w : ℕ) → i < length words → word_at (slice_set words i w) i ≡ w
word_here words i w h = get_or-set_same words i w 0 h

pub marked_here : (words : List ℕ) (k w : ℕ) (b : Bool) → k / 64 < length words → is_set (bit_at w (k % 64)) ≡ b
    → is_marked (slice_set words (k / 64) w) k ≡ b
marked_here words k w b h is = ap (λ (n : ℕ). is_set (bit_at n (k % 64))) (word_here words (k / 64) w h) ∙ is

pub marked_other : (words : List ℕ) (k w : ℕ) → k / 64 < length words
    → ((i : ℕ) → i < 64 → i ≢ k % 64 → bit_at w i ≡ bit_at (word_at words (k / 64)) i)
    → (j : ℕ) → j ≢ k → is_marked (slice_set words (k / 64) w) j ≡ is_marked words j
marked_other words k w h same j ne = elim (cases_eq (j / 64) (k / 64)) [
  | inl is ↦
      let bit : j % 64 ≢ k % 64 = λ e. ne (omega (arith, is, e)) in
      ap (λ (n : ℕ). is_set (bit_at (word_at (slice_set words (k / 64) w) n) (j % 64))) is
      ∙ ap (λ (n : ℕ). is_set (bit_at n (j % 64))) (word_here words (k / 64) w h)
      ∙ ap is_set (same (j % 64) (omega arith) bit)
      ∙ ap (λ (n : ℕ). is_set (bit_at (word_at words n) (j % 64))) (sym is)
  | inr differs ↦ ap (λ (n : ℕ). is_set (bit_at n (j % 64))) (word_other words (k / 64) (j / 64) w differs)
]

-- ---- the lowest mark of a word

module _ (words : List ℕ) (at : ℕ) (some : is_set (word_at words at) ≡ true) (fits : word_at words at < 2 ^ 64) where
  pub lowest : (trailing_zeros w64 (word_at words at) < 64) × (bit_at (word_at words at) (trailing_zeros w64 (word_at words at)) ≡ 1)
      × ((i : ℕ) → i < trailing_zeros w64 (word_at words at) → bit_at (word_at words at) i ≡ 0)
  lowest = bit_at-trailing_zeros w64 (word_at words at) (above_set (word_at words at) some) fits

  pub lowest_here : is_marked words (64 * at + trailing_zeros w64 (word_at words at)) ≡ true
  lowest_here =
      let t = trailing_zeros w64 (word_at words at) in
      let word : (64 * at + t) / 64 ≡ at = omega (arith, lowest.0) in
      let bit : (64 * at + t) % 64 ≡ t = omega (arith, lowest.0) in
      ap (λ (n : ℕ). is_set (bit_at (word_at words n) ((64 * at + t) % 64))) word
      ∙ ap (λ (i : ℕ). is_set (bit_at (word_at words at) i)) bit ∙ ap is_set lowest.1

  pub lowest_below : (k : ℕ) → 64 * at ≤ k → k < 64 * at + trailing_zeros w64 (word_at words at) → is_marked words k ≡ false
  lowest_below k from below =
      let word : k / 64 ≡ at = omega (arith, lowest.0, from, below) in
      ap (λ (n : ℕ). is_set (bit_at (word_at words n) (k % 64))) word
      ∙ ap is_set (lowest.2 (k % 64) (omega (arith, lowest.0, from, below)))

-- ---- a mark is cleared

-- a word that has a mark then had one before
less_there : (n w i : ℕ) → w < 2 ^ 64 → bit_at w i ≡ 0 → ((k : ℕ) → k < 64 → k ≢ i → bit_at w k ≡ bit_at n k)
    → is_set w ≡ true → is_set n ≡ true
less_there n w i fits here others some =
    let low = bit_at-trailing_zeros w64 w (above_set w some) fits in
    let t = trailing_zeros w64 w in
    elim (cases_eq t i) [
      | inl is ↦
          let e : ◌≡◌ {A = ℕ} 1 0 = sym low.1 ∙ ap (λ (k : ℕ). bit_at w k) is ∙ here in
          absurd (omega (arith, e))
      | inr differs ↦ bit_sets n t (ap is_set (sym (others t low.0 differs) ∙ low.1))
    ]

pub cleared_less : (words : List ℕ) (k w : ℕ) → k / 64 < length words → w < 2 ^ 64 → bit_at w (k % 64) ≡ 0
    → ((i : ℕ) → i < 64 → i ≢ k % 64 → bit_at w i ≡ bit_at (word_at words (k / 64)) i)
    → (n : ℕ) → is_set (word_at (slice_set words (k / 64) w) n) ≡ true → is_set (word_at words n) ≡ true
cleared_less words k w h fits here others n some = elim (cases_eq n (k / 64)) [
  | inl is ↦
      ap (λ (j : ℕ). is_set (word_at words j)) is
      ∙ less_there (word_at words (k / 64)) w (k % 64) fits here others
      (ap is_set (sym (word_here words (k / 64) w h)) ∙ ap (λ (j : ℕ). is_set (word_at (slice_set words (k / 64) w) j)) (sym is) ∙ some)
  | inr differs ↦ ap is_set (sym (word_other words (k / 64) n w differs)) ∙ some
]

-- ---- one word up

-- the mark of the word in that place is set in the word above it
pub set_step : (words words' : List ℕ) (marks at : ℕ) → 0 < at → at ≤ marks → is_set (word_at words at) ≡ true
    → is_marked words' (at - 1) ≡ true → ((k : ℕ) → k ≢ at - 1 → is_marked words' k ≡ is_marked words k)
    → ((n : ℕ) → n ≢ (at - 1) / 64 → word_at words' n ≡ word_at words n)
    → TellBut words marks at → TellBut words' marks ((at - 1) / 64)
set_step words words' marks at some within has here others same tells k below but = elim (cases_eq k (at - 1)) [
  | inl is ↦
      let next : k + 1 ≡ at = omega (arith, is, some) in
      ap (λ (j : ℕ). is_marked words' j) is ∙ here ∙ sym has
      ∙ ap (λ (n : ℕ). is_set (word_at words n)) (sym next) ∙ ap is_set (sym (same (k + 1) but))
  | inr differs ↦
      others k differs ∙ tells k below (λ e. differs (omega (arith, e))) ∙ ap is_set (sym (same (k + 1) but))
]

-- or cleared there
pub clear_step : (words words' : List ℕ) (marks at : ℕ) → 0 < at → at ≤ marks → is_set (word_at words at) ≡ false
    → is_marked words' (at - 1) ≡ false → ((k : ℕ) → k ≢ at - 1 → is_marked words' k ≡ is_marked words k)
    → ((n : ℕ) → n ≢ (at - 1) / 64 → word_at words' n ≡ word_at words n)
    → TellBut words marks at → TellBut words' marks ((at - 1) / 64)
clear_step words words' marks at some within has here others same tells k below but = elim (cases_eq k (at - 1)) [
  | inl is ↦
      let next : k + 1 ≡ at = omega (arith, is, some) in
      ap (λ (j : ℕ). is_marked words' j) is ∙ here ∙ sym has
      ∙ ap (λ (n : ℕ). is_set (word_at words n)) (sym next) ∙ ap is_set (sym (same (k + 1) but))
  | inr differs ↦
      others k differs ∙ tells k below (λ e. differs (omega (arith, e))) ∙ ap is_set (sym (same (k + 1) but))
]

-- what was said of the word above stays so
pub clear_tells : (words words' : List ℕ) (marks at : ℕ) → 0 < at → at ≤ marks
    → ((k : ℕ) → k ≢ at - 1 → is_marked words' k ≡ is_marked words k)
    → ((n : ℕ) → is_set (word_at words' n) ≡ true → is_set (word_at words n) ≡ true)
    → TellBut words marks at → TellsOfWord words' ((at - 1) / 64)
clear_tells words words' marks at some within others less tells above has =
    let up : ℕ = (at - 1) / 64 in
    let next : up - 1 + 1 ≡ up = omega (arith, above) in
    others (up - 1) (λ e. omega (arith, e, above, some))
    ∙ tells (up - 1) (omega (arith, above, within)) (λ e. omega (arith, e, above, some))
    ∙ ap (λ (n : ℕ). is_set (word_at words n)) next ∙ less up has

-- on top, all is told
pub tell_all : (words : List ℕ) (marks at : ℕ) → at ≤ 0 → TellBut words marks at → TellBelow words marks
tell_all words marks at top tells k below = tells k below (λ e. omega (arith, e, top))

-- where the word has a mark, too
pub tell_rest : (words : List ℕ) (marks at : ℕ) → is_set (word_at words at) ≡ true → TellsOfWord words at
    → TellBut words marks at → TellBelow words marks
tell_rest words marks at some of tells k below = elim (cases_eq (k + 1) at) [
  | inl is ↦
      let before : k ≡ at - 1 = omega (arith, is) in
      ap (λ (j : ℕ). is_marked words j) before ∙ of (omega (arith, is)) some ∙ sym some
      ∙ ap (λ (n : ℕ). is_set (word_at words n)) (sym is)
  | inr differs ↦ tells k below differs
]

-- ---- the mark of a lane is set, or cleared, and the words above it tell so

module _ (words words' last : List ℕ) (bottom levels lane : ℕ) (s : AreSummed words bottom levels) (room : bottom + lane / 64 < length words)
    (same : length words' ≡ length words) (same' : length last ≡ length words')
    (others : (k : ℕ) → k ≢ 64 * bottom + lane → is_marked words' k ≡ is_marked words k)
    (rest : (n : ℕ) → n ≢ (64 * bottom + lane) / 64 → word_at words' n ≡ word_at words n)
  where
    all_but : TellBut words' (64 * bottom) (bottom + lane / 64)
    all_but k below ne =
        others k (λ e. omega (arith, e, below)) ∙ s.tells k below ∙ ap is_set (sym (rest (k + 1) (λ e. ne (omega (arith, e)))))

    within : bottom + lane / 64 ≤ 64 * bottom
    within = let wide = s.wide in omega (arith, wide, room)

    pub set_all : is_marked words' (64 * bottom + lane) ≡ true
        → ((marks : ℕ) → bottom + lane / 64 ≤ marks → TellBut words' marks (bottom + lane / 64) → TellBelow last marks)
        → AreSummed last bottom levels
    set_all here tells = record {
      at = s.at;
      some = let some = s.some in omega (arith, some, same, same');
      wide = let wide = s.wide in omega (arith, wide, same, same');
      fits = let fits = s.fits in omega (arith, fits, same, same');
      tells = tells (64 * bottom) within all_but;
    }

    of_word : ((n : ℕ) → is_set (word_at words' n) ≡ true → is_set (word_at words n) ≡ true) → TellsOfWord words' (bottom + lane / 64)
    of_word less above has =
        let at = bottom + lane / 64 in
        let next : at - 1 + 1 ≡ at = omega (arith, above) in
        others (at - 1) (λ e. omega (arith, e, within, above))
        ∙ s.tells (at - 1) (omega (arith, within, above))
        ∙ ap (λ (n : ℕ). is_set (word_at words n)) next ∙ less at has

    pub clear_all : ((n : ℕ) → is_set (word_at words' n) ≡ true → is_set (word_at words n) ≡ true)
        → ((marks : ℕ) → bottom + lane / 64 ≤ marks → TellBut words' marks (bottom + lane / 64) → TellsOfWord words' (bottom + lane / 64)
        → TellBelow last marks)
        → AreSummed last bottom levels
    clear_all less tells = record {
      at = s.at;
      some = let some = s.some in omega (arith, some, same, same');
      wide = let wide = s.wide in omega (arith, wide, same, same');
      fits = let fits = s.fits in omega (arith, fits, same, same');
      tells = tells (64 * bottom) within all_but (of_word less);
    }

-- ---- from the top

-- where a word has a mark, the first word has one
top_set : (words : List ℕ) (marks fuel n : ℕ) → n ≤ fuel → TellBelow words marks → length words ≤ marks + 1
    → is_set (word_at words n) ≡ true → is_set (word_at words 0) ≡ true
top_set words marks fuel zero h tells most some = some
top_set words marks zero (suc n) h tells most some = absurd (omega (arith, h))
top_set words marks (suc fuel) (suc n) h tells most some =
    let within = set_within words (suc n) some in
    let next : n + 1 ≡ suc n = omega arith in
    top_set words marks fuel (n / 64) (omega (arith, h)) tells most
    (marked_word words n (tells n (omega (arith, within, most)) ∙ ap (λ (j : ℕ). is_set (word_at words j)) next ∙ some))

pub none_below_top : (words : List ℕ) (marks : ℕ) → TellBelow words marks → length words ≤ marks + 1 → is_set (word_at words 0) ≡ false
    → (k : ℕ) → is_marked words k ≡ false
none_below_top words marks tells most none k = over (is_set (word_at words (k / 64))) refl
  where
    over : (b : Bool) → is_set (word_at words (k / 64)) ≡ b → is_marked words k ≡ false
    over true h = absurd (false≢true (sym none ∙ top_set words marks (k / 64) (k / 64) (omega arith) tells most h))
    over false h = unmarked_word words k h

pub none_on_top : (words : List ℕ) (w : ℕ) → w ≡ get_or words 0 w → w ≡ 0 → is_set (word_at words 0) ≡ false
none_on_top [] w read is = refl
none_on_top (x ∷ xs) w read is = ap is_set (sym read ∙ is)

-- ---- down to the bottom

pub first_of_next : (n : ℕ) → first_of (n + 1) ≡ 64 * first_of n + 1
first_of_next n = let e : n + 1 ≡ suc n = omega arith in ap (λ (k : ℕ). first_of k) e

pub first_of_rises : (i n : ℕ) → i < n → first_of (i + 1) ≤ first_of n
first_of_rises i zero h = absurd (omega (arith, h))
first_of_rises i (suc n) h = elim (cases_eq i n) [
  | inl is ↦ let e = ap (λ (j : ℕ). first_of (j + 1)) is in let s = first_of_next n in omega (arith, e, s)
  | inr differs ↦ let low = first_of_rises i n (omega (arith, h, differs)) in omega (arith, low)
]

-- the word that the lowest mark tells of is the lowest that has any, one level down
pub down_below : (words : List ℕ) (marks low at mark : ℕ) → TellBelow words marks
    → mark < marks → 64 * at ≤ mark → mark < 64 * at + 64
    → ((n : ℕ) → low ≤ n → n < at → is_set (word_at words n) ≡ false)
    → ((k : ℕ) → 64 * at ≤ k → k < mark → is_marked words k ≡ false)
    → (n : ℕ) → 64 * low + 1 ≤ n → n < mark + 1 → is_set (word_at words n) ≡ false
down_below words marks low at mark tells within from to none unmarked n above below =
    let next : n - 1 + 1 ≡ n = omega (arith, above) in
    ap (λ (j : ℕ). is_set (word_at words j)) (sym next) ∙ sym (tells (n - 1) (omega (arith, within, below))) ∙ unset
  where
    unset : is_marked words (n - 1) ≡ false
    unset = elim (cases_lt (n - 1) (64 * at)) [
      | inl before ↦ unmarked_word words (n - 1) (none ((n - 1) / 64) (omega (arith, above)) (omega (arith, before)))
      | inr past ↦ unmarked (n - 1) past (omega (arith, below, above))
    ]
