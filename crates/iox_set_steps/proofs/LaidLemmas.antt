-- Words in which a value was laid are those before it, version 0, its own, and those behind it.
use Rattle.std.proofs.Common.{◌≡◌, ◌∙◌, ℕ, ◌+◌, ◌-◌, ◌<◌, ◌≤◌, ◌++◌, List, ◌∷◌, ap, sym, inl, inr, arith, suc, drop, get_or, length, take}
use Rattle.std.proofs.lemmas.Bool.{cases_eq, cases_lt}
use Rattle.std.proofs.lemmas.Grind.{same_number_lists}
use Rattle.std.proofs.lemmas.List.{get_or-append_right, get_or-drop, get_or-take, get_or_append_left, get_or_at, length-append, length-drop, length-take-le}
use Rattle.iox_set_steps.specs.TypedWords.{AreLaid, laid_words}

module _ (size base : ℕ) (list old new : List ℕ) (whole : length list ≡ size) (room : base + 1 + size ≤ length old)
    (laid : AreLaid size base list old new) where
  abbrev rest : List ℕ
  rest = drop (base + 1 + length list) old

  before : length (take base old) ≡ base
  before = length-take-le base old (omega arith)

  same_length : length new ≡ length (laid_words base list old)
  same_length =
      let front : length (laid_words base list old) ≡ length (take base old) + suc (length (list ++ rest))
      = length-append (take base old) (0 ∷ (list ++ rest)) in
      let back : length (list ++ rest) ≡ length list + length rest = length-append list rest in
      let behind : length rest ≡ length old - (base + 1 + length list) = length-drop (base + 1 + length list) old in
      omega (arith, laid.length_stays, before)

  -- a word from the value on
  from_value : (index : ℕ) → get_or (laid_words base list old) (base + 1 + index) 0 ≡ get_or (list ++ rest) index 0
  from_value index =
      let at : base + 1 + index - base ≡ suc index = omega arith in
      get_or-append_right (take base old) (0 ∷ (list ++ rest)) base (base + 1 + index) 0 before (omega arith)
      ∙ ap (λ k. get_or (0 ∷ (list ++ rest)) k 0) at

  of_value : (index : ℕ) → index < size → get_or new (base + 1 + index) 0 ≡ get_or (laid_words base list old) (base + 1 + index) 0
  of_value index below =
      laid.value index below ∙ sym (from_value index ∙ get_or_append_left list rest 0 index (omega arith))

  behind : (index : ℕ) → size ≤ index → get_or new (base + 1 + index) 0 ≡ get_or (laid_words base list old) (base + 1 + index) 0
  behind index past =
      let place : base + 1 + length list + (index - size) ≡ base + 1 + index = omega arith in
      laid.others (base + 1 + index) (inr (omega arith))
      ∙ sym (from_value index ∙ get_or-append_right list rest size index 0 whole past ∙ get_or-drop (base + 1 + length list) old (index - size) 0
      ∙ ap (λ k. get_or old k 0) place)

  past_version : (index : ℕ) → get_or new (base + 1 + index) 0 ≡ get_or (laid_words base list old) (base + 1 + index) 0
  past_version index = elim (cases_lt index size) [ inl below ↦ of_value index below | inr past ↦ behind index past ]

  each : (k : ℕ) → get_or new k 0 ≡ get_or (laid_words base list old) k 0
  each k = elim (cases_lt k base) [
    | inl below ↦ laid.others k (inl below) ∙ sym (get_or_append_left (take base old) _ 0 k (omega (arith, before)) ∙ get_or-take base old k 0 below)
    | inr from ↦ elim (cases_eq k base) [
      | inl here ↦ ap (λ p. get_or new p 0) here ∙ laid.version ∙ sym (get_or_at (take base old) 0 (list ++ rest) 0 k (before ∙ sym here))
      | inr apart ↦ (let at : base + 1 + (k - (base + 1)) ≡ k = omega arith in
          ap (λ p. get_or new p 0) (sym at) ∙ past_version (k - (base + 1)) ∙ ap (λ p. get_or (laid_words base list old) p 0) at)
    ]
  ]

  pub laid_are : new ≡ laid_words base list old
  laid_are = same_number_lists new (laid_words base list old) same_length (λ k below. each k)
