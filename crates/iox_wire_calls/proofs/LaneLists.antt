-- How often a lane is among those of entries.
use Rattle.std.specs.Prelude.{filter, map, not, ◌&&◌, ◌++◌}
use Rattle.std.proofs.Common.{◌≡◌, ℕ, ◌+◌, Bool, true, false, if◌then◌else◌, ◌==◌, List, [], ◌∷◌, Some, refl, ap, sym, subst, ◌∙◌, arith, eqb-true}
use Rattle.iox_model.specs.Maps.{AreDistinct, has_number}
use Rattle.iox_laws.proofs.WeaveLaws.WholeLemmas.{some-is}
use Rattle.iox_laws.proofs.WeaveLedger.Truths.{none-some, or-false}
use Rattle.iox_wire_steps.specs.Entry.{Entry}
use Rattle.iox_wire_steps.specs.Tables.{entry_at, with_entry, without_entry}
use Rattle.iox_wire_steps.specs.Uses.{how_often}
use Rattle.iox_wire_calls.specs.Lanes.{has_own_lane, lanes_in}

module _ (port lane : ℕ) where
  -- how often the lane is among those of the entries
  abbrev pub often : List Entry → ℕ
  often es = how_often lane (lanes_in port es)

  abbrev pub one : Entry → ℕ
  one e = often (e ∷ [])

  flat : (a b : ℕ) → a + b ≡ (a + 0) + b
  flat a b = omega arith

  zero_on : (a : ℕ) → a ≡ 0 + a
  zero_on a = omega arith

  pub front : (e : Entry) (es : List Entry) → often (e ∷ es) ≡ one e + often es
  front e es = by_test (has_own_lane e.kind && (e.port == port))
    where
      by_test : (b : Bool)
          → how_often lane (map (λ (k : Entry). k.lane) (if b then e ∷ filter (λ (k : Entry). has_own_lane k.kind && (k.port == port)) es
          else filter (λ (k : Entry). has_own_lane k.kind && (k.port == port)) es))
          ≡ how_often lane (map (λ (k : Entry). k.lane) (if b then e ∷ [] else [])) + often es
      by_test true = flat (if e.lane == lane then 1 else 0) (often es)
      by_test false = zero_on (often es)

  pub both : (xs ys : List Entry) → often (xs ++ ys) ≡ often xs + often ys
  both [] ys = zero_on (often ys)
  both (x ∷ xs) ys = front x (xs ++ ys) ∙ later (one x) (often xs) (often ys) _ (both xs ys) ∙ ap (λ k. k + often ys) (sym (front x xs))
    where
      later : (a b c d : ℕ) → d ≡ b + c → a + d ≡ (a + b) + c
      later a b c d is = omega (arith, is)

  abbrev numbers_in : List Entry → List ℕ
  numbers_in es = map (λ e. e.number) es

  none_lost : (e : Entry) (es : List Entry) → has_number e.number (numbers_in es) ≡ false → without_entry e es ≡ es
  none_lost e [] none = refl
  none_lost e (k ∷ ks) none =
      let parts = or-false (k.number == e.number) (has_number e.number (numbers_in ks)) none in
      ap (λ b. if not b then k ∷ without_entry e ks else without_entry e ks) parts.0 ∙ ap (λ qs. k ∷ qs) (none_lost e ks parts.1)

  -- one entry less
  pub less : (e : Entry) (es : List Entry) → entry_at e.number es ≡ Some e → AreDistinct (numbers_in es) → often es ≡ one e + often (without_entry e es)
  less e [] there apart = none-some e there
  less e (k ∷ ks) there apart = by_number (k.number == e.number) refl there (λ found. less e ks found apart.1)
    where
      swap : (a b c d : ℕ) → d ≡ b + c → a + d ≡ b + (a + c)
      swap a b c d is = omega (arith, is)

      by_number : (b : Bool) → (k.number == e.number) ≡ b → (if b then Some k else entry_at e.number ks) ≡ Some e
          → (entry_at e.number ks ≡ Some e → often ks ≡ one e + often (without_entry e ks))
          → often (k ∷ ks) ≡ one e + often (if not b then k ∷ without_entry e ks else without_entry e ks)
      by_number true is found later =
          front k ks ∙ ap (λ q. one q + often ks) (some-is k e found)
          ∙ ap (λ qs. one e + often qs) (sym (none_lost e ks (subst (λ m. has_number m (numbers_in ks) ≡ false) (eqb-true k.number e.number is) apart.0)))
      by_number false is found later =
          front k ks ∙ swap (one k) (one e) (often (without_entry e ks)) (often ks) (later found) ∙ ap (λ m. one e + m) (sym (front k (without_entry e ks)))

  -- an entry in place of another one
  pub put : (q e : Entry) → q.number ≡ e.number → one q ≡ one e → (es : List Entry) → entry_at e.number es ≡ Some e → often (with_entry q es) ≡ often es
  put q e number same [] there = refl
  put q e number same (k ∷ ks) there = by_number (k.number == q.number) (k.number == e.number) (ap (λ i. k.number == i) number) there (put q e number same ks)
    where
      by_number : (b a : Bool) → b ≡ a → (if a then Some k else entry_at e.number ks) ≡ Some e
          → (entry_at e.number ks ≡ Some e → often (with_entry q ks) ≡ often ks) → often (if b then q ∷ ks else k ∷ with_entry q ks) ≡ often (k ∷ ks)
      by_number true true is found later =
          front q ks ∙ ap (λ m. m + often ks) same ∙ sym (front e ks) ∙ ap (λ j. often (j ∷ ks)) (sym (some-is k e found))
      by_number false false is found later = front k (with_entry q ks) ∙ ap (λ m. one k + m) (later found) ∙ sym (front k ks)
      by_number true false is found later = absurd (cc)
      by_number false true is found later = absurd (cc)
