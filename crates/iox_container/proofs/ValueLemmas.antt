-- Values with the same words are the same value.
use Rattle.std.proofs.Common.{◌≡◌, ◌<◌, ℕ, List, Option, Some, length, get_or, ap, sym, ◌∙◌, arith}
use Rattle.std.proofs.lemmas.List.{get_or_default, same_lists}
use Rattle.iox_words.specs.WordLists.{AreWords}

module _ {V : Type 0} (count : ℕ) (is_value : V → Type 0) (words : V → List ℕ) (is_words : List ℕ → Type 0)
    (of_words : List ℕ → Option V) (laws : AreWords count is_value words is_words of_words) where
  pub length-words : (value : V) → is_value value → length (words value) ≡ count
  length-words value is = laws.counted (words value) (laws.meets value is)

  pub same_value : (a b : V) → is_value a → is_value b
      → ((k : ℕ) → k < count → get_or (words a) k 0 ≡ get_or (words b) k 0) → a ≡ b
  same_value a b is_a is_b same =
      let size_a = length-words a is_a in
      let size_b = length-words b is_b in
      let lists : words a ≡ words b = same_lists (words a) (words b) (omega arith) (λ k default below.
      let within_b : k < length (words b) = omega arith in
      get_or_default (words a) k default 0 below ∙ same k (omega arith)
      ∙ get_or_default (words b) k 0 default within_b) in
      let both : Some a ≡ Some b = sym (laws.back a is_a) ∙ ap of_words lists ∙ laws.back b is_b in
      cc
