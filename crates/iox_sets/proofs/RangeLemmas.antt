-- The numbers from one on, and one number more.
use Rattle.std.proofs.Common.{◌≡◌, ◌+◌, ◌++◌, ◌∷◌, [], ℕ, refl, ap, ◌∙◌, sym}
use Rattle.std.specs.List.{range_with_len}
use Rattle.std.proofs.lemmas.List.{map-id}
use Rattle.std.proofs.lemmas.List.FromFn.{map-range_with_len_more}

pub range_with_len-push : (from count : ℕ) → range_with_len from (count + 1) ≡ range_with_len from count ++ (from + count) ∷ []
range_with_len-push from count =
    sym (map-id (range_with_len from (count + 1)))
    ∙ map-range_with_len_more (λ n. n) from count (from + count) refl
    ∙ ap (λ numbers. numbers ++ (from + count) ∷ []) (map-id (range_with_len from count))
