-- How lists of words, and of answers, grow at their end.
use Rattle.std.proofs.Common.{◌≡◌, ℕ, zero, suc, ◌+◌, List, [], ◌∷◌, ◌++◌, length, flat_map, refl, sym, ap, subst, ◌∙◌, append_assoc, append-nil, arith, add-one, add-zero}
use Rattle.std.specs.List.{range_with_len}
use Rattle.std.proofs.lemmas.List.{flat_map_more}
use Rattle.iox_store.specs.Stored.{StoredMessage, copies, written_next}
use Rattle.iox_store.specs.Answering.{GivesInTurn}

copies-from : (words : List ℕ) (a n : ℕ)
    → flat_map (λ k. words) (range_with_len a (suc n)) ≡ flat_map (λ k. words) (range_with_len a n) ++ words
copies-from words a zero = append-nil words
copies-from words a (suc n) =
    ap (λ ws. words ++ ws) (copies-from words (a + 1) n)
    ∙ sym (append_assoc words (flat_map (λ k. words) (range_with_len (a + 1) n)) words)

-- one copy more stands behind the others
pub copies-more : (words : List ℕ) (n : ℕ) → copies words (n + 1) ≡ copies words n ++ words
copies-more words n = ap (copies words) (add-one n) ∙ copies-from words 0 n

-- one answer more
pub Answers-more : {F E : Type 0} (step : F → ℕ → E → F → Type 0) (f : F) (first : ℕ) (values : List E) (g : F) (value : E) (h : F)
    → GivesInTurn step f first values g → step g (first + length values) value h
    → GivesInTurn step f first (values ++ value ∷ []) h
Answers-more step f first [] g value h asked last =
    (h, subst (λ n. step f n value h) (add-zero first) (subst (λ x. step x (first + 0) value h) (sym asked) last), refl)
Answers-more step f first (x ∷ xs) g value h (after, now, asked) last =
    (after, now, Answers-more step after (suc first) xs g value h asked (subst (λ n. step g n value h) (omega arith) last))

abbrev with_words : StoredMessage → ℕ → List ℕ → StoredMessage
with_words y n ws = record y { filled = n; payload = ws }

-- one element more is filled
pub written-more : {E : Type 0} (words : E → List ℕ) (x y : StoredMessage) (values : List E) (value : E) (n : ℕ)
    → x ≡ record y { filled = n; payload = flat_map words values }
    → written_next x (words value) ≡ record y { filled = n + 1; payload = flat_map words (values ++ value ∷ []) }
written-more words x y values value n is =
    ap (λ s. written_next s (words value)) is
    ∙ ap (λ ws. with_words y (n + 1) ws) (flat_map_more words [] values value)
