-- The words of elements that have as many words each: how long they are, and where each element's are.
use Rattle.std.proofs.Common.{◌≡◌, ℕ, zero, suc, ◌+◌, ◌*◌, ◌<◌, List, [], ◌∷◌, ◌++◌, length, take, drop, flat_map, slice_set, slice_index_or, refl, sym, ap, ap₂, ◌∙◌, arith, length-append, suc-mul, zero-mul, add_comm, append_assoc}
use Rattle.std.proofs.Math.Seq.{take-append_seam, take-append-add, drop-append-add}
use Rattle.std.specs.Prelude.{All}
use Rattle.std.proofs.lemmas.List.{set_split}
use Rattle.std.proofs.lemmas.Grind.{flat_map-append}
use Rattle.std.proofs.lemmas.List.Concat.{flat_map-cons}

abbrev no_words : List ℕ
no_words = []

drop-none : (n : ℕ) → drop n no_words ≡ no_words
drop-none zero = refl
drop-none (suc n) = refl

take-none : (n : ℕ) → take n no_words ≡ no_words
take-none zero = refl
take-none (suc n) = refl

first : {E : Type 0} (x : E) (xs : List E) (width : ℕ) (words : E → List ℕ)
    → All (λ item. length (words item) ≡ width) (x ∷ xs) → length (words x) ≡ width
first x xs width words each = each 0 x (omega arith)

rest : {E : Type 0} (x : E) (xs : List E) (width : ℕ) (words : E → List ℕ)
    → All (λ item. length (words item) ≡ width) (x ∷ xs) → All (λ item. length (words item) ≡ width) xs
rest x xs width words each = λ k d within. each (suc k) d (omega arith)

pub length-words : {E : Type 0} (width : ℕ) (words : E → List ℕ) (items : List E)
    → All (λ item. length (words item) ≡ width) items → length (flat_map words items) ≡ length items * width
length-words width words [] each = sym (zero-mul width)
length-words width words (x ∷ xs) each =
    length-append (words x) (flat_map words xs)
    ∙ ap₂ (λ a b. a + b) (first x xs width words each) (length-words width words xs (rest x xs width words each))
    ∙ add_comm width (length xs * width) ∙ sym (suc-mul (length xs) width)

one_more : (width i : ℕ) (a : List ℕ) → length a ≡ width → suc i * width ≡ length a + i * width
one_more width i a e = suc-mul i width ∙ add_comm (i * width) width ∙ ap (λ n. n + i * width) (sym e)

pub drop-words : {E : Type 0} (width : ℕ) (words : E → List ℕ) (items : List E) (i : ℕ)
    → All (λ item. length (words item) ≡ width) items → drop (i * width) (flat_map words items) ≡ flat_map words (drop i items)
drop-words width words items zero each = ap (λ n. drop n (flat_map words items)) (zero-mul width)
drop-words width words [] (suc i) each = drop-none (suc i * width)
drop-words width words (x ∷ xs) (suc i) each =
    ap (λ n. drop n (words x ++ flat_map words xs)) (one_more width i (words x) (first x xs width words each))
    ∙ drop-append-add (words x) (flat_map words xs) (i * width)
    ∙ drop-words width words xs i (rest x xs width words each)

pub take-words : {E : Type 0} (width : ℕ) (words : E → List ℕ) (items : List E) (i : ℕ)
    → All (λ item. length (words item) ≡ width) items → take (i * width) (flat_map words items) ≡ flat_map words (take i items)
take-words width words items zero each = ap (λ n. take n (flat_map words items)) (zero-mul width)
take-words width words [] (suc i) each = take-none (suc i * width)
take-words width words (x ∷ xs) (suc i) each =
    ap (λ n. take n (words x ++ flat_map words xs)) (one_more width i (words x) (first x xs width words each))
    ∙ take-append-add (words x) (flat_map words xs) (i * width)
    ∙ ap (λ ys. words x ++ ys) (take-words width words xs i (rest x xs width words each))

-- the element of an index stands where its words are
pub words-at : {E : Type 0} (width : ℕ) (words : E → List ℕ) (items : List E) (i : ℕ) (d : E)
    → All (λ item. length (words item) ≡ width) items → i < length items
    → take width (drop (i * width) (flat_map words items)) ≡ words (slice_index_or items i d)
words-at width words [] i d each within = absurd (omega arith)
words-at width words (x ∷ xs) zero d each within =
    ap (λ n. take width (drop n (words x ++ flat_map words xs))) (zero-mul width)
    ∙ ap (λ n. take n (words x ++ flat_map words xs)) (sym (first x xs width words each))
    ∙ take-append_seam (words x) (flat_map words xs)
words-at width words (x ∷ xs) (suc i) d each within =
    ap (λ n. take width (drop n (words x ++ flat_map words xs))) (one_more width i (words x) (first x xs width words each))
    ∙ ap (take width) (drop-append-add (words x) (flat_map words xs) (i * width))
    ∙ words-at width words xs i d (rest x xs width words each) (omega arith)

-- another element there has its words there
pub words-set : {E : Type 0} (width : ℕ) (words : E → List ℕ) (items : List E) (i : ℕ) (value : E)
    → All (λ item. length (words item) ≡ width) items → i < length items
    → flat_map words (slice_set items i value)
    ≡ take (i * width) (flat_map words items) ++ words value ++ drop (suc i * width) (flat_map words items)
words-set width words items i value each within =
    ap (flat_map words) (set_split items i value within)
    ∙ flat_map-append words (take i items) (value ∷ drop (suc i) items)
    ∙ ap (λ ys. flat_map words (take i items) ++ ys) (flat_map-cons words value (drop (suc i) items))
    ∙ sym (append_assoc (flat_map words (take i items)) (words value) (flat_map words (drop (suc i) items)))
    ∙ ap (λ ys. flat_map words (take i items) ++ words value ++ ys) (sym (drop-words width words items (suc i) each))
    ∙ ap (λ xs. xs ++ words value ++ drop (suc i * width) (flat_map words items)) (sym (take-words width words items i each))
