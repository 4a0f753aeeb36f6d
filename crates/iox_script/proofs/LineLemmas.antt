-- How the lines of a script grow, and that a line's first bytes tell what it says.
use Rattle.std.proofs.Common.{◌≡◌, ℕ, ◌+◌, ◌-◌, ◌<◌, ◌≤◌, Bool, true, false, not, List, [], ◌∷◌, ◌++◌, reverse, length, take, drop, All, cond, suc, refl, sym, ap, ap₂, subst, ◌∙◌, inl, inr, append_assoc, append-nil, length-append, arith}
use Rattle.std.specs.List.{prefix_len, suffix_len}
use Rattle.std.proofs.lemmas.Bool.{cases_Bool, cases_lt, cond-true, cond-false, not_from_false, eqb-true, lt-ltb}
use Rattle.std.proofs.lemmas.List.{drop-drop, drop_at, take_all, length_push, length-take, length-reverse, reverse-append, get_or-reverse}
use Rattle.std.proofs.lemmas.List.Sums.{prefix_len-le-length}
use Rattle.std.proofs.lemmas.List.Elements.{All-nil, All-cons, All-head, All-tail, All-weaker, All-append}
use Rattle.std.proofs.lemmas.List.Splits.{slice_split_none, slice_split_at, length-slice_split}
use Rattle.iox_script.specs.Lines.{is_line_feed, pieces_of, ended_lines, rest_of, line_of_rest, lines_of}
use Rattle.iox_script.specs.Grammar.{max_line, meaning}

-- a byte ends no line
abbrev pub IsNoLineFeed : ℕ → Type 0
IsNoLineFeed byte = is_line_feed byte ≡ false

-- no byte ends a line
abbrev pub HasNoLineFeed : List ℕ → Type 0
HasNoLineFeed bytes = All IsNoLineFeed bytes

-- a script is a piece with no line feed, or such a piece, a line feed and a script
pub data Cut : List ℕ → Type 0 where
  unended : (p : List ℕ) → HasNoLineFeed p → Cut p
  ended : (p script : List ℕ) → HasNoLineFeed p → Cut script → Cut (p ++ 10 ∷ script)

cut-cons : (byte : ℕ) (script : List ℕ) → Cut script → Cut (byte ∷ script)
cut-cons byte script (unended p none) =
    elim (cases_Bool (is_line_feed byte)) [
      | inl here ↦ subst (λ b. Cut (b ∷ p)) (sym (eqb-true byte 10 here)) (ended [] p (All-nil IsNoLineFeed) (unended p none))
      | inr other ↦ unended (byte ∷ p) (All-cons IsNoLineFeed byte p other none)
    ]
cut-cons byte script (ended p rest none cut) =
    elim (cases_Bool (is_line_feed byte)) [
      | inl here ↦ subst (λ b. Cut (b ∷ (p ++ 10 ∷ rest))) (sym (eqb-true byte 10 here)) (ended [] (p ++ 10 ∷ rest) (All-nil IsNoLineFeed) (ended p rest none cut))
      | inr other ↦ ended (byte ∷ p) rest (All-cons IsNoLineFeed byte p other none) cut
    ]

pub cut_of : (script : List ℕ) → Cut script
cut_of [] = unended [] (All-nil IsNoLineFeed)
cut_of (byte ∷ script) = cut-cons byte script (cut_of script)

-- where no line feed stands, no line is ended
pub ended_lines-none : (p : List ℕ) → HasNoLineFeed p → ended_lines p ≡ []
ended_lines-none p none = ap (λ pieces. take (length pieces - 1) pieces) (slice_split_none is_line_feed p none)

-- a line feed ends the piece before it
pub ended_lines-line : (p script : List ℕ) → HasNoLineFeed p → ended_lines (p ++ 10 ∷ script) ≡ p ∷ ended_lines script
ended_lines-line p script none =
    let pieces = pieces_of script in
    let some : 0 < length pieces = omega (arith, length-slice_split is_line_feed script) in
    let less : suc (length pieces) - 1 ≡ suc (length pieces - 1) = omega arith in
    ap (λ all. take (length all - 1) all) (slice_split_at is_line_feed p 10 script none refl) ∙ ap (λ n. take n (p ∷ pieces)) less

prefix_len_all : (test : ℕ → Bool) (xs : List ℕ) → All (λ x. test x ≡ true) xs → prefix_len test xs ≡ length xs
prefix_len_all test [] all = refl
prefix_len_all test (x ∷ xs) all =
    let P : ℕ → Type 0 = λ byte. test byte ≡ true in
    let more : prefix_len test xs ≡ length xs = prefix_len_all test xs (All-tail P x xs all) in
    cond-true (test x) _ 0 (All-head P x xs all) ∙ omega arith

suffix_len_all : (test : ℕ → Bool) (xs : List ℕ) → All (λ x. test x ≡ true) xs → suffix_len test xs ≡ length xs
suffix_len_all test xs all =
    let turned : All (λ x. test x ≡ true) (reverse xs) =
    λ k d within. rw (get_or-reverse xs k d (omega (arith, length-reverse xs))) (all (length xs - 1 - k) d (omega (arith, length-reverse xs))) in
    prefix_len_all test (reverse xs) turned ∙ length-reverse xs

-- where no line feed stands, all is the rest
pub rest_of-none : (p : List ℕ) → HasNoLineFeed p → rest_of p ≡ p
rest_of-none p none =
    let other = λ (byte : ℕ). not (is_line_feed byte) in
    let all : suffix_len other p ≡ length p = suffix_len_all other p (All-weaker IsNoLineFeed (λ byte. other byte ≡ true) (λ byte differs. not_from_false _ differs) p none) in
    let place : length p - suffix_len other p ≡ 0 = omega arith in
    ap (λ k. drop k p) place

prefix_len-stopped : (test : ℕ → Bool) (xs : List ℕ) (y : ℕ) (ys : List ℕ) → test y ≡ false → prefix_len test (xs ++ y ∷ ys) ≡ prefix_len test xs
prefix_len-stopped test [] y ys stop = cond-false (test y) _ 0 stop
prefix_len-stopped test (x ∷ xs) y ys stop = ap (λ n. cond (test x) (1 + n) 0) (prefix_len-stopped test xs y ys stop)

-- a line feed begins the rest anew
pub rest_of-line : (p script : List ℕ) → rest_of (p ++ 10 ∷ script) ≡ rest_of script
rest_of-line p script =
    let other = λ (byte : ℕ). not (is_line_feed byte) in
    let turned : reverse (p ++ 10 ∷ script) ≡ reverse script ++ (10 ∷ reverse p) =
    reverse-append p (10 ∷ script) ∙ ap (λ zs. zs ++ reverse p) (reverse-append (10 ∷ []) script) ∙ append_assoc (reverse script) (10 ∷ []) (reverse p) in
    let same : suffix_len other (p ++ 10 ∷ script) ≡ suffix_len other script =
    ap (prefix_len other) turned ∙ prefix_len-stopped other (reverse script) 10 (reverse p) refl in
    let within : suffix_len other script ≤ length script = omega (arith, prefix_len-le-length other (reverse script), length-reverse script) in
    let front = length (p ++ 10 ∷ []) in
    let place : length (p ++ 10 ∷ script) - suffix_len other (p ++ 10 ∷ script) ≡ front + (length script - suffix_len other script) = omega (arith, length-append p (10 ∷ script), length_push p 10) in
    let n = length script - suffix_len other script in
    ap (λ k. drop k (p ++ 10 ∷ script)) place
    ∙ sym (drop-drop n front (p ++ 10 ∷ script))
    ∙ ap (λ ys. drop n (drop front ys)) (sym (append_assoc p (10 ∷ []) script))
    ∙ ap (drop n) (drop_at (p ++ 10 ∷ []) script front refl)

no_line_feed : (script : List ℕ) → Cut script → HasNoLineFeed (rest_of script)
no_line_feed script (unended p none) = subst HasNoLineFeed (sym (rest_of-none p none)) none
no_line_feed script (ended p rest none cut) = subst HasNoLineFeed (sym (rest_of-line p rest)) (no_line_feed rest cut)

-- the rest has no line feed
pub HasNoLineFeed-rest_of : (script : List ℕ) → HasNoLineFeed (rest_of script)
HasNoLineFeed-rest_of script = no_line_feed script (cut_of script)

ended-cut : (a b : List ℕ) → Cut a → ended_lines (a ++ b) ≡ ended_lines a ++ ended_lines (rest_of a ++ b)
ended-cut a b (unended p none) = rw (ended_lines-none p none, rest_of-none p none)
ended-cut a b (ended p rest none cut) =
    ap ended_lines (append_assoc p (10 ∷ rest) b) ∙ ended_lines-line p (rest ++ b) none ∙ ap (λ lines. p ∷ lines) (ended-cut rest b cut)
    ∙ ap₂ (λ lines last. lines ++ ended_lines (last ++ b)) (sym (ended_lines-line p rest none)) (sym (rest_of-line p rest))

rest-cut : (a b : List ℕ) → Cut a → rest_of (a ++ b) ≡ rest_of (rest_of a ++ b)
rest-cut a b (unended p none) = ap (λ last. rest_of (last ++ b)) (sym (rest_of-none p none))
rest-cut a b (ended p rest none cut) =
    ap rest_of (append_assoc p (10 ∷ rest) b) ∙ rest_of-line p (rest ++ b) ∙ rest-cut rest b cut ∙ ap (λ last. rest_of (last ++ b)) (sym (rest_of-line p rest))

-- the lines of two pieces: those of the first, then those that its rest and the second have
pub ended_lines-append : (a b : List ℕ) → ended_lines (a ++ b) ≡ ended_lines a ++ ended_lines (rest_of a ++ b)
ended_lines-append a b = ended-cut a b (cut_of a)

-- the rest of two pieces
pub rest_of-append : (a b : List ℕ) → rest_of (a ++ b) ≡ rest_of (rest_of a ++ b)
rest_of-append a b = rest-cut a b (cut_of a)

-- bytes with no line feed end no line, and only lengthen the rest
pub ended_lines-append_none : (a p : List ℕ) → HasNoLineFeed p → ended_lines (a ++ p) ≡ ended_lines a
ended_lines-append_none a p none =
    let still : HasNoLineFeed (rest_of a ++ p) = All-append IsNoLineFeed (rest_of a) p (HasNoLineFeed-rest_of a) none in
    ended_lines-append a p ∙ ap (λ lines. ended_lines a ++ lines) (ended_lines-none (rest_of a ++ p) still) ∙ append-nil (ended_lines a)

pub rest_of-append_none : (a p : List ℕ) → HasNoLineFeed p → rest_of (a ++ p) ≡ rest_of a ++ p
rest_of-append_none a p none =
    rest_of-append a p ∙ rest_of-none (rest_of a ++ p) (All-append IsNoLineFeed (rest_of a) p (HasNoLineFeed-rest_of a) none)

-- such bytes and a line feed end the line that the rest began
pub ended_lines-append_line : (a p b : List ℕ) → HasNoLineFeed p → ended_lines (a ++ (p ++ 10 ∷ b)) ≡ ended_lines a ++ (rest_of a ++ p) ∷ ended_lines b
ended_lines-append_line a p b none =
    let still : HasNoLineFeed (rest_of a ++ p) = All-append IsNoLineFeed (rest_of a) p (HasNoLineFeed-rest_of a) none in
    let joined = ap ended_lines (sym (append_assoc (rest_of a) p (10 ∷ b))) ∙ ended_lines-line (rest_of a ++ p) b still in
    ended_lines-append a (p ++ 10 ∷ b) ∙ ap (λ lines. ended_lines a ++ lines) joined

pub rest_of-append_line : (a p b : List ℕ) → rest_of (a ++ (p ++ 10 ∷ b)) ≡ rest_of b
rest_of-append_line a p b = ap rest_of (sym (append_assoc a p (10 ∷ b))) ∙ rest_of-line (a ++ p) b

-- an empty script has no lines
pub lines_of-nil : lines_of [] ≡ []
lines_of-nil = refl

-- the lines of a script that ends with a line feed, or is empty
pub lines_of-ended : (script : List ℕ) → rest_of script ≡ [] → lines_of script ≡ ended_lines script
lines_of-ended script whole = ap (λ last. ended_lines script ++ line_of_rest last) whole ∙ append-nil (ended_lines script)

-- whether a line is too long, and what another says, stands in its first 65,537 bytes
pub meaning-take : (line : List ℕ) → meaning (take 65537 line) ≡ meaning line
meaning-take line =
    elim (cases_lt max_line (length line)) [
      | inl long ↦ cond-true _ _ _ (lt-ltb max_line (length (take 65537 line)) (omega (arith, length-take 65537 line))) ∙ sym (cond-true _ _ _ (lt-ltb max_line (length line) long))
      | inr short ↦ ap meaning (take_all 65537 line (omega arith))
    ]
