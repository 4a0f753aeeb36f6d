-- The words of a line, cut at its first space.
use Rattle.std.proofs.Common.{◌≡◌, ℕ, ◌+◌, ◌<◌, ◌≤◌, false, List, [], ◌∷◌, ◌++◌, length, get_or, take, drop, All, refl, sym, ap, ◌∙◌, subst, take_all}
use Rattle.std.proofs.lemmas.List.{drop_more, take-append-drop}
use Rattle.std.proofs.lemmas.List.Splits.{slice_split_none, slice_split_at}
use Rattle.iox_script.specs.Lines.{is_space, words_of}

abbrev pub HasNoSpace : List ℕ → Type 0
HasNoSpace bytes = All (λ byte. is_space byte ≡ false) bytes

pub words_of-at : (line : List ℕ) (at : ℕ) → at < length line → get_or line at 0 ≡ 32 → HasNoSpace (take at line)
    → words_of line ≡ take at line ∷ words_of (drop (at + 1) line)
words_of-at line at within space none =
    let parts : line ≡ take at line ++ 32 ∷ drop (at + 1) line =
    sym (take-append-drop at line) ∙ ap (λ rest. take at line ++ rest) (drop_more line at 0 within ∙ ap (λ byte. byte ∷ drop (at + 1) line) space) in
    ap words_of parts ∙ slice_split_at is_space (take at line) 32 (drop (at + 1) line) none refl

pub words_of-none : (line : List ℕ) (at : ℕ) → length line ≤ at → HasNoSpace (take at line) → words_of line ≡ line ∷ []
words_of-none line at all none = slice_split_none is_space line (subst HasNoSpace (take_all at line all) none)
