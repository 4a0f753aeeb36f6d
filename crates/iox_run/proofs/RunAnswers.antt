-- The answers to lines that some more follow, and what the bytes of a line that are kept tell.
use Rattle.std.proofs.Common.{◌≡◌, ℕ, ◌+◌, ◌-◌, List, [], ◌∷◌, ◌++◌, map, length, take, Result, refl, sym, ap, subst, ◌∙◌, inl, inr, append_assoc, append-nil, arith}
use Rattle.std.proofs.lemmas.Bool.{cases_lt}
use Rattle.std.proofs.lemmas.List.{map-append, length-take, take_all, take_at, take-append-le, nil_from_length}
use Rattle.std.proofs.Math.Seq.{take-append-add}
use Rattle.iox_script.specs.declared.command.LineCause.{LineCause}
use Rattle.iox_script.specs.declared.command.ScriptCommand.{ScriptCommand}
use Rattle.iox_script.specs.declared.reply.ScriptReply.{ScriptReply}
use Rattle.iox_script.specs.Lines.{ended_lines}
use Rattle.iox_script.specs.Grammar.{meaning}
use Rattle.iox_script.proofs.LineLemmas.{ended_lines-append, meaning-take}
use Rattle.iox_session.specs.SessionStates.{SessionState}
use Rattle.iox_run.specs.Answers.{IsLineAnswered, AreReplies, answer_text, answer_texts}
use Rattle.iox_run.specs.Standings.{kept}

-- one line more
pub AreReplies-push : (m : SessionState) (saids : List (Result ScriptCommand LineCause)) (answers : List (Result ScriptReply LineCause)) (mid : SessionState) (said : Result ScriptCommand LineCause) (answer : Result ScriptReply LineCause) (m' : SessionState)
    → AreReplies m saids answers mid → IsLineAnswered mid said answer m'
    → AreReplies m (saids ++ said ∷ []) (answers ++ answer ∷ []) m'
AreReplies-push m [] [] mid said answer m' played next =
    (m', subst (λ s. IsLineAnswered s said answer m') played next, refl)
AreReplies-push m (first ∷ saids) (told ∷ answers) mid said answer m' played next =
    (played.0, played.1, AreReplies-push played.0 saids answers mid said answer m' played.2 next)
AreReplies-push m [] (told ∷ answers) mid said answer m' played next = absurd played
AreReplies-push m (first ∷ saids) [] mid said answer m' played next = absurd played

-- each line has one answer
pub AreReplies-length : (m : SessionState) (saids : List (Result ScriptCommand LineCause)) (answers : List (Result ScriptReply LineCause)) (m' : SessionState)
    → AreReplies m saids answers m' → length answers ≡ length saids
AreReplies-length m [] [] m' played = refl
AreReplies-length m (first ∷ saids) (told ∷ answers) m' played =
    let rest : length answers ≡ length saids = AreReplies-length played.0 saids answers m' played.2 in
    omega (arith, rest)
AreReplies-length m [] (told ∷ answers) m' played = absurd played
AreReplies-length m (first ∷ saids) [] m' played = absurd played

-- the text of one answer more
pub answer_texts-push : (number : ℕ) (answers : List (Result ScriptReply LineCause)) (answer : Result ScriptReply LineCause)
    → answer_texts number (answers ++ answer ∷ [])
    ≡ answer_texts number answers ++ answer_text (number + length answers) answer
answer_texts-push number [] answer =
    let same : number ≡ number + 0 = omega arith in
    append-nil (answer_text number answer) ∙ ap (λ n. answer_text n answer) same
answer_texts-push number (first ∷ answers) answer =
    let count : number + 1 + length answers ≡ number + length (first ∷ answers) = omega arith in
    let front = answer_text number first in
    let next = answer_texts (number + 1) answers in
    ap (λ t. front ++ t) (answer_texts-push (number + 1) answers answer ∙ ap (λ n. next ++ answer_text n answer) count)
    ∙ sym (append_assoc front next (answer_text (number + length (first ∷ answers)) answer))

-- what the lines with one more say
pub saids-push : (lines : List (List ℕ)) (line : List ℕ)
    → map meaning (lines ++ line ∷ []) ≡ map meaning lines ++ meaning line ∷ []
saids-push lines line = map-append meaning lines (line ∷ [])

-- the lines of a script that have ended are the first that have where it continues
pub ended_lines_are_first : (a b : List ℕ)
    → ended_lines a ≡ take (length (ended_lines a)) (ended_lines (a ++ b))
ended_lines_are_first a b =
    let n = length (ended_lines a) in
    sym (ap (take n) (ended_lines-append a b) ∙ take_at (ended_lines a) _ n refl)

-- a line says what its kept bytes say
pub meaning-kept : (line : List ℕ) → meaning (kept line) ≡ meaning line
unfolding kept
meaning-kept line = meaning-take line

pub kept-nil : kept [] ≡ []
unfolding kept
kept-nil = refl

-- a line with a byte keeps one
pub nil_from_kept : (line : List ℕ) → kept line ≡ [] → line ≡ []
unfolding kept
nil_from_kept line none =
    let count : length (take 65537 line) ≡ 0 = ap length none in
    nil_from_length line (omega (arith, length-take 65537 line))

-- the kept bytes of a line that grows
pub kept-append : (line more : List ℕ)
    → kept line ++ take (65537 - length (kept line)) more ≡ kept (line ++ more)
unfolding kept
kept-append line more =
    elim (cases_lt (length line) 65537) [
      | inl short ↦
          let all : take 65537 line ≡ line = take_all 65537 line (omega arith) in
          let room : length line + (65537 - length line) ≡ 65537 = omega arith in
          ap (λ front. front ++ take (65537 - length front) more) all
          ∙ sym (take-append-add line more (65537 - length line)) ∙ ap (λ n. take n (line ++ more)) room
      | inr long ↦
          let full : 65537 - length (take 65537 line) ≡ 0 = omega (arith, length-take 65537 line) in
          ap (λ n. take 65537 line ++ take n more) full ∙ append-nil (take 65537 line)
          ∙ sym (take-append-le 65537 line more long)
    ]
