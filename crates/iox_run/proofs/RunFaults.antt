-- What was sent, where a run ends or stops.
use Rattle.std.proofs.Common.{◌≡◌, ◌≢◌, ℕ, List, [], ◌∷◌, ◌++◌, length, take, Result, Ok, Err, inr, refl, sym, ap, subst, ◌∙◌, append_assoc, append-nil, arith}
use Rattle.iox_script.specs.Lines.{ended_lines, rest_of, line_of_rest, lines_of}
use Rattle.iox_script.proofs.LineLemmas.{lines_of-ended, ended_lines-append_line}
use Rattle.iox_streams.specs.declared.fault.Fault.{Fault}
use Rattle.iox_streams.specs.declared.fault.Fault.TheVariants.{WantOfMemory, Write}
use Rattle.iox_run.specs.declared.run.player.Player.{Player}
use Rattle.iox_session.specs.Shown.{session_of}
use Rattle.iox_run.specs.Answers.{IsTextOfLines, IsTextOf}
use Rattle.iox_run.specs.Runs.{IsBeginningOf, Stops}
use Rattle.iox_streams.specs.Writes.{SendsAll}
use Rattle.iox_run.specs.Standings.{kept, IsAsFar, Goes, Finishes}
use Rattle.iox_run.proofs.RunAnswers.{ended_lines_are_first, nil_from_kept, kept-nil}

-- bytes before a beginning of some more, and before some more of a beginning
IsBeginningOf-append : (sent more waits text : List ℕ) → IsBeginningOf more waits
    → IsBeginningOf (sent ++ waits) text → IsBeginningOf (sent ++ more) text
IsBeginningOf-append sent more waits text begins whole = (
  begins.0 ++ whole.0,
  whole.1 ∙ ap (λ t. (sent ++ t) ++ whole.0) begins.1
      ∙ ap (λ t. t ++ whole.0) (sym (append_assoc sent more begins.0))
      ∙ append_assoc (sent ++ more) begins.0 whole.0,
)

-- all that was sent and waits answers the lines that have ended
pub ended_answered : (script sent : List ℕ) (player : Player) → IsAsFar script sent player
    → IsTextOfLines (ended_lines script) (sent ++ player.answers.items)
ended_answered script sent player stands = (stands.replies, session_of player.session, stands.played, stands.answers)

-- and so the first lines of a script that continues
first_answered : (script rest whole sent : List ℕ) (player : Player) → script ++ rest ≡ whole
    → IsAsFar script sent player
    → IsTextOfLines (take (length (ended_lines script)) (ended_lines whole)) (sent ++ player.answers.items)
first_answered script rest whole sent player is stands =
    let first = ended_lines_are_first script rest ∙ ap (λ s. take (length (ended_lines script)) (ended_lines s)) is in
    subst (λ lines. IsTextOfLines lines (sent ++ player.answers.items)) first (ended_answered script sent player stands)

-- a write failed after a beginning of what is waiting
pub write_failed : (script rest whole sent more : List ℕ) (player : Player) → script ++ rest ≡ whole
    → IsAsFar script sent player → IsBeginningOf more player.answers.items
    → Stops Write whole (sent ++ more)
write_failed script rest whole sent more player is stands begins =
    let text : List ℕ = sent ++ player.answers.items in (
      length (ended_lines script),
      (
        text,
        first_answered script rest whole sent player is stands,
        IsBeginningOf-append sent more player.answers.items text begins ([], sym (append-nil text)),
      ),
    )

-- memory ran out after all that waits was sent
pub memory_ran_out : (script rest whole sent more : List ℕ) (player : Player) → script ++ rest ≡ whole
    → IsAsFar script sent player → more ≡ player.answers.items
    → Stops WantOfMemory whole (sent ++ more)
memory_ran_out script rest whole sent more player is stands all = (
  length (ended_lines script),
  subst (λ t. IsTextOfLines (take (length (ended_lines script)) (ended_lines whole)) (sent ++ t)) (sym all) (first_answered script rest whole sent player is stands),
)

-- all is answered of a script whose last line has ended
pub all_answered : (script sent : List ℕ) (player : Player) → IsAsFar script sent player → player.line.items ≡ []
    → IsTextOf script (sent ++ player.answers.items)
all_answered script sent player stands whole =
    subst (λ lines. IsTextOfLines lines (sent ++ player.answers.items))
    (sym (lines_of-ended script (nil_from_kept (rest_of script) (sym stands.line ∙ whole))))
    (ended_answered script sent player stands)

line_of_some : (rest : List ℕ) → rest ≢ [] → line_of_rest rest ≡ rest ∷ []
line_of_some [] some = absurd (some refl)
line_of_some (byte ∷ bytes) some = refl

-- a line feed ends the last line of a script that ends with none
pub ended_lines-feed : (script : List ℕ) → rest_of script ≢ []
    → ended_lines (script ++ 10 ∷ []) ≡ lines_of script
ended_lines-feed script some =
    ended_lines-append_line script [] [] (λ k d within. absurd (omega (arith, within)))
    ∙ ap (λ line. ended_lines script ++ line ∷ []) (append-nil (rest_of script))
    ∙ ap (λ lines. ended_lines script ++ lines) (sym (line_of_some (rest_of script) some))

-- and then all is answered of the script
pub last_answered : (script sent : List ℕ) (player ended : Player) → IsAsFar script sent player
    → player.line.items ≢ [] → Goes (10 ∷ []) [] player ended → IsTextOf script (sent ++ ended.answers.items)
last_answered script sent player ended stands some goes =
    let rest_is : rest_of script ≢ [] = λ nil. some (stands.line ∙ ap kept nil ∙ kept-nil) in
    let whole = ended_answered (script ++ 10 ∷ []) (sent ++ []) ended (goes script sent stands) in
    subst (λ lines. IsTextOfLines lines (sent ++ ended.answers.items)) (ended_lines-feed script rest_is)
    (subst (λ s. IsTextOfLines (ended_lines (script ++ 10 ∷ [])) (s ++ ended.answers.items)) (append-nil sent) whole)

-- the last answers were sent, or a beginning of them
pub Finishes-sent : (player : Player) (last : List ℕ) (result : Result (Unit {0}) Fault) (more : List ℕ)
    → ((script sent : List ℕ) → IsAsFar script sent player → IsTextOf script (sent ++ last))
    → SendsAll last result more
    → Finishes player result more
Finishes-sent player last (Ok _) more text all script sent stands none short reader end =
    (short, subst (λ t. IsTextOf script (sent ++ t)) (sym all) (text script sent stands))
Finishes-sent player last (Err fault) more text all script sent stands none short reader end = inr (
  end,
  all.0,
  (
    sent ++ last,
    text script sent stands,
    IsBeginningOf-append sent more last (sent ++ last) all.1 ([], sym (append-nil (sent ++ last))),
  ),
)
