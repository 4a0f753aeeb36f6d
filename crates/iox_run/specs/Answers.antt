-- The text that answers a script: that of replies which the machine may give.
use Rattle.std.specs.Prelude.{◌≡◌, ℕ, ◌+◌, List, [], ◌∷◌, ◌++◌, map, Result, Ok, Err}
use Rattle.iox_script.specs.declared.command.LineCause.{LineCause}
use Rattle.iox_script.specs.declared.command.ScriptCommand.{ScriptCommand}
use Rattle.iox_script.specs.declared.reply.ScriptReply.{ScriptReply}
use Rattle.iox_script.specs.Lines.{lines_of}
use Rattle.iox_script.specs.Grammar.{meaning}
use Rattle.iox_script.specs.Texts.{reply_text, bad_line_text, as_line}
use Rattle.iox_session.specs.SessionStates.{SessionState, new_session}
use Rattle.iox_session.specs.Sessions.{IsPlayed}

-- From m, what a line says may be answered so, and then leaves m'.
abbrev pub IsLineAnswered : SessionState → Result ScriptCommand LineCause
    → Result ScriptReply LineCause → SessionState → Type 0
-- the machine replies to a command
IsLineAnswered m (Ok command) (Ok reply) m' = IsPlayed m command reply m'
-- a line that says none is answered by its cause, and changes nothing
IsLineAnswered m (Err cause) (Err told) m' = (told ≡ cause) × (m' ≡ m)
IsLineAnswered m _ _ m' = ⊥

-- From m, what the lines say may be answered so, in order, and then leaves m'.
abbrev pub AreReplies : SessionState → List (Result ScriptCommand LineCause)
    → List (Result ScriptReply LineCause) → SessionState → Type 0
AreReplies m [] [] m' = m' ≡ m
AreReplies m (said ∷ saids) (answer ∷ answers) m' =
    (mid : SessionState) × IsLineAnswered m said answer mid × AreReplies mid saids answers m'
AreReplies m _ _ m' = ⊥

-- the answer to the line of that number
abbrev pub answer_text : ℕ → Result ScriptReply LineCause → List ℕ
answer_text number (Ok reply) = as_line (reply_text reply)
answer_text number (Err cause) = as_line (bad_line_text number cause)

-- the answers to lines numbered from `number` on
abbrev pub answer_texts : ℕ → List (Result ScriptReply LineCause) → List ℕ
answer_texts number [] = []
answer_texts number (answer ∷ answers) = answer_text number answer ++ answer_texts (number + 1) answers

-- the text answers these lines, played from a new session on
abbrev pub IsTextOfLines : List (List ℕ) → List ℕ → Type 0
IsTextOfLines lines text =
    (answers : List (Result ScriptReply LineCause)) × (left : SessionState)
    × AreReplies new_session (map meaning lines) answers left × (text ≡ answer_texts 1 answers)

-- the text answers this script
abbrev pub IsTextOf : List ℕ → List ℕ → Type 0
IsTextOf script text = IsTextOfLines (lines_of script) text
