-- Only for proofs of this crate: how far a player is in a script, and what each of its calls does.
use Rattle.std.specs.Prelude.{◌≡◌, ℕ, ◌+◌, ◌≤◌, List, [], ◌++◌, length, take, map, Option, Result, Ok, Err}
use Rattle.std.specs.Io.KnownBytes.{IsAtEnd}
use Rattle.iox_script.specs.declared.command.LineCause.{LineCause}
use Rattle.iox_script.specs.declared.command.ScriptCommand.{ScriptCommand}
use Rattle.iox_script.specs.declared.reply.ScriptReply.{ScriptReply}
use Rattle.iox_script.specs.Lines.{ended_lines, rest_of}
use Rattle.iox_script.specs.Grammar.{max_line, meaning}
use Rattle.iox_streams.specs.declared.fault.Fault.{Fault}
use Rattle.iox_run.specs.declared.run.player.Player.{Player}
use Rattle.iox_session.specs.SessionStates.{SessionState, new_session}
use Rattle.iox_session.specs.Shown.{session_of}
use Rattle.iox_run.specs.Answers.{IsLineAnswered, AreReplies, answer_text, answer_texts}
use Rattle.iox_run.specs.Runs.{Stops, AnswersScript, max_script}

-- The line of that number was answered: from m it left m', and its answer stands behind the text.
abbrev pub AnswersLine : ℕ → Result ScriptCommand LineCause → (m m' : SessionState)
    → (text text' : List ℕ) → Type 0
AnswersLine number said m m' text text' =
    (answer : Result ScriptReply LineCause) × IsLineAnswered m said answer m'
    × (text' ≡ text ++ answer_text number answer)

-- the bytes of a line that are kept: enough to know what the line says
unfoldable pub kept : List ℕ → List ℕ
kept line = take (max_line + 1) line

-- How far the player is once it has read this much of a script and sent these answers.
pub record IsAsFar (script sent : List ℕ) (player : Player) : Type 0 where
  pub replies : List (Result ScriptReply LineCause)
  pub played : AreReplies new_session (map meaning (ended_lines script)) replies (session_of player.session)
  pub count : player.count ≡ length (ended_lines script)
  pub line : player.line.items ≡ kept (rest_of script)
  pub answers : sent ++ player.answers.items ≡ answer_texts 1 replies

-- The player took these further bytes, and sent these further answers.
abbrev pub Goes : (bytes more : List ℕ) → (player player' : Player) → Type 0
Goes bytes more player player' = (script sent : List ℕ) → IsAsFar script sent player → IsAsFar (script ++ bytes) (sent ++ more) player'

-- nothing waits to be sent
abbrev pub IsSent : Player → Type 0
IsSent player = player.answers.items ≡ []

-- the player took the bytes before the rest
abbrev pub TakesUpTo : (rest bytes : List ℕ) → (player player' : Player) → Type 0
TakesUpTo rest bytes player player' = (front : List ℕ) × (bytes ≡ front ++ rest) × Goes front [] player player'

-- nothing changed but the answers
pub record Waits (player player' : Player) : Type 0 where
  pub session : player'.session ≡ player.session
  pub count : player'.count ≡ player.count
  pub line : player'.line.items ≡ player.line.items

-- the bytes were played; or a fault came, and what was sent is as `Stops` says
abbrev pub PlaysOn : List ℕ → (player player' : Player) → Result (Unit {0}) Fault → List ℕ → Type 0
PlaysOn bytes player player' (Ok _) more = Goes bytes more player player' × IsSent player'
PlaysOn bytes player player' (Err fault) more =
    (script sent : List ℕ) → IsAsFar script sent player → Stops fault (script ++ bytes) (sent ++ more)

-- the reader is at its end, and the whole script is answered
abbrev pub Finishes : Player → Result (Unit {0}) Fault → List ℕ → Type 0
Finishes player result more =
    (script sent : List ℕ) → IsAsFar script sent player → IsSent player → length script ≤ max_script
    → (reader : Option (List ℕ)) → IsAtEnd reader → AnswersScript reader result script (sent ++ more)
