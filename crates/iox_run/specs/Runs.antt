-- What the program reads and writes.
use Rattle.std.specs.Prelude.{◌≡◌, ◌⊎◌, ℕ, ◌^◌, ◌≤◌, List, ◌++◌, length, take, Option, Result, Ok, Err}
use Rattle.std.specs.Io.KnownBytes.{Appends, Consumes, IsAtEnd}
use Rattle.iox_script.specs.Lines.{lines_of, ended_lines}
use Rattle.iox_run.specs.Answers.{IsTextOf, IsTextOfLines}
use Rattle.iox_streams.specs.declared.fault.Fault.{Fault}
use Rattle.iox_streams.specs.declared.fault.Fault.TheVariants.{Read, Write, WantOfMemory}

-- the most bytes of a script
abbrev pub max_script : ℕ
max_script = 2 ^ 32

-- the bytes are a beginning of the text, or all of it
abbrev pub IsBeginningOf : List ℕ → List ℕ → Type 0
IsBeginningOf bytes text = (rest : List ℕ) × (text ≡ bytes ++ rest)

-- the bytes are a beginning of a text that answers these lines, or all of it
abbrev pub BeginsTextOfLines : List (List ℕ) → List ℕ → Type 0
BeginsTextOfLines lines bytes =
    (text : List ℕ) × IsTextOfLines lines text × IsBeginningOf bytes text

-- What was sent where a fault stopped the program before the end of its script: only answers to
-- lines that had ended.
abbrev pub Stops : Fault → List ℕ → List ℕ → Type 0
-- a read failed, or the script was too long: the answers to all lines that had ended
Stops Read script sent = IsTextOfLines (ended_lines (take max_script script)) sent
-- a write failed: a beginning of the answers to the first of those lines
Stops Write script sent = (n : ℕ) × BeginsTextOfLines (take n (ended_lines script)) sent
-- there was no memory: the answers to the first of those lines
Stops WantOfMemory script sent = (n : ℕ) × IsTextOfLines (take n (ended_lines script)) sent

-- What was sent is what the script that was read asks for, given how the program ended.
abbrev pub AnswersScript : {E : Type 0} → (reader' : Option (List ℕ)) → Result E Fault → List ℕ → List ℕ → Type 0
-- at the script's end: the answers to the script
AnswersScript reader' (Ok _) script sent = (length script ≤ max_script) × IsTextOf script sent
-- After a fault: answers to lines that had ended. Or the whole script was read, and a write failed
-- after a beginning of its answers.
AnswersScript reader' (Err fault) script sent =
    Stops fault script sent
    ⊎ (IsAtEnd reader' × (fault ≡ Write) × BeginsTextOfLines (lines_of script) sent)

-- The program takes a script from the front of the reader's bytes and appends its answers to the
-- writer's, and does nothing else. The bytes are `None` where they are not known.
abbrev pub Plays : {E : Type 0} → (reader reader' writer writer' : Option (List ℕ))
    → Result E Fault → Type 0
Plays reader reader' writer writer' result =
    (script : List ℕ) × (sent : List ℕ) × Consumes reader reader' script × Appends writer writer' sent
    × AnswersScript reader' result script sent
