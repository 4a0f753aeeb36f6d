-- What a line says: a command, or the first cause against it.
use Rattle.std.specs.Prelude.{ℕ, List, [], ◌∷◌, length, nat_lt, if◌then◌else◌, Option, Some, None, Result, Ok, Err}
use Rattle.iox_types.specs.declared.identifiers.system_id.UniqueSystemId.{UniqueSystemId}
use Rattle.iox_model.specs.declared.command.Command.TheVariants.{Join, Port}
use Rattle.iox_model.specs.declared.command.PortCommand.TheVariants as port_commands
use Rattle.iox_script.specs.Lines.{words_of}
use Rattle.iox_script.specs.Names.{keyword_of, key_of}
use Rattle.iox_script.specs.Numerals.{number_of, id_number_of, number_below, bytes_of}
use Rattle.iox_script.specs.declared.command.LineCause.{LineCause}
use Rattle.iox_script.specs.declared.command.LineCause.TheVariants.{TooLong, UnknownCommand, WrongCount}
use Rattle.iox_script.specs.declared.command.Keyword.{Keyword}
use Rattle.iox_script.specs.declared.command.Keyword.TheVariants as keywords
use Rattle.iox_script.specs.declared.command.ScriptCommand.{ScriptCommand}
use Rattle.iox_script.specs.declared.command.ScriptCommand.TheVariants.{Set, Create, Service}
use Rattle.iox_script.specs.Commands.{Options}

infixl 10 ◌>>=◌
-- the second step, if the first gave a value, so that the first bad word from the left is the cause
abbrev pub ◌>>=◌ : {A B : Type 0} → Result A LineCause → (A → Result B LineCause) → Result B LineCause
(Ok x) >>= f = f x
(Err cause) >>= f = Err cause

-- a setting's value: 0 for off, 1 for on
abbrev pub value_of : List ℕ → Result ℕ LineCause
value_of word = number_below 2 word

-- each word a number
abbrev pub numbers_of : List (List ℕ) → Result (List ℕ) LineCause
numbers_of [] = Ok []
numbers_of (word ∷ words) = do
  number ← number_of word
  numbers ← numbers_of words
  Ok (number ∷ numbers)

-- the four words of a node's id
abbrev pub id_of : List ℕ → List ℕ → List ℕ → List ℕ → Result UniqueSystemId LineCause
id_of process seconds nanoseconds counter = do
  p ← id_number_of process
  s ← id_number_of seconds
  n ← id_number_of nanoseconds
  c ← id_number_of counter
  Ok (record { process = p; seconds = s; nanoseconds = n; counter = c })

-- The id in the making of a port. Which one does not matter: a service gives a port the id with which
-- its node joined.
abbrev pub any_id : UniqueSystemId
any_id = record { process = 1; seconds = 0; nanoseconds = 0; counter = 0 }

-- what a port is made with: the greatest length of its messages, and nothing else
abbrev pub options_of : ℕ → Options
options_of limit = record {
  max_slice_len = limit;
  pool = None;
  strategy = None;
  allocation = None;
  loaned_responses = None;
  handler = None;
}

-- what a command's first word and the words behind it say
abbrev pub command_of : Keyword → List (List ℕ) → Result ScriptCommand LineCause
-- set KEY VALUE
command_of keywords.Set (key ∷ value ∷ []) = do
  k ← key_of key
  v ← value_of value
  Ok (Set k v)
-- create NAME PROCESS SECONDS NANOSECONDS COUNTER
command_of keywords.Create (name ∷ process ∷ seconds ∷ nanoseconds ∷ counter ∷ []) = do
  text ← bytes_of name
  id ← id_of process seconds nanoseconds counter
  Ok (Create text id)
-- open PROCESS SECONDS NANOSECONDS COUNTER
command_of keywords.Open (process ∷ seconds ∷ nanoseconds ∷ counter ∷ []) = do
  id ← id_of process seconds nanoseconds counter
  Ok (Service (Join id tt))
-- client NODE LIMIT
command_of keywords.Client (node ∷ limit ∷ []) = do
  n ← number_of node
  l ← number_of limit
  Ok (Service (Port (port_commands.Client n any_id (options_of l))))
-- server NODE LIMIT
command_of keywords.Server (node ∷ limit ∷ []) = do
  n ← number_of node
  l ← number_of limit
  Ok (Service (Port (port_commands.Server n any_id (options_of l))))
-- send-copy NODE NUMBER WORD..
command_of keywords.SendCopy (node ∷ number ∷ words) = do
  n ← number_of node
  k ← number_of number
  ws ← numbers_of words
  Ok (Service (Port (port_commands.SendCopy n k ws)))
-- receive NODE NUMBER
command_of keywords.Receive (node ∷ number ∷ []) = do
  n ← number_of node
  k ← number_of number
  Ok (Service (Port (port_commands.Receive n k)))
-- read NODE HANDLE
command_of keywords.Read (node ∷ handle ∷ []) = do
  n ← number_of node
  k ← number_of handle
  Ok (Service (Port (port_commands.Read n k)))
command_of _ _ = Err WrongCount

-- what the words behind a command's name say, if it is one
abbrev pub named : Option Keyword → List (List ℕ) → Result ScriptCommand LineCause
named None words = Err UnknownCommand
named (Some keyword) words = command_of keyword words

-- what the words of a line say, the first of them the command's name
abbrev pub said_by : List (List ℕ) → Result ScriptCommand LineCause
said_by [] = Err UnknownCommand
said_by (name ∷ words) = named (keyword_of name) words

-- the most bytes of a line
abbrev pub max_line : ℕ
max_line = 65536

-- what a line says
abbrev pub meaning : List ℕ → Result ScriptCommand LineCause
meaning line = if nat_lt max_line (length line) then Err TooLong else said_by (words_of line)
