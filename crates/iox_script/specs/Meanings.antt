-- What a parse may answer to a line.
use Rattle.std.specs.Prelude.{◌≡◌, ℕ, List, ◌∷◌, Result, Ok, Err, IsOk}
use Rattle.iox_script.specs.declared.command.LineCause.{LineCause}
use Rattle.iox_script.specs.declared.parser.ParseError.{ParseError}
use Rattle.iox_script.specs.declared.parser.ParseError.TheVariants.{Bad, WantOfMemory}

-- A parse gives what the line says. Memory runs out only for a line that says a command.
abbrev pub IsMeaning : {A : Type 0} → Result A ParseError → Result A LineCause → Type 0
IsMeaning (Ok command) said = said ≡ Ok command
IsMeaning (Err (Bad cause)) said = said ≡ Err cause
IsMeaning (Err WantOfMemory) said = IsOk said

-- ---- only for proofs of this crate

-- a number before those that further words say
abbrev pub number_and : ℕ → Result (List ℕ) LineCause → Result (List ℕ) LineCause
number_and number (Ok more) = Ok (number ∷ more)
number_and number (Err cause) = Err cause
