-- What a send gives a writer.
use Rattle.std.specs.Prelude.{◌≡◌, ℕ, List, ◌++◌, Option, Result, Ok, Err}
use Rattle.std.specs.Io.KnownBytes.{Appends}
use Rattle.iox_streams.specs.declared.fault.Fault.{Fault}
use Rattle.iox_streams.specs.declared.fault.Fault.TheVariants.{Write}

-- what a call sent to the writer, and what is true of that
abbrev pub Sends : (writer writer' : Option (List ℕ)) → (List ℕ → Type 0) → Type 0
Sends writer writer' P = (more : List ℕ) × Appends writer writer' more × P more

-- all the bytes were written, or a beginning of them
abbrev pub SendsAll : List ℕ → Result (Unit {0}) Fault → List ℕ → Type 0
SendsAll bytes (Ok _) more = more ≡ bytes
SendsAll bytes (Err fault) more = (fault ≡ Write) × ((rest : List ℕ) × (bytes ≡ more ++ rest))
