-- The exit status of the program.
use Rattle.std.specs.Prelude.{ℕ, Result, Ok, Err}
use Rattle.iox_streams.specs.declared.fault.Fault.{Fault}
use Rattle.iox_streams.specs.declared.fault.Fault.TheVariants.{Read, Write, WantOfMemory}

-- the exit status: 0 at the script's end, 1 after a failed read or a script too long, 2 after a
-- failed write, 3 without memory
abbrev pub status_of : Result (Unit {0}) Fault → ℕ
status_of (Ok _) = 0
status_of (Err Read) = 1
status_of (Err Write) = 2
status_of (Err WantOfMemory) = 3
