-- What entries of a schedule make of a machine of bits, as a function.
use Rattle.std.specs.Prelude.{List}
use Rattle.iox_steps.specs.declared.machine.Entry.{Entry}
use Rattle.iox_set_steps.specs.declared.bit_set.BitCall.{BitCall}
use Rattle.iox_set_steps.specs.BitPlays.{bit_kind}
use Rattle.iox_set_steps.specs.BitMachines.{SitedBits}
use Rattle.iox_set_steps.specs.SitedMachines.{sited_after}

-- the machine after all entries
abbrev pub bits_after : SitedBits → List (Entry BitCall) → SitedBits
bits_after = sited_after bit_kind
