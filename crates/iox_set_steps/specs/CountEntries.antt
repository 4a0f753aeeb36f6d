-- What entries of a schedule make of a machine of counts, as a function.
use Rattle.std.specs.Prelude.{List}
use Rattle.iox_steps.specs.declared.machine.Entry.{Entry}
use Rattle.iox_set_steps.specs.declared.counting_bit_set.CountCall.{CountCall}
use Rattle.iox_set_steps.specs.CountPlays.{count_kind}
use Rattle.iox_set_steps.specs.CountMachines.{SitedCounts}
use Rattle.iox_set_steps.specs.SitedMachines.{sited_after}

-- the machine after all entries
abbrev pub counts_after : SitedCounts → List (Entry CountCall) → SitedCounts
counts_after = sited_after count_kind
