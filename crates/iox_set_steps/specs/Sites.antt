-- Step machines whose parties stay at their sites, whatever the kind of the parties.
use Rattle.std.specs.Prelude.{◌≡◌, map}
use Rattle.iox_steps.specs.MachineStates.{MachineState}

-- there are as many parties as before, each at its site
abbrev pub StayAtSites : {P E S : Type 0} → (P → S) → MachineState P E → MachineState P E → Type 0
StayAtSites site_of old new = map site_of new.parties ≡ map site_of old.parties
