-- The reachable worlds: a wire opens on a state that a service reached, and any weave follows.
use Rattle.std.specs.Prelude.{◌≡◌, true, List, None}
use Rattle.iox_model.specs.States.{State}
use Rattle.iox_model.specs.Runs.{IsReachableState}
use Rattle.iox_model.specs.WireCalls.{wire_refusal, opened}
use Rattle.iox_model.specs.Weaves.{at_work, IsWeave, World, Beat}

-- a wire that is not refused opened on a reachable state, and no node began a call yet
abbrev pub IsOpenedWire : World → Type 0
IsOpenedWire w =
    (s : State) × IsReachableState s × (wire_refusal s 0 true ≡ None) × (w ≡ at_work (opened s))

-- some weave leads there from a world in which a wire just opened
abbrev pub IsReachable : World → Type 0
IsReachable w = (first : World) × (bs : List Beat) × IsOpenedWire first × IsWeave first bs w
