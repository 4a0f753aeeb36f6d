use Rattle.std.specs.Prelude.{⊤}
use Rattle.iox_hub.proofs.listings.place_from.Given as goal

abbrev pub invariant-loop-place : goal.invariant-loop-place
invariant-loop-place l = ⊤

-- each time the place is one less
abbrev pub decreases-loop-place : goal.decreases-loop-place
decreases-loop-place l = l.place
