-- What the end of a call is told is needed.
use Rattle.std.specs.Prelude.{ℕ, List, Some}
use Rattle.iox_wire_locals.specs.BeginLaws.{Counts}
use Rattle.iox_wire_locals.specs.Steps.{closed}
use Rattle.iox_wire_laws.specs.WireHolding.Holding.{held_ended}
use Rattle.iox_wire_stands.specs.Nodes.{NodeStands}
use Rattle.iox_wire_steps.specs.Over.{EndIsTold, state_ended}
use Rattle.iox_wire_steps.specs.OverLaws.{AtEachEnd}

-- Where the node counts what is so after the end of its call, and stands, with what slots hold then,
-- its end was told what is so: no weaker premise would do.
abbrev pub WhatIsToldIsNeeded : Type 0
WhatIsToldIsNeeded = AtEachEnd (λ p held s x ending.
    (payload : List ℕ)
    → Counts p (closed p x (Some ending)) (state_ended p held s x payload ending)
    (held_ended held payload ending)
    → NodeStands p (held_ended held payload ending) (state_ended p held s x payload ending)
    (closed p x (Some ending))
    → EndIsTold p held s x ending)
