-- The end of a call changes a node's table as the machine changes its handles.
use Rattle.std.specs.Prelude.{◌≡◌, ℕ, List, map}
use Rattle.iox_model.specs.Counts.{holding}
use Rattle.iox_model.specs.Ends as ends
use Rattle.iox_model.specs.States.{State}
use Rattle.iox_wire_moments.specs.MomentsOf.{Pools}
use Rattle.iox_wire_locals.specs.declared.local.Ending.{Ending}
use Rattle.iox_wire_locals.specs.declared.local.Ending.TheVariants.{Lends, Fills, Receives}
use Rattle.iox_wire_locals.specs.declared.seat.Seat.{Seat}
use Rattle.iox_wire_locals.specs.Tables.{Setting, handle_of}
use Rattle.iox_wire_locals.specs.NewLoans.{loan_in, entry_in, lane_in, request_in}
use Rattle.iox_wire_locals.specs.Doings.{outcome_of}
use Rattle.iox_wire_locals.specs.Settlements.{settled}
use Rattle.iox_wire_locals.specs.BeginLaws.{Counts}

-- What the end relies on: a new loan is the port's own, and its slot holds its message with that
-- payload; a header tells what was received. (A write changes what a slot holds, and no entry.)
abbrev pub EndReliesOn : Setting → Seat → Pools → List ℕ → Ending → Type 0
EndReliesOn p x held payload (Lends o slot) =
    ((p.port o.port).node ≡ x.node)
    × (handle_of held x.node (entry_in o slot) ≡ holding (loan_in p o) payload)
EndReliesOn p x held payload (Fills e words) = ⊥
EndReliesOn p x held payload (Receives v w slot header) =
    (lane_in v w header ≡ (held w.sender slot).lane)
    × (request_in v header ≡ (held w.sender slot).request)
EndReliesOn p x held payload ending = Unit {0}

-- The node's handles are then those of its table.
abbrev pub TablesSettle : Type 0
TablesSettle =
    (p : Setting) (x : Seat) (s : State) (held : Pools) (payload : List ℕ) (ending : Ending)
    → Counts p x s held → EndReliesOn p x held payload ending
    → (ends.settled s x.node payload (outcome_of p held x.node ending)).fixed.handles x.node
    ≡ map (handle_of held x.node) (settled p x ending).table
