-- Slots beyond the pools, and those of other nodes, may change.
use Rattle.std.specs.Prelude.{◌≡◌, ℕ}
use Rattle.iox_model.specs.States.{State}
use Rattle.iox_wire_moments.specs.MomentsOf.{Pools}
use Rattle.iox_wire_locals.specs.declared.seat.Seat.{Seat}
use Rattle.iox_wire_locals.specs.Tables.{Setting}
use Rattle.iox_wire_laws.specs.WireHolding.FarSlots.{IsInPool}
use Rattle.iox_wire_laws.specs.WireHolding.SlotsKnown.{IsPortOfSeat}
use Rattle.iox_wire_stands.specs.Following.{message_at}
use Rattle.iox_wire_stands.specs.Nodes.{NodeStands}
use Rattle.iox_wire_stands.specs.StepLaws.{TakenStays}

-- the slots in the pools of the node's ports hold what they held
abbrev pub AgreeInPools : Setting → Seat → Pools → Pools → Type 0
AgreeInPools p x held new =
    (port slot : ℕ) → IsPortOfSeat p x port → IsInPool p port slot → new port slot ≡ held port slot

-- As a slot changes that is in no pool of the node's ports, and that its call did not take, all
-- stays that is so of the node.
abbrev pub FarSlotsMayChange : Type 0
FarSlotsMayChange =
    (p : Setting) (held new : Pools) (s : State) (x : Seat)
    → AgreeInPools p x held new → TakenStays held new (message_at x.local)
    → NodeStands p held s x → NodeStands p new s x
