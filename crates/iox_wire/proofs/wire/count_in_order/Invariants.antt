use Rattle.iox_wire.specs.Kept.{StandInOrder}
use Rattle.iox_wire.proofs.wire.count_in_order.Given as goal

-- those so far stand at the places of their numbers
abbrev pub invariant-loop-place : goal.invariant-loop-place
invariant-loop-place l = record { so_far : StandInOrder l.place l.members }
