use Rattle.std.proofs.Common.{ℕ, ◌<◌}
use Rattle.iox_wire.specs.NewRefusals.{HasLayout}
use Rattle.iox_wire.proofs.opening.have_layouts.Given as goal

-- the ports so far have layouts
abbrev pub invariant-loop-place : goal.invariant-loop-place
invariant-loop-place l = record { so_far : (i : ℕ) → i < l.place → HasLayout l.plan i }
