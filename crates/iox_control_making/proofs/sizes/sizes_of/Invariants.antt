use Rattle.std.proofs.Common.{◌≡◌, take}
use Rattle.iox_control_making.specs.Sizes.{sizes_among}
use Rattle.iox_control_making.proofs.sizes.sizes_of.Given as goal

-- what the ports so far come to
abbrev pub invariant-loop-place : goal.invariant-loop-place
invariant-loop-place l = l.sizes ≡ sizes_among (take l.place l.ports.ports)
