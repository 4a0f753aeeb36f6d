use Rattle.std.proofs.Common.{◌≡◌, take}
use Rattle.iox_handles.specs.Places.{handles_there, least_in}
use Rattle.iox_handles.proofs.least.least_in.Given as goal

-- the least of the places so far
abbrev pub invariant-loop-place : goal.invariant-loop-place
invariant-loop-place l = l.least ≡ least_in l.node (handles_there (take l.place-index l.places))
