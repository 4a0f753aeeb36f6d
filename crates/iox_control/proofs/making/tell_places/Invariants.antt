use Rattle.std.proofs.Common.{◌≡◌}
use Rattle.iox_control.proofs.making.tell_places.Given as goal

-- only hints change
abbrev pub invariant-loop-at : goal.invariant-loop-at
invariant-loop-at l = l.pools ≡ l.initial.pools
