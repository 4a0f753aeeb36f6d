use Rattle.std.proofs.Common.{◌≡◌, [], length, take}
use Rattle.iox_hub.specs.Listings.{held_ports}
use Rattle.iox_hub.proofs.listings.held_from.Given as goal

-- none of the ports so far is held
abbrev pub invariant-loop-at : goal.invariant-loop-at
invariant-loop-at l = record {
  none : held_ports (take l.at l.ports.ports) l.node ≡ [];
  size : l.at-end ≡ length l.ports.ports;
}
