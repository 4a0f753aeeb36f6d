use Rattle.std.proofs.Common.{◌≡◌, length, take}
use Rattle.iox_tables.specs.HubStates.Wirings.{numbers_of_role}
use Rattle.iox_hub.proofs.listings.list.Given as goal

-- the numbers of the ports so far
abbrev pub invariant-loop-at : goal.invariant-loop-at
invariant-loop-at l = record {
  numbers : l.numbers.items ≡ numbers_of_role l.role (take l.at l.ports.ports);
  size : l.at-end ≡ length l.ports.ports;
}
