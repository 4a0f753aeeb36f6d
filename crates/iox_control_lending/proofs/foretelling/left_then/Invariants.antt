use Rattle.std.proofs.Common.{◌≡◌, ◌-◌, length}
use Rattle.iox_model.specs.Maps.{AreDistinct}
use Rattle.iox_tables.specs.HubStates.Tables.{numbers_of}
use Rattle.iox_tables.specs.HubBooks.Counts.{total}
use Rattle.iox_control_retrieving.specs.Retrieving.{first_ways}
use Rattle.iox_control_lending.proofs.Foretold.{given_on, ways_to_port}
use Rattle.iox_control_lending.proofs.foretelling.left_then.Given as goal

-- what the ports in the first places gave back is taken away
abbrev pub invariant-loop-at : goal.invariant-loop-at
invariant-loop-at l = record {
  left : l.left ≡ l.holders - total (given_on l.control l.sender l.slot) (first_ways (ways_to_port l.control l.sender) l.control.tables.ports l.at);
  size : l.at-end ≡ length l.control.tables.ports;
  apart : AreDistinct (numbers_of l.control.tables.ports);
}
