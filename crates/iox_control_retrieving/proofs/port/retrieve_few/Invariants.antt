use Rattle.std.proofs.Common.{◌≡◌, Some, slice_get}
use Rattle.iox_tables.specs.HubStates.Tables.{PortState}
use Rattle.iox_hub_ports.specs.InPlace.{AllApart}
use Rattle.iox_hub_ports.specs.Ports.{info_of}
use Rattle.iox_control_retrieving.specs.Retrieving.{ways_to}
use Rattle.iox_control_retrieving.proofs.OneByOne.{GoesOn, all_returned}
use Rattle.iox_control_retrieving.proofs.port.retrieve_few.Given as goal

-- as much is left to get back as is there still
abbrev pub invariant-loop-later : goal.invariant-loop-later
invariant-loop-later l = record {
  goes :
      (p : PortState) → slice_get l.fn.control.tables.ports l.at ≡ Some p
      → GoesOn l.fn.control (ways_to l.sender.role l.fn.control.tables l.sender.number (info_of p)) l.control;
  apart : AllApart l.control.tables.ports;
}

abbrev pub decreases-loop-later : goal.decreases-loop-later
decreases-loop-later l = all_returned l.control.tables.ports
