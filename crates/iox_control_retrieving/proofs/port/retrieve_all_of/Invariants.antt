use Rattle.std.proofs.Common.{◌≡◌, length}
use Rattle.iox_model.specs.Settings.{other_role}
use Rattle.iox_hub_ports.specs.InPlace.{places_of}
use Rattle.iox_control_retrieving.specs.Retrieving.{GetsBack, ways_before}
use Rattle.iox_control_retrieving.proofs.port.retrieve_all_of.Given as goal

-- what was given back by the first ports of the other role is got back
abbrev pub invariant-loop-rank : goal.invariant-loop-rank
invariant-loop-rank l = record {
  gets : GetsBack l.initial.control (ways_before l.initial.control l.sender l.rank) l.control;
  size : l.rank-end ≡ length (places_of (other_role l.sender.role) l.initial.control.tables.ports);
}
