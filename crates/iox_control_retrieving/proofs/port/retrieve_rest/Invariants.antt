use Rattle.std.proofs.Common.{◌≡◌, length}
use Rattle.iox_model.specs.Settings.{other_role}
use Rattle.iox_hub_ports.specs.InPlace.{places_of}
use Rattle.iox_control_retrieving.proofs.Later.{IsLater}
use Rattle.iox_control_retrieving.proofs.port.retrieve_rest.Given as goal

-- what was given back by the ports between the two ranks is got back, too
abbrev pub invariant-loop-rank : goal.invariant-loop-rank
invariant-loop-rank l = record {
  later : IsLater l.initial.control l.sender l.from l.control l.rank;
  size : l.rank-end ≡ length (places_of (other_role l.sender.role) l.initial.control.tables.ports);
}
