use Rattle.std.proofs.Common.{◌≡◌, false, length}
use Rattle.std.specs.Prelude.{take}
use Rattle.std.specs.List.{list_any}
use Rattle.iox_model.specs.declared.kind.Role.TheVariants.{Server}
use Rattle.iox_hub_ports.specs.InPlace.{places_of}
use Rattle.iox_control_requests.specs.Servers.{fails_on, request_ways}
use Rattle.iox_control_requests.proofs.servers.is_refused.Given as goal

abbrev pub invariant-loop-rank : goal.invariant-loop-rank
invariant-loop-rank g l = record {
  none : list_any (fails_on (g.B.WhenFull.fails l.backpressure) l.control.tables.ports)
      (take l.rank (request_ways l.client l.control.tables.ports))
      ≡ false;
  size : length (places_of Server l.control.tables.ports) ≡ l.rank-end;
}
