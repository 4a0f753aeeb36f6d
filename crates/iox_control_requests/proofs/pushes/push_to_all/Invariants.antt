use Rattle.std.proofs.Common.{◌≡◌, length}
use Rattle.std.specs.Prelude.{take}
use Rattle.iox_model.specs.declared.kind.Role.TheVariants.{Server}
use Rattle.iox_lanes.specs.Lanes.{IsSound}
use Rattle.iox_tables.specs.HubStates.Changes.{OnEach}
use Rattle.iox_tables.specs.HubStates.Ways.{lane_on}
use Rattle.iox_hub_ports.specs.InPlace.{AllApart, places_of}
use Rattle.iox_control.specs.Entries.{handle_state}
use Rattle.iox_control_requests.specs.Servers.{request_ways}
use Rattle.iox_control_requests.proofs.Pushing.{IsPushed}
use Rattle.iox_control_requests.proofs.pushes.push_to_all.Given as goal

abbrev pub invariant-loop-rank : goal.invariant-loop-rank
invariant-loop-rank l = record {
  done : IsPushed l.initial.control (handle_state l.entry) l.label l.control l.rank;
  sound : OnEach (λ w m. IsSound m) (lane_on l.initial.control.tables.ports) (take l.rank (request_ways l.entry.port l.initial.control.tables.ports));
  apart : AllApart l.control.tables.ports;
  size : length (places_of Server l.initial.control.tables.ports) ≡ l.servers;
}
