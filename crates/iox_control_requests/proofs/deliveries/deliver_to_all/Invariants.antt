use Rattle.std.proofs.Common.{◌≡◌, length}
use Rattle.std.specs.Prelude.{take}
use Rattle.iox_model.specs.declared.kind.Role.TheVariants.{Server}
use Rattle.iox_lanes.specs.Lanes.{IsSound}
use Rattle.iox_tables.specs.HubStates.Changes.{OnEach}
use Rattle.iox_hub_ports.specs.InPlace.{places_of}
use Rattle.iox_tables.specs.HubStates.Ways.{lane_on}
use Rattle.iox_control_requests.specs.Servers.{request_ways}
use Rattle.iox_control.specs.Entries.{handle_state}
use Rattle.iox_control_requests.proofs.Delivering.{IsGiven}
use Rattle.iox_control_requests.proofs.deliveries.deliver_to_all.Given as goal

abbrev pub invariant-loop-rank : goal.invariant-loop-rank
invariant-loop-rank l = record {
  given : IsGiven l.initial.control l.control (handle_state l.entry) l.overflow l.rank l.count;
  sound : OnEach (λ w m. IsSound m) (lane_on l.initial.control.tables.ports) (take l.rank (request_ways l.entry.port l.initial.control.tables.ports));
  size : length (places_of Server l.initial.control.tables.ports) ≡ l.rank-end;
}
