use Rattle.std.proofs.Common.{◌≡◌, length}
use Rattle.iox_model.specs.declared.kind.Role.TheVariants.{Server}
use Rattle.iox_model.specs.Messages.{closed_for}
use Rattle.iox_hub_ports.specs.InPlace.{places_of}
use Rattle.iox_control.proofs.Closings.{changed_first}
use Rattle.iox_control.proofs.in_places.close_with_servers.Given as goal

abbrev pub invariant-loop-rank : goal.invariant-loop-rank
invariant-loop-rank l = record {
  so : l.ports ≡ changed_first (λ r. closed_for r l.fn.label.request) l.fn.client l.fn.label.lane l.initial.ports l.rank;
  size : length (places_of Server l.initial.ports.ports) ≡ l.rank-end;
}
