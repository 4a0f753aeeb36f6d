use Rattle.std.proofs.Common.{◌≡◌, length}
use Rattle.std.specs.Vec.{vec_capacity}
use Rattle.iox_lanes.proofs.Visiting.{Comes}
use Rattle.iox_lanes.proofs.incoming.visit_pipes.Given as goal

abbrev pub invariant-loop-i : goal.invariant-loop-i
invariant-loop-i g l = record {
  comes : Comes l.wanted (g.L.Labels.label_of l.labels) l.lane l.initial.all.items l.all.items l.i
      l.waits;
  size : length l.all.items ≡ l.i-end;
  capacity : vec_capacity l.all ≡ vec_capacity l.initial.all;
}
