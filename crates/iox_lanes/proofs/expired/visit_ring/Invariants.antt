use Rattle.std.proofs.Common.{◌≡◌, length}
use Rattle.iox_lanes.proofs.Visiting.{Comes}
use Rattle.iox_lanes.proofs.expired.visit_ring.Given as goal

abbrev pub invariant-loop-i : goal.invariant-loop-i
invariant-loop-i g l = record {
  comes : Comes l.wanted (g.L.Labels.label_of l.labels) l.lane l.initial.all.items l.all.items l.i
      l.waits;
  size : length l.all.items ≡ l.i-end;
  same_len : length l.all.items ≡ length l.initial.all.items;
  capacity : l.all.capacity ≡ l.initial.all.capacity;
}
