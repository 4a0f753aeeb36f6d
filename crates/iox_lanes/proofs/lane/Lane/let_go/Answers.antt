use Rattle.std.proofs.Common.{sym, ◌∙◌}
use Rattle.iox_lanes.specs.Lanes.{LaneState, lane_of}
use Rattle.iox_lanes.proofs.Lone.{lone_left, lone_taken}
use Rattle.iox_lanes.proofs.lane.Lane.let_go.Goals as goal

pub returns-then-is_only-clause-taken : goal.returns-then-is_only-clause-taken
returns-then-is_only-clause-taken c =
    let s = c.self.inside in
    let l : LaneState = lane_of s.pool s.waiting s.returned s.taken.items s.limit s.deliveries s.returns in
    rw (← c.self.view_is) (sym (lone_taken l c.args.place (sym c.deref.ensures.value ∙ c.if-is_only.ensures)))

pub returns-then-is_only-clause-left : goal.returns-then-is_only-clause-left
returns-then-is_only-clause-left c =
    let s = c.self.inside in
    let l : LaneState = lane_of s.pool s.waiting s.returned s.taken.items s.limit s.deliveries s.returns in
    rw (← c.self.view_is)
    (lone_left l c.args.place c.take_last.result c.take_last.new.self.items (sym c.deref.ensures.value ∙ c.if-is_only.ensures) c.take_last.ensures.items)
