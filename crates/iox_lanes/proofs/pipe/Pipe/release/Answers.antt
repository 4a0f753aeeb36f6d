use Rattle.std.proofs.Common.{true, false, sym, ap, ◌∙◌, arith}
use Rattle.iox_lanes.specs.Lanes.{LaneState, has_returned, is_taken, released}
use Rattle.iox_lanes.specs.Pipes.{PipeState}
use Rattle.iox_lanes.proofs.OneLane.{on_lane_at, with_lane_at}
use Rattle.iox_lanes.proofs.Returns.{marked_at, released_some}
use Rattle.iox_lanes.proofs.pipe.Pipe.release.Goals as goal

pub invariant_of-self : goal.invariant_of-self
invariant_of-self c =
    marked_at c.self.inside.marks c.insert.new.self c.self.inside.lanes.items c.args.lane c.release.new.self true
    c.self.invariant (omega (arith, c.if-len-lane.false, c.len.ensures))
    (ap has_returned c.release.ensures.released ∙ released_some c.index_mut.result.now c.args.place (sym c.if-release.ensures.taken))
    c.insert.ensures.here c.insert.ensures.others c.insert.ensures.room

pub returns-then-release-clause-taken : goal.returns-then-release-clause-taken
returns-then-release-clause-taken c =
    let p : PipeState = record { sender = c.self.inside.sender; lanes = c.self.inside.lanes.items; states = c.self.inside.states.items } in
    rw (← c.self.view_is)
    (c.if-release.ensures.taken
    ∙ sym (on_lane_at p c.args.lane c.index_mut.result.now (omega (arith, c.if-len-lane.false, c.len.ensures)) c.index_mut.ensures.value
    (λ (l : LaneState). is_taken l c.args.place) false))

pub returns-then-release-clause-released : goal.returns-then-release-clause-released
returns-then-release-clause-released c =
    let p : PipeState = record { sender = c.self.inside.sender; lanes = c.self.inside.lanes.items; states = c.self.inside.states.items } in
    rw (← c.self.view_is)
    (with_lane_at p c.args.lane c.index_mut.result.now (omega (arith, c.if-len-lane.false, c.len.ensures)) c.index_mut.ensures.value
    (λ (l : LaneState). released l c.args.place) c.release.new.self c.release.ensures.released)

pub returns-clause-taken : goal.returns-clause-taken
returns-clause-taken c =
    let p : PipeState = record { sender = c.self.inside.sender; lanes = c.self.inside.lanes.items; states = c.self.inside.states.items } in
    rw (← c.self.view_is)
    (c.if-release.ensures.taken
    ∙ sym (on_lane_at p c.args.lane c.index_mut.result.now (omega (arith, c.if-len-lane.false, c.len.ensures)) c.index_mut.ensures.value
    (λ (l : LaneState). is_taken l c.args.place) false))

pub returns-clause-released : goal.returns-clause-released
returns-clause-released c =
    let p : PipeState = record { sender = c.self.inside.sender; lanes = c.self.inside.lanes.items; states = c.self.inside.states.items } in
    rw (← c.self.view_is)
    (with_lane_at p c.args.lane c.index_mut.result.now (omega (arith, c.if-len-lane.false, c.len.ensures)) c.index_mut.ensures.value
    (λ (l : LaneState). released l c.args.place) c.release.new.self c.release.ensures.released)
