use Rattle.std.proofs.Common.{true, sym, arith}
use Rattle.iox_lanes.specs.Pipes.{PipeState}
use Rattle.iox_lanes.proofs.OneLane.{visit_at, visited_at}
use Rattle.iox_lanes.proofs.Returns.{marked_at, still_marked, visited_same}
use Rattle.iox_lanes.proofs.pipe.Pipe.visit.Goals as goal

pub invariant_of-self : goal.invariant_of-self
invariant_of-self g c =
    marked_at c.self.inside.marks c.insert.new.self c.self.inside.lanes.items c.args.lane c.visit_lane-visit.new.lane true
    c.self.invariant (omega (arith, c.if-len-lane.false, c.len.ensures)) (sym c.if-has_returned.ensures)
    c.insert.ensures.here c.insert.ensures.others c.insert.ensures.room

pub returns-then-has_returned-clause-visit : goal.returns-then-has_returned-clause-visit
returns-then-has_returned-clause-visit g c =
    let p : PipeState = record { sender = c.self.inside.sender; lanes = c.self.inside.lanes.items; states = c.self.inside.states.items } in
    rw (← c.self.view_is)
    (visit_at p c.args.lane c.index_mut-l.result.now (omega (arith, c.if-len-lane.false, c.len.ensures)) c.index_mut-l.ensures.value
    c.args.wanted (g.L.Labels.label_of c.args.labels.now) c.deref.result.now c.visit_lane-visit.result c.deref.ensures.value c.visit_lane-visit.ensures.visit)

pub returns-then-has_returned-clause-visited : goal.returns-then-has_returned-clause-visited
returns-then-has_returned-clause-visited g c =
    let p : PipeState = record { sender = c.self.inside.sender; lanes = c.self.inside.lanes.items; states = c.self.inside.states.items } in
    rw (← c.self.view_is)
    (visited_at p c.args.lane c.index_mut-l.result.now (omega (arith, c.if-len-lane.false, c.len.ensures)) c.index_mut-l.ensures.value
    c.args.wanted (g.L.Labels.label_of c.args.labels.now) c.deref.result.now c.visit_lane-visit.new.lane c.deref.ensures.value c.visit_lane-visit.ensures.visited)

pub invariant_of-self-else-has_returned : goal.invariant_of-self-else-has_returned
invariant_of-self-else-has_returned g c =
    still_marked c.self.inside.marks c.self.inside.lanes.items c.args.lane c.index_mut-l.result.now c.visit_lane-visit.new.lane
    c.self.invariant c.index_mut-l.ensures.value
    (visited_same c.args.wanted c.deref.result.now (g.L.Labels.label_of c.args.labels.now) c.index_mut-l.result.now c.visit_lane-visit.new.lane
    c.visit_lane-visit.ensures.visited (sym c.if-has_returned.ensures))

pub returns-clause-visit : goal.returns-clause-visit
returns-clause-visit g c =
    let p : PipeState = record { sender = c.self.inside.sender; lanes = c.self.inside.lanes.items; states = c.self.inside.states.items } in
    rw (← c.self.view_is)
    (visit_at p c.args.lane c.index_mut-l.result.now (omega (arith, c.if-len-lane.false, c.len.ensures)) c.index_mut-l.ensures.value
    c.args.wanted (g.L.Labels.label_of c.args.labels.now) c.deref.result.now c.visit_lane-visit.result c.deref.ensures.value c.visit_lane-visit.ensures.visit)

pub returns-clause-visited : goal.returns-clause-visited
returns-clause-visited g c =
    let p : PipeState = record { sender = c.self.inside.sender; lanes = c.self.inside.lanes.items; states = c.self.inside.states.items } in
    rw (← c.self.view_is)
    (visited_at p c.args.lane c.index_mut-l.result.now (omega (arith, c.if-len-lane.false, c.len.ensures)) c.index_mut-l.ensures.value
    c.args.wanted (g.L.Labels.label_of c.args.labels.now) c.deref.result.now c.visit_lane-visit.new.lane c.deref.ensures.value c.visit_lane-visit.ensures.visited)
