use Rattle.std.proofs.Common.{◌≡◌, sym, ap, subst, ◌∙◌, true, false}
use Rattle.iox_lanes.specs.Lanes.{has_waiting}
use Rattle.iox_lanes.specs.Pipes.{PipeState, on_lane}
use Rattle.iox_lanes.specs.Searches.{is_wanted}
use Rattle.iox_lanes.proofs.OneLane.{visited_at}
use Rattle.iox_lanes.proofs.Usual.{oldest_visited, waits_within}
use Rattle.iox_lanes.proofs.pipe.Pipe.visit_usual.Goals as goal

pub returns-clause-visited : goal.returns-clause-visited
returns-clause-visited g c =
    let p : PipeState = record { sender = c.self.inside.sender; lanes = c.self.inside.lanes.items; states = c.self.inside.states.items } in
    rw (← c.self.view_is)
    (visited_at p c.args.lane c.index_mut-l.result.now
    (waits_within p c.args.lane (subst (λ (q : PipeState). on_lane has_waiting false q c.args.lane ≡ true) (sym c.self.view_is) c.requires))
    c.index_mut-l.ensures.value c.args.wanted (g.L.Labels.label_of c.args.labels.now) c.deref.result.now c.take_waiting.new.self c.deref.ensures.value
    (oldest_visited c.args.wanted c.deref.result.now (g.L.Labels.label_of c.args.labels.now) c.index_mut-l.result.now c.first_waiting-place.result
    (sym c.if-is_at_limit.ensures) c.first_waiting-place.ensures
    (ap (λ n. is_wanted c.args.wanted c.deref.result.now (g.L.Labels.label_of c.args.labels.now n) c.first_waiting-place.result) (sym c.pool-pool.ensures.pool)
    ∙ sym c.if-not-wants.ensures)
    c.take_waiting.new.self c.take_waiting.ensures))
