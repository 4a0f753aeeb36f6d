use Rattle.std.proofs.Common.{refl, sym, ap, ◌∙◌, ◌<◌, ◌+◌, subst, length}
use Rattle.iox_lanes.specs.Pipes.{PipeState}
use Rattle.iox_tables.specs.HubBooks.Counts.{in_pipe, lane_count}
use Rattle.iox_control_releasing.proofs.Lanes.{last_goes, last_none, last_shorter}
use Rattle.iox_control_releasing.proofs.Settling.{begins, goes_on, pools_again, settled}
use Rattle.iox_control_releasing.proofs.letting_go.let_pipe_go.Goals as goal

pub loop-lane-init : goal.loop-lane-init
loop-lane-init c = record {
  same = refl;
  settles = begins c.args.control.now.tables.pools (λ pool k. in_pipe (lane_count pool k) c.args.pipe);
}

pub loop-lane-smaller : goal.loop-lane-smaller
loop-lane-smaller c =
    subst (λ (p : PipeState). length p.lanes < length c.loop-lane.pipe.lanes) (sym c.take_lane.ensures.left)
    (last_shorter c.loop-lane.pipe.lanes c.in-Some.lane (sym c.take_lane.ensures.last ∙ c.in-Some.is))

pub loop-lane-preserved : goal.loop-lane-preserved
loop-lane-preserved c = record {
  same = pools_again c.args.control.now c.loop-lane.control c.let_lane_go.new.control _ c.loop-lane.invariant.same c.let_lane_go.ensures.left;
  settles = goes_on c.args.control.now.tables.pools c.loop-lane.control.tables.pools c.let_lane_go.new.control.tables.pools
      (λ pool k. in_pipe (lane_count pool k) c.args.pipe) (λ pool k. in_pipe (lane_count pool k) c.loop-lane.pipe)
      (λ pool k. lane_count pool k c.in-Some.lane) (λ pool k. in_pipe (lane_count pool k) c.take_lane.new.self)
      c.loop-lane.invariant.settles c.let_lane_go.ensures.fewer
      (λ pool k. last_goes (lane_count pool k) c.loop-lane.pipe.lanes c.in-Some.lane (sym c.take_lane.ensures.last ∙ c.in-Some.is)
      ∙ ap (λ (p : PipeState). lane_count pool k c.in-Some.lane + in_pipe (lane_count pool k) p) (sym c.take_lane.ensures.left));
}

pub returns-clause-left : goal.returns-clause-left
returns-clause-left c = c.loop-lane.invariant.same

pub returns-clause-fewer : goal.returns-clause-fewer
returns-clause-fewer c =
    settled c.args.control.now.tables.pools c.loop-lane.control.tables.pools
    (λ pool k. in_pipe (lane_count pool k) c.args.pipe) (λ pool k. in_pipe (lane_count pool k) c.loop-lane.pipe) c.loop-lane.invariant.settles
    (λ pool k. last_none (lane_count pool k) c.loop-lane.pipe.lanes (sym c.in_default.is ∙ c.take_lane.ensures.last))
