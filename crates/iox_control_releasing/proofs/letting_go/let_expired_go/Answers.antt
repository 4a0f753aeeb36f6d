use Rattle.std.proofs.Common.{refl, sym, ap, ◌∙◌, ◌<◌, ◌+◌, subst, length}
use Rattle.iox_lanes.specs.Incomings.{IncomingState}
use Rattle.iox_tables.specs.HubBooks.Counts.{in_pipe, lane_count, total}
use Rattle.iox_control_releasing.proofs.Lanes.{last_goes, last_none, last_shorter}
use Rattle.iox_control_releasing.proofs.Settling.{begins, goes_on, pools_again, settled}
use Rattle.iox_control_releasing.proofs.letting_go.let_expired_go.Goals as goal

pub loop-pipe-init : goal.loop-pipe-init
loop-pipe-init c = record {
  same = refl;
  settles = begins c.args.control.now.tables.pools (λ pool k. total (in_pipe (lane_count pool k)) c.args.expired.pipes);
}

pub loop-pipe-smaller : goal.loop-pipe-smaller
loop-pipe-smaller c =
    subst (λ (p : IncomingState). length p.pipes < length c.loop-pipe.expired.pipes) (sym c.take_pipe.ensures.left)
    (last_shorter c.loop-pipe.expired.pipes c.in-Some.pipe (sym c.take_pipe.ensures.last ∙ c.in-Some.is))

pub loop-pipe-preserved : goal.loop-pipe-preserved
loop-pipe-preserved c = record {
  same = pools_again c.args.control.now c.loop-pipe.control c.let_pipe_go.new.control _ c.loop-pipe.invariant.same c.let_pipe_go.ensures.left;
  settles = goes_on c.args.control.now.tables.pools c.loop-pipe.control.tables.pools c.let_pipe_go.new.control.tables.pools
      (λ pool k. total (in_pipe (lane_count pool k)) c.args.expired.pipes) (λ pool k. total (in_pipe (lane_count pool k)) c.loop-pipe.expired.pipes)
      (λ pool k. in_pipe (lane_count pool k) c.in-Some.pipe) (λ pool k. total (in_pipe (lane_count pool k)) c.take_pipe.new.self.pipes)
      c.loop-pipe.invariant.settles c.let_pipe_go.ensures.fewer
      (λ pool k. last_goes (in_pipe (lane_count pool k)) c.loop-pipe.expired.pipes c.in-Some.pipe (sym c.take_pipe.ensures.last ∙ c.in-Some.is)
      ∙ ap (λ (p : IncomingState). in_pipe (lane_count pool k) c.in-Some.pipe + total (in_pipe (lane_count pool k)) p.pipes) (sym c.take_pipe.ensures.left));
}

pub returns-clause-left : goal.returns-clause-left
returns-clause-left c = c.loop-pipe.invariant.same

pub returns-clause-fewer : goal.returns-clause-fewer
returns-clause-fewer c =
    settled c.args.control.now.tables.pools c.loop-pipe.control.tables.pools
    (λ pool k. total (in_pipe (lane_count pool k)) c.args.expired.pipes) (λ pool k. total (in_pipe (lane_count pool k)) c.loop-pipe.expired.pipes) c.loop-pipe.invariant.settles
    (λ pool k. last_none (in_pipe (lane_count pool k)) c.loop-pipe.expired.pipes (sym c.in_default.is ∙ c.take_pipe.ensures.last))
