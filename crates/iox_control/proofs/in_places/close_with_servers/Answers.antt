use Rattle.std.proofs.Common.{arith}
use Rattle.iox_model.specs.Messages.{closed_for}
use Rattle.iox_hub_ports.proofs.Hinted.{first_in_place}
use Rattle.iox_control.proofs.Closings.{all_changed, one_more, same_size, still_apart}
use Rattle.iox_control.proofs.in_places.close_with_servers.Goals as goal

pub server-at-requires : goal.server-at-requires
server-at-requires c =
    let size = same_size (λ r. closed_for r c.args.label.request) c.args.client c.args.label.lane c.args.ports.now c.loop-rank.ports c.loop-rank.rank c.loop-rank.invariant.so in
    omega (arith, c.loop-rank-test.true, c.loop-rank.invariant.size, size)

pub on_pipe_in-requires-clause-once : goal.on_pipe_in-requires-clause-once
on_pipe_in-requires-clause-once c =
    first_in_place c.loop-rank.ports.ports c.server-at.result c.args.hint
    (still_apart (λ r. closed_for r c.args.label.request) c.args.client c.args.label.lane c.args.ports.now c.loop-rank.ports c.loop-rank.rank c.loop-rank.invariant.so
    c.requires)

pub loop-rank-preserved : goal.loop-rank-preserved
loop-rank-preserved c = record {
  so = one_more (λ r. closed_for r c.args.label.request) c.args.client c.args.label.lane c.args.ports.now c.loop-rank.ports c.loop-rank.rank c.loop-rank.invariant.so
      c.on_pipe_in.new.self c.server-at.result c.server-at.ensures.place c.on_pipe_in.ensures.changed;
  size = c.loop-rank.invariant.size;
}

pub returns : goal.returns
returns c =
    all_changed (λ r. closed_for r c.args.label.request) c.args.client c.args.label.lane c.args.ports.now c.loop-rank.ports c.loop-rank.rank c.loop-rank.invariant.so
    c.len.ensures.apart (omega (arith, c.loop-rank-test.false, c.loop-rank.invariant.size))
