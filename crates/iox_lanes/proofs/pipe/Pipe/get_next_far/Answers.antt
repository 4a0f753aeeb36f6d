use Rattle.std.proofs.Common.{ap, sym, ◌∙◌}
use Rattle.iox_lanes.specs.Marks.{has_returned_at}
use Rattle.iox_lanes.specs.Pipes.{PipeState}
use Rattle.iox_lanes.proofs.Returns.{lowest_has}
use Rattle.iox_lanes.proofs.pipe.Pipe.get_next_far.Goals as goal

pub get_one_back-place-requires : goal.get_one_back-place-requires
get_one_back-place-requires c = record {
  some = ap (λ (p : PipeState). has_returned_at p.lanes c.in_ok-lane.lane) c.in_ok-lane.ensures.unchanged
      ∙ lowest_has c.args.self.now c.in_ok-lane.lane (sym c.in_ok-lane.ensures.lowest);
}
