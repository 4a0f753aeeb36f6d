use Rattle.std.proofs.Common.{ap}
use Rattle.iox_lanes.specs.Pipes.{PipeState}
use Rattle.std.specs.Prelude.{List}
use Rattle.iox_lanes.proofs.Kept.{put_back}
use Rattle.iox_lanes.proofs.expired.Expired.lane_to_get.Goals as goal

pub returns-clause-unchanged : goal.returns-clause-unchanged
returns-clause-unchanged c =
    rw (← c.self.view_is)
    (ap (λ (ps : List PipeState). record { most = c.self.inside.pipes.capacity; pipes = ps })
    (put_back c.self.inside.pipes.items c.args.rank c.in-Some.pipe.now c.lane_to_get.new.self c.in-Some.ensures.value c.lane_to_get.ensures.unchanged))
