use Rattle.std.proofs.Common.{ap, ◌∙◌}
use Rattle.iox_lanes.specs.Lanes.{has_returned}
use Rattle.iox_lanes.proofs.Returns.{pushed_same, still_marked}
use Rattle.iox_lanes.proofs.pipe.Pipe.push.Goals as goal

pub invariant_of-self : goal.invariant_of-self
invariant_of-self c =
    still_marked c.self.inside.marks c.self.inside.lanes.items c.args.lane c.index_mut.result.now c.push.new.self
    c.self.invariant c.index_mut.ensures.value (ap has_returned c.push.ensures.pushed ∙ pushed_same c.index_mut.result.now c.args.place)
