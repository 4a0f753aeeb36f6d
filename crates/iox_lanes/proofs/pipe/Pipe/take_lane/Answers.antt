use Rattle.std.proofs.Common.{◌∙◌}
use Rattle.iox_lanes.proofs.Returns.{marked_but_last}
use Rattle.iox_lanes.proofs.pipe.Pipe.take_lane.Goals as goal

pub invariant_of-self : goal.invariant_of-self
invariant_of-self c =
    marked_but_last c.self.inside.marks c.remove.new.self c.self.inside.lanes.items c.take_last-last.new.lanes.items c.len.result
    c.self.invariant c.take_last-last.ensures.left (c.len.ensures ∙ c.take_last-last.new.lanes.ok.0)
    c.remove.ensures.here c.remove.ensures.others c.remove.ensures.room
