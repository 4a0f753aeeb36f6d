use Rattle.iox_lanes.proofs.Returns.{lowest_marked, same_marked}
use Rattle.iox_lanes.proofs.pipe.Pipe.lane_to_get.Goals as goal

pub invariant_of-self : goal.invariant_of-self
invariant_of-self c =
    same_marked c.self.inside.marks c.first.new.self c.self.inside.lanes.items c.self.invariant c.first.ensures.unchanged c.first.ensures.room

pub returns-clause-lowest : goal.returns-clause-lowest
returns-clause-lowest c =
    rw (← c.self.view_is)
    (lowest_marked c.self.inside.marks c.self.inside.lanes.items c.first.result c.self.invariant
    c.first.ensures.here c.first.ensures.below c.first.ensures.none)
