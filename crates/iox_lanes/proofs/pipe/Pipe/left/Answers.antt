use Rattle.std.proofs.Common.{arith, refl, sym, ◌∙◌}
use Rattle.iox_lanes.proofs.Returns.{lane_there}
use Rattle.iox_lanes.proofs.pipe.Pipe.left.Goals as goal

pub index-requires : goal.index-requires
index-requires c =
    let low = lane_there c.self.inside.lanes.items 0 (sym (c.self.invariant.one 0) ∙ c.if-has_first_alone.ensures.first refl) in
    omega (arith, low, c.self.inside.lanes.ok.0)
