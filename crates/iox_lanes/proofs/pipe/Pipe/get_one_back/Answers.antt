use Rattle.std.proofs.Common.{sym}
use Rattle.iox_lanes.proofs.Returns.{still_marked, without_some}
use Rattle.iox_lanes.proofs.pipe.Pipe.get_one_back.Goals as goal

pub invariant_of-self : goal.invariant_of-self
invariant_of-self c =
    still_marked c.self.inside.marks c.self.inside.lanes.items c.args.lane c.index_mut-l.result.now c.get_one_back-place.new.self
    c.self.invariant c.index_mut-l.ensures.value
    (without_some c.index_mut-l.result.now c.get_one_back-place.new.self c.get_one_back-place.ensures.got_back (sym c.if-has_returned.ensures))
