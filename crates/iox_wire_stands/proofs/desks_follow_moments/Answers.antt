use Rattle.iox_wire_stands.proofs.MomentsFollow.{desks_follow_moments}
use Rattle.iox_wire_stands.proofs.desks_follow_moments.Goals as goal

pub returns : goal.returns
returns c = desks_follow_moments
