use Rattle.iox_laws.proofs.WeaveBeats.LiveWays.{own_ways_are_live}
use Rattle.iox_laws.proofs.weave_beats.own_ways_are_live.Goals as goal

pub returns : goal.returns
returns c = record { live = own_ways_are_live }
