use Rattle.iox_laws.proofs.WeaveBeats.LiveWays.{beats_are_reachable}
use Rattle.iox_laws.proofs.weave_beats.beats_lead_to_reachable_worlds.Goals as goal

pub returns : goal.returns
returns c = record { reachable = beats_are_reachable }
