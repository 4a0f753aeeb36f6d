use Rattle.iox_laws.proofs.WeaveBeats.LiveWays.{ways_to_the_living_are_counted}
use Rattle.iox_laws.proofs.weave_beats.senders_count_the_living.Goals as goal

pub returns : goal.returns
returns c = record { counted = ways_to_the_living_are_counted }
