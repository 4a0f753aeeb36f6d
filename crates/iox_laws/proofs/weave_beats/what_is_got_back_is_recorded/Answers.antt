use Rattle.iox_laws.proofs.WeaveBeats.Rooms.{what_is_got_back_is_recorded}
use Rattle.iox_laws.proofs.weave_beats.what_is_got_back_is_recorded.Goals as goal

pub returns : goal.returns
returns c = record { recorded = what_is_got_back_is_recorded }
