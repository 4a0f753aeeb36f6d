use Rattle.iox_laws.proofs.WeaveBeats.Fresh.{what_is_out_is_kept}
use Rattle.iox_laws.proofs.weave_beats.what_is_out_is_kept.Goals as goal

pub returns : goal.returns
returns c = record { kept = what_is_out_is_kept }
