use Rattle.iox_set_steps.proofs.CountTellLemmas.{replies_tell}
use Rattle.iox_set_steps.proofs.law.replies_tell_of_their_own_count.Goals as goal

pub returns : goal.returns
returns c = replies_tell
