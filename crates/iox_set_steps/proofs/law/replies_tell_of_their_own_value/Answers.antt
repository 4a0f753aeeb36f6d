use Rattle.iox_set_steps.proofs.AtomicTellLemmas.{replies_tell}
use Rattle.iox_set_steps.proofs.law.replies_tell_of_their_own_value.Goals as goal

pub returns : goal.returns
returns c = replies_tell
