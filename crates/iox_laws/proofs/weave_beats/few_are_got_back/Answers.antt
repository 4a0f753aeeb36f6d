use Rattle.iox_laws.proofs.WeaveBeats.GetBacks.{few_are_got_back, get_backs_are_counted}
use Rattle.iox_laws.proofs.weave_beats.few_are_got_back.Goals as goal

pub returns-clause-counted : goal.returns-clause-counted
returns-clause-counted c = get_backs_are_counted

pub returns-clause-within : goal.returns-clause-within
returns-clause-within c = few_are_got_back
