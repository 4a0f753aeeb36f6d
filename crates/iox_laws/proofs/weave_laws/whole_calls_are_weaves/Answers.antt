use Rattle.iox_laws.proofs.WeaveLaws.WholeLemmas.{whole_call_is_weave, weave_is_whole_call}
use Rattle.iox_laws.proofs.weave_laws.whole_calls_are_weaves.Goals as goal

pub returns-clause-whole_call : goal.returns-clause-whole_call
returns-clause-whole_call c = whole_call_is_weave

pub returns-clause-weave : goal.returns-clause-weave
returns-clause-weave c = weave_is_whole_call
