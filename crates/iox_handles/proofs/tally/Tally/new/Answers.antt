use Rattle.iox_handles.proofs.TallyLemmas.{all_same}
use Rattle.iox_handles.proofs.tally.Tally.new.Goals as goal

pub returns-clause-none : goal.returns-clause-none
returns-clause-none c i = all_same 0 192 i
