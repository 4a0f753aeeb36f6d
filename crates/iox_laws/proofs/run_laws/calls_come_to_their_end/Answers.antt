use Rattle.iox_laws.proofs.RunLaws.Answered.{each_call_ends}
use Rattle.iox_laws.proofs.RunLaws.Choices.{something_may_be_chosen}
use Rattle.iox_laws.proofs.run_laws.calls_come_to_their_end.Goals as goal

pub returns-clause-chosen : goal.returns-clause-chosen
returns-clause-chosen c = something_may_be_chosen

pub returns-clause-ends : goal.returns-clause-ends
returns-clause-ends c = each_call_ends
