use Rattle.iox_laws.proofs.WeaveLaws.CallLaws.{receives_own}
use Rattle.iox_laws.proofs.WeaveLaws.NamedLaws.{receives_named}
use Rattle.iox_laws.proofs.weave_laws.messages_come_at_their_request.Goals as goal

pub returns-clause-response : goal.returns-clause-response
returns-clause-response c = receives_own

pub returns-clause-request : goal.returns-clause-request
returns-clause-request c = receives_named
