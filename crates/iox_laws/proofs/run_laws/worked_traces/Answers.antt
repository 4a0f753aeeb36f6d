use Rattle.iox_laws.proofs.RunLaws.WorkedTracesHold.{traces_the_requests}
use Rattle.iox_laws.proofs.run_laws.worked_traces.Goals as goal

pub returns : goal.returns
returns c = traces_the_requests
