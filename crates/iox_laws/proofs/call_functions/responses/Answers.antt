use Rattle.iox_laws.proofs.CallFunctions.Responding.{each_response_send_is_whole}
use Rattle.iox_laws.proofs.call_functions.responses.Goals as goal

pub returns : goal.returns
returns c = each_response_send_is_whole
