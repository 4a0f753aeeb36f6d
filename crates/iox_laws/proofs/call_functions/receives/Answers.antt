use Rattle.iox_laws.proofs.CallFunctions.Received.{each_receive_is_whole}
use Rattle.iox_laws.proofs.call_functions.receives.Goals as goal

pub returns : goal.returns
returns c = each_receive_is_whole
