use Rattle.iox_laws.proofs.CallFunctions.Sent.{each_send_is_whole}
use Rattle.iox_laws.proofs.call_functions.sends.Goals as goal

pub returns : goal.returns
returns c = each_send_is_whole
