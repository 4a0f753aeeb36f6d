use Rattle.iox_laws.proofs.CallFunctions.Overflowing.{each_overflowing_send_is_whole}
use Rattle.iox_laws.proofs.call_functions.sends_over.Goals as goal

pub returns : goal.returns
returns c = each_overflowing_send_is_whole
