use Rattle.iox_laws.proofs.CallFunctions.Calling.{each_call_is_whole}
use Rattle.iox_laws.proofs.call_functions.calls.Goals as goal

pub returns : goal.returns
returns c = each_call_is_whole
