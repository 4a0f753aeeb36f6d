use Rattle.iox_laws.proofs.CallFunctions.Copying.{each_copy_is_whole}
use Rattle.iox_laws.proofs.call_functions.copies.Goals as goal

pub returns : goal.returns
returns c = each_copy_is_whole
