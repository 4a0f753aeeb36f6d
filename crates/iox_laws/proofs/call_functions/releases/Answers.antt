use Rattle.iox_laws.proofs.CallFunctions.Releasing.{each_release_is_whole}
use Rattle.iox_laws.proofs.call_functions.releases.Goals as goal

pub returns : goal.returns
returns c = each_release_is_whole
