use Rattle.iox_laws.proofs.WeaveLaws.KeptWords.{words_are_kept}
use Rattle.iox_laws.proofs.weave_laws.words_are_kept.Goals as goal

pub returns : goal.returns
returns c = words_are_kept
