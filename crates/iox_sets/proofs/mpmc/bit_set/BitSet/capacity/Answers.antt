use Rattle.std.proofs.Common.{length, sym, ap, ◌∙◌}
use Rattle.iox_sets.proofs.BitWordLemmas.{length-bits_in}
use Rattle.iox_sets.proofs.mpmc.bit_set.BitSet.capacity.Goals as goal

pub returns : goal.returns
returns c = sym (length-bits_in c.self.inside.words.items _) ∙ ap length c.self.view_is
