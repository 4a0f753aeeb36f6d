use Rattle.std.proofs.Common.{◌≡◌, replicate, rules}
use Rattle.iox_sets.proofs.BitWordLemmas.{bits_in-replicate}
use Rattle.iox_sets.proofs.mpmc.bit_set.BitSet.new.Goals as goal

pub returns : goal.returns
returns c =
    let words : c.in_ok-words.words.items ≡ replicate c.div_ceil.result 0 = search rules in
    rw words (bits_in-replicate _ _)
