use Rattle.std.proofs.Common.{◌≡◌, ℕ, length, replicate, sym, ap, ◌∙◌}
use Rattle.std.proofs.lemmas.List.{length-replicate, with_items_is}
use Rattle.std.specs.Vec.{with_items}
use Rattle.iox_sets.specs.BitSets.{no_bits, set_bits}
use Rattle.iox_sets.specs.BitWords.{bits_in, numbers_from}
use Rattle.iox_sets.proofs.BitNumberLemmas.{set_bits-words}
use Rattle.iox_sets.proofs.BitWordLemmas.{bits_in-replicate, length-bits_in}
use Rattle.iox_sets.proofs.mpmc.bit_set.BitSet.reset_all.Goals as goal

pub returns-clause-called : goal.returns-clause-called
returns-clause-called g c =
    let same : set_bits c.args.self.now ≡ numbers_from 0 c.self.inside.words.items
    = ap set_bits (sym c.self.view_is) ∙ set_bits-words c.self.inside.words.items c.self.inside.capacity c.self.invariant in
    rw (same, ← c.deref_mut.ensures.value) c.take_bits.ensures.called

pub returns-clause-cleared : goal.returns-clause-cleared
returns-clause-cleared g c =
    let size = length-replicate {A = ℕ} (length c.deref_mut.result.now) 0 in
    let words : (with_items c.self.inside.words c.take_bits.new.words).items ≡ replicate (length c.deref_mut.result.now) 0
    = with_items_is c.self.inside.words c.take_bits.new.words (ap length c.take_bits.ensures.cleared ∙ size ∙ c.deref_mut.ensures.len)
    ∙ c.take_bits.ensures.cleared in
    ap (λ items. bits_in items c.self.inside.capacity) words
    ∙ bits_in-replicate (length c.deref_mut.result.now) c.self.inside.capacity
    ∙ ap no_bits (sym (length-bits_in c.self.inside.words.items c.self.inside.capacity) ∙ ap length c.self.view_is)
