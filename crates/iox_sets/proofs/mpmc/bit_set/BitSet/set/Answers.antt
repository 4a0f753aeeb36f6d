use Rattle.std.proofs.Common.{◌<◌, not, length, sym, ap, ◌∙◌, arith}
use Rattle.iox_sets.specs.BitSets.{bit, with_bit}
use Rattle.iox_sets.proofs.BitWordLemmas.{length-bits_in, bits_in-with, IsWholeSet-with, not_bit_in}
use Rattle.iox_sets.proofs.mpmc.bit_set.BitSet.set.Goals as goal

pub index-word-requires : goal.index-word-requires
index-word-requires c =
    let size = sym (length-bits_in c.self.inside.words.items c.self.inside.capacity) ∙ ap length c.self.view_is in
    let room = c.self.invariant.room in
    let counted = c.self.inside.words.ok.0 in
    omega arith

pub index_mut-requires : goal.index_mut-requires
index_mut-requires c =
    let size = sym (length-bits_in c.self.inside.words.items c.self.inside.capacity) ∙ ap length c.self.view_is in
    let room = c.self.invariant.room in
    let counted = c.self.inside.words.ok.0 in
    omega arith

pub invariant_of-self : goal.invariant_of-self
invariant_of-self c =
    let size = sym (length-bits_in c.self.inside.words.items c.self.inside.capacity) ∙ ap length c.self.view_is in
    let below : c.args.id < c.self.inside.capacity = omega arith in
    IsWholeSet-with c.self.inside.words.items _ c.args.id _ c.self.invariant below c.index-word.ensures

pub returns-clause-changed : goal.returns-clause-changed
returns-clause-changed c =
    let size = sym (length-bits_in c.self.inside.words.items c.self.inside.capacity) ∙ ap length c.self.view_is in
    let below : c.args.id < c.self.inside.capacity = omega arith in
    not_bit_in c.self.inside.words.items _ c.args.id _ c.self.invariant below c.index-word.ensures
    ∙ ap (λ bits. not (bit bits c.args.id)) c.self.view_is

pub returns-clause-set : goal.returns-clause-set
returns-clause-set c =
    let size = sym (length-bits_in c.self.inside.words.items c.self.inside.capacity) ∙ ap length c.self.view_is in
    let below : c.args.id < c.self.inside.capacity = omega arith in
    bits_in-with c.self.inside.words.items _ c.args.id _ c.self.invariant below c.index-word.ensures
    ∙ ap (λ bits. with_bit bits c.args.id) c.self.view_is
