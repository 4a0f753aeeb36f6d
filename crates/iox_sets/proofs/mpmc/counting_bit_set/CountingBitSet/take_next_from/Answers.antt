use Rattle.std.proofs.Common.{◌≡◌, Some, get_or, sym, ap, ◌∙◌}
use Rattle.std.proofs.lemmas.List.{get_or_read}
use Rattle.iox_sets.specs.Words.{IsFirstUsed, IsUnusedFrom}
use Rattle.iox_sets.proofs.CountLemmas.{first-unused, first-used}
use Rattle.iox_sets.proofs.mpmc.counting_bit_set.CountingBitSet.take_next_from.Goals as goal

pub returns-in_err-bit-clause-lowest : goal.returns-in_err-bit-clause-lowest
returns-in_err-bit-clause-lowest c =
    let unused : IsUnusedFrom c.args.self.now c.args.from = rw (← c.self.view_is, ← c.deref.ensures.value) c.in_err-bit.ensures.none in
    c.from_residual.ensures ∙ sym (first-unused c.args.self.now c.args.from c.requires unused)

pub returns-clause-lowest : goal.returns-clause-lowest
returns-clause-lowest c =
    let first : IsFirstUsed c.args.self.now c.args.from c.in_ok-bit.bit = rw (← c.self.view_is, ← c.deref.ensures.value) c.in_ok-bit.ensures.found in
    let count : c.index-count.result.now ≡ get_or c.args.self.now c.in_ok-bit.bit 0 =
    rw (← c.self.view_is) (get_or_read c.self.inside.counts.items _ _ (rw (c.self.view_is) first.within) c.index-count.ensures 0) in
    ap (λ n. Some (record { bit = c.in_ok-bit.bit; count = n })) count ∙ sym (first-used c.args.self.now c.args.from c.requires c.in_ok-bit.bit first)
