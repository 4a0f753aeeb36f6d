use Rattle.std.proofs.Common.{sym, refl, ◌∙◌, arith, rules}
use Rattle.iox_sets.specs.Words.{IsFirstUsed, IsUnusedFrom}
use Rattle.iox_sets.proofs.BitWordLemmas.{length-bits_in}
use Rattle.iox_sets.proofs.BitScanLemmas.{lowest-unused, lowest-found, found_within, bits_in-found, IsWholeSet-found}
use Rattle.iox_sets.proofs.mpmc.bit_set.BitSet.reset_next.Goals as goal

pub returns-in_err-place-clause-lowest : goal.returns-in_err-place-clause-lowest
returns-in_err-place-clause-lowest c =
    let unused : IsUnusedFrom c.self.inside.words.items 0 = rw (← c.deref.ensures.value) c.in_err-place.ensures.none in
    c.from_residual.ensures ∙ sym (lowest-unused _ _ c.self.invariant _ c.self.view_is unused)

pub overflow_mul-result : goal.overflow_mul-result
overflow_mul-result c =
    let first : IsFirstUsed c.self.inside.words.items 0 c.in_ok-place.place = rw (← c.deref.ensures.value) c.in_ok-place.ensures.found in
    let within = found_within _ _ c.self.invariant _ c.self.view_is _ _ first c.index-word.ensures (omega arith) in
    search rules

pub overflow_add-result : goal.overflow_add-result
overflow_add-result c =
    let first : IsFirstUsed c.self.inside.words.items 0 c.in_ok-place.place = rw (← c.deref.ensures.value) c.in_ok-place.ensures.found in
    let within = found_within _ _ c.self.invariant _ c.self.view_is _ _ first c.index-word.ensures (omega arith) in
    search rules

pub invariant_of-self : goal.invariant_of-self
invariant_of-self c =
    let first : IsFirstUsed c.self.inside.words.items 0 c.in_ok-place.place = rw (← c.deref.ensures.value) c.in_ok-place.ensures.found in
    IsWholeSet-found _ _ c.self.invariant _ c.self.view_is _ _ first c.index-word.ensures (omega arith) _ refl

pub returns-clause-lowest : goal.returns-clause-lowest
returns-clause-lowest c =
    let first : IsFirstUsed c.self.inside.words.items 0 c.in_ok-place.place = rw (← c.deref.ensures.value) c.in_ok-place.ensures.found in
    sym (lowest-found _ _ c.self.invariant _ c.self.view_is _ _ first c.index-word.ensures (omega arith))

pub returns-clause-cleared : goal.returns-clause-cleared
returns-clause-cleared c =
    let first : IsFirstUsed c.self.inside.words.items 0 c.in_ok-place.place = rw (← c.deref.ensures.value) c.in_ok-place.ensures.found in
    bits_in-found _ _ c.self.invariant _ c.self.view_is _ _ first c.index-word.ensures (omega arith) _ refl

pub returns-clause-within : goal.returns-clause-within
returns-clause-within c =
    let first : IsFirstUsed c.self.inside.words.items 0 c.in_ok-place.place = rw (← c.deref.ensures.value) c.in_ok-place.ensures.found in
    rw length-bits_in (found_within _ _ c.self.invariant _ c.self.view_is _ _ first c.index-word.ensures (omega arith))
