use Rattle.std.specs.Cmp.Lexicographic.{pointwise_decides}
use Rattle.iox_attributes.proofs.PairLemmas.{pair_eq-same, same-pair_eq}
use Rattle.iox_attributes.proofs.CountLemmas.{count-set_of, same-set_of, sorted-set_of}
use Rattle.iox_attributes.proofs.laws.sets_are_told_by_how_often_pairs_were_added.Goals as goal

pub returns-clause-equal : goal.returns-clause-equal
returns-clause-equal c = same-set_of

pub returns-clause-compared : goal.returns-clause-compared
returns-clause-compared c =
    pointwise_decides (λ x y. (same-pair_eq x y, λ same. rw same (pair_eq-same y)))

pub returns-clause-sorted : goal.returns-clause-sorted
returns-clause-sorted c = sorted-set_of

pub returns-clause-counted : goal.returns-clause-counted
returns-clause-counted c = count-set_of
