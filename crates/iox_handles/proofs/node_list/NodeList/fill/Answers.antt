use Rattle.std.proofs.Common.{rules, refl}
use Rattle.std.proofs.lemmas.List.Sorted.{IsNonDecreasingBy-from_sort_by_key}
use Rattle.iox_handles.specs.declared.numbered.Numbered.{Numbered}
use Rattle.iox_handles.specs.Places.{handles_there}
use Rattle.iox_handles.proofs.NodeListLemmas.{sorted_listed}
use Rattle.iox_handles.proofs.node_list.NodeList.fill.Goals as goal

pub invariant_of-self : goal.invariant_of-self
invariant_of-self c =
    IsNonDecreasingBy-from_sort_by_key (λ (v : Numbered). v.number) _ c.sort_unstable_by_key.ensures.sorted (λ a r q k. search rules)

pub returns-clause-listed : goal.returns-clause-listed
returns-clause-listed c =
    sorted_listed (handles_there c.args.places.now)
    (record { list = c.sort_unstable_by_key.new.self.items; from = 0; node = c.args.node; next = c.args.next; room = 0 })
    c.list_in.new.list.items c.list_in.ensures.listed c.sort_unstable_by_key.ensures.permutation refl
