use Rattle.std.proofs.Common.{List, [], arith, subst, sym, true, ℕ}
use Rattle.std.specs.Vec.{vec_capacity}
use Rattle.iox_tables.specs.HubStates.Tables.{SlotState}
use Rattle.iox_slots.specs.FreeLists.{IsFreeList}
use Rattle.iox_slots.specs.Lanes.{AreOnOwnLanesIf}
use Rattle.iox_slots.proofs.FreeListLemmas.{IsFreeList-new, no_numbers}
use Rattle.iox_slots.proofs.OwnLanes.{own_new}
use Rattle.iox_slots.proofs.pool.Pool.none.Goals as goal

pub invariant_of-result : goal.invariant_of-result
invariant_of-result c =
    let none : IsFreeList [] [] (vec_capacity c.new-2.result) = IsFreeList-new 0 (vec_capacity c.new-2.result) [] no_numbers (omega arith) in
    subst (λ (ss : List SlotState). IsFreeList ss c.new-2.result.items (vec_capacity c.new-2.result) × AreOnOwnLanesIf true ss) (sym c.new.ensures.items)
    (subst (λ (ks : List ℕ). IsFreeList [] ks (vec_capacity c.new-2.result)) (sym c.new-2.ensures.items) none, own_new true 0)
