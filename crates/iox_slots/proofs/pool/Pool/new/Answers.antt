use Rattle.std.proofs.Common.{◌≡◌, List, ap, replicate, subst, sym, true, ◌∙◌}
use Rattle.std.specs.Vec.{vec_capacity}
use Rattle.iox_tables.specs.HubStates.Tables.{SlotState, no_slot}
use Rattle.iox_slots.specs.FreeLists.{IsFreeList}
use Rattle.iox_slots.specs.Lanes.{AreOnOwnLanesIf}
use Rattle.iox_slots.proofs.FreeListLemmas.{IsFreeList-new}
use Rattle.iox_slots.proofs.OwnLanes.{own_new}
use Rattle.iox_slots.proofs.pool.Pool.new.Goals as goal

pub invariant_of-result : goal.invariant_of-result
invariant_of-result c =
    let slots : c.in_ok-vec.field-0.items ≡ replicate c.args.size no_slot =
    c.in_ok-vec.ensures.items_if_clones_equal (λ y e. e) ∙ ap (replicate c.args.size) c.new.ensures in
    subst (λ (ss : List SlotState). IsFreeList ss c.in_ok-numbers.field-0.items (vec_capacity c.in_ok-numbers.field-0) × AreOnOwnLanesIf true ss) (sym slots) (
      IsFreeList-new c.args.size (vec_capacity c.in_ok-numbers.field-0) c.in_ok-numbers.field-0.items c.in_ok-numbers.ensures.numbers c.in_ok-numbers.ensures.memory,
      own_new true c.args.size,
    )
