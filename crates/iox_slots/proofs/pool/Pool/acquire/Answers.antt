use Rattle.std.proofs.Common.{◌≡◌, ◌++◌, ◌∷◌, [], arith, ap, sym, ◌∙◌}
use Rattle.std.specs.Vec.{vec_capacity}
use Rattle.std.proofs.lemmas.Option.{slice_get_within}
use Rattle.iox_slots.specs.Slots.{held}
use Rattle.iox_slots.specs.FreeLists.{IsFreeList}
use Rattle.iox_slots.proofs.ListLemmas.{item_is}
use Rattle.iox_slots.proofs.FreeListLemmas.{IsFreeList-take, changed_is, found_free, free_holders, held_is_taken, last_is_free, moved}
use Rattle.iox_slots.proofs.OwnLanes.{not_known}
use Rattle.iox_slots.proofs.pool.Pool.acquire.Goals as goal
use Rattle.iox_tables.specs.HubStates.Tables.{is_free}

pub index-requires : goal.index-requires
index-requires c =
    let l : IsFreeList c.self.inside.slots.items (c.pop.new.self.items ++ c.in-Some.k ∷ []) (vec_capacity c.pop.new.self) =
    moved c.self.inside.slots.items c.self.inside.free.items (c.pop.new.self.items ++ c.in-Some.k ∷ []) _ _ c.in-Some.ensures.items (sym c.in-Some.ensures.capacity) c.self.invariant.0 in
    let found = last_is_free c.self.inside.slots.items c.pop.new.self.items c.in-Some.k _ l in
    omega (arith, slice_get_within c.self.inside.slots.items c.in-Some.k found.0 found.1, c.self.inside.slots.ok.0)

pub held-requires : goal.held-requires
held-requires c =
    let l : IsFreeList c.self.inside.slots.items (c.pop.new.self.items ++ c.in-Some.k ∷ []) (vec_capacity c.pop.new.self) =
    moved c.self.inside.slots.items c.self.inside.free.items (c.pop.new.self.items ++ c.in-Some.k ∷ []) _ _ c.in-Some.ensures.items (sym c.in-Some.ensures.capacity) c.self.invariant.0 in
    let found = last_is_free c.self.inside.slots.items c.pop.new.self.items c.in-Some.k _ l in
    let is : c.index.result.now ≡ found.0 = c.index.ensures ∙ item_is c.self.inside.slots.items c.in-Some.k found.0 c.index.result.now found.1 in
    let none : c.index.result.now.holders ≡ 0 = ap (λ s. s.holders) is ∙ free_holders found.0 found.2 in
    omega (arith, none)

pub index_mut-requires : goal.index_mut-requires
index_mut-requires c =
    let l : IsFreeList c.self.inside.slots.items (c.pop.new.self.items ++ c.in-Some.k ∷ []) (vec_capacity c.pop.new.self) =
    moved c.self.inside.slots.items c.self.inside.free.items (c.pop.new.self.items ++ c.in-Some.k ∷ []) _ _ c.in-Some.ensures.items (sym c.in-Some.ensures.capacity) c.self.invariant.0 in
    let found = last_is_free c.self.inside.slots.items c.pop.new.self.items c.in-Some.k _ l in
    omega (arith, slice_get_within c.self.inside.slots.items c.in-Some.k found.0 found.1, c.self.inside.slots.ok.0)

pub invariant_of-self : goal.invariant_of-self
invariant_of-self c =
    let l : IsFreeList c.self.inside.slots.items (c.pop.new.self.items ++ c.in-Some.k ∷ []) (vec_capacity c.pop.new.self) =
    moved c.self.inside.slots.items c.self.inside.free.items (c.pop.new.self.items ++ c.in-Some.k ∷ []) _ _ c.in-Some.ensures.items (sym c.in-Some.ensures.capacity) c.self.invariant.0 in
    let found = last_is_free c.self.inside.slots.items c.pop.new.self.items c.in-Some.k _ l in (
      IsFreeList-take c.self.inside.slots.items c.pop.new.self.items c.in-Some.k _ found.0 c.held.result l found.1 found.2
          (ap is_free c.held.ensures ∙ held_is_taken c.index.result.now),
      not_known _,
    )

pub returns-in-Some-clause-acquired : goal.returns-in-Some-clause-acquired
returns-in-Some-clause-acquired c =
    let l : IsFreeList c.self.inside.slots.items (c.pop.new.self.items ++ c.in-Some.k ∷ []) (vec_capacity c.pop.new.self) =
    moved c.self.inside.slots.items c.self.inside.free.items (c.pop.new.self.items ++ c.in-Some.k ∷ []) _ _ c.in-Some.ensures.items (sym c.in-Some.ensures.capacity) c.self.invariant.0 in
    let found = last_is_free c.self.inside.slots.items c.pop.new.self.items c.in-Some.k _ l in
    let is : c.index.result.now ≡ found.0 = c.index.ensures ∙ item_is c.self.inside.slots.items c.in-Some.k found.0 c.index.result.now found.1 in
    rw (← c.self.view_is) (
      found_free c.self.inside.slots.items c.in-Some.k found.0 found.1 found.2,
      changed_is held c.self.inside.port c.self.inside.node_id c.self.inside.port_id c.self.inside.slots.items c.in-Some.k found.0 c.held.result found.1 (c.held.ensures ∙ ap held is),
    )
