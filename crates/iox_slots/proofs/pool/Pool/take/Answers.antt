use Rattle.std.proofs.Common.{◌++◌, ◌∷◌, [], arith, ap, sym}
use Rattle.std.specs.Vec.{vec_capacity}
use Rattle.std.proofs.lemmas.Option.{slice_get_within}
use Rattle.iox_slots.specs.FreeLists.{IsFreeList}
use Rattle.iox_slots.proofs.FreeListLemmas.{IsFreeList-take, found_free, last_is_free, moved}
use Rattle.iox_slots.proofs.OwnLanes.{not_known}
use Rattle.iox_slots.proofs.pool.Pool.take.Goals as goal
use Rattle.iox_tables.specs.HubStates.Tables.{SlotState, is_free}
use Rattle.iox_tables.specs.HubLoans.Slots.{put_slot_of}

pub index_mut-requires : goal.index_mut-requires
index_mut-requires c =
    let l : IsFreeList c.self.inside.slots.items (c.pop.new.self.items ++ c.in-Some.k ∷ []) (vec_capacity c.pop.new.self) =
    moved c.self.inside.slots.items c.self.inside.free.items (c.pop.new.self.items ++ c.in-Some.k ∷ []) _ _ c.in-Some.ensures.items (sym c.in-Some.ensures.capacity) c.self.invariant.0 in
    let found = last_is_free c.self.inside.slots.items c.pop.new.self.items c.in-Some.k _ l in
    omega (arith, slice_get_within c.self.inside.slots.items c.in-Some.k found.0 found.1, c.self.inside.slots.ok.0)

pub invariant_of-self : goal.invariant_of-self
invariant_of-self c =
    let l : IsFreeList c.self.inside.slots.items (c.pop.new.self.items ++ c.in-Some.k ∷ []) (vec_capacity c.pop.new.self) =
    moved c.self.inside.slots.items c.self.inside.free.items (c.pop.new.self.items ++ c.in-Some.k ∷ []) _ _ c.in-Some.ensures.items (sym c.in-Some.ensures.capacity) c.self.invariant.0 in
    let found = last_is_free c.self.inside.slots.items c.pop.new.self.items c.in-Some.k _ l in (
      IsFreeList-take c.self.inside.slots.items c.pop.new.self.items c.in-Some.k _ found.0 c.taken.result l found.1 found.2 (ap is_free c.taken.ensures),
      not_known _,
    )

pub returns-in-Some-clause-taken : goal.returns-in-Some-clause-taken
returns-in-Some-clause-taken c =
    let l : IsFreeList c.self.inside.slots.items (c.pop.new.self.items ++ c.in-Some.k ∷ []) (vec_capacity c.pop.new.self) =
    moved c.self.inside.slots.items c.self.inside.free.items (c.pop.new.self.items ++ c.in-Some.k ∷ []) _ _ c.in-Some.ensures.items (sym c.in-Some.ensures.capacity) c.self.invariant.0 in
    let found = last_is_free c.self.inside.slots.items c.pop.new.self.items c.in-Some.k _ l in
    rw (← c.self.view_is) (
      found_free c.self.inside.slots.items c.in-Some.k found.0 found.1 found.2,
      ap (λ (s : SlotState). put_slot_of c.in-Some.k s (record {
        port = c.self.inside.port;
        node_id = c.self.inside.node_id;
        port_id = c.self.inside.port_id;
        slots = c.self.inside.slots.items;
      })) c.taken.ensures,
    )
