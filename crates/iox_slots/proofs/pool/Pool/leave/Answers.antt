use Rattle.std.proofs.Common.{◌<◌, arith, ap, sym, subst, ◌∙◌}
use Rattle.std.specs.Vec.{vec_capacity}
use Rattle.iox_tables.specs.HubStates.Tables.{PoolState, SlotState}
use Rattle.iox_slots.specs.Slots.{let_go, slot_in}
use Rattle.iox_slots.proofs.ListLemmas.{read_is}
use Rattle.iox_slots.proofs.FreeListLemmas.{IsFreeList-change, IsFreeList-give, changed_is, has_memory, moved, not_free, slot_is, taken_below}
use Rattle.iox_slots.proofs.OwnLanes.{own_stays}
use Rattle.iox_slots.proofs.pool.Pool.leave.Goals as goal

pub push_reserved-requires : goal.push_reserved-requires
push_reserved-requires c =
    let taken = subst (λ (p : PoolState). 0 < (slot_in p.slots c.args.k).holders) (sym c.self.view_is) c.requires in
    let at = read_is c.self.inside.slots.items c.args.k c.index_mut.result.now (taken_below c.self.inside.slots.items c.args.k taken) c.index_mut.ensures.value in
    let has = subst (λ (s : SlotState). 0 < s.holders) (slot_is c.self.inside.slots.items c.args.k c.index_mut.result.now at) taken in
    omega (
      arith,
      c.self.inside.free.ok.0,
      has_memory c.self.inside.slots.items c.self.inside.free.items c.args.k (vec_capacity c.self.inside.free) c.index_mut.result.now c.leave.new.self c.self.invariant.0
          at (not_free c.index_mut.result.now has) (sym c.leave.ensures.freed ∙ c.if-leave.true),
    )

pub invariant_of-self : goal.invariant_of-self
invariant_of-self c =
    let taken = subst (λ (p : PoolState). 0 < (slot_in p.slots c.args.k).holders) (sym c.self.view_is) c.requires in
    let at = read_is c.self.inside.slots.items c.args.k c.index_mut.result.now (taken_below c.self.inside.slots.items c.args.k taken) c.index_mut.ensures.value in
    let has = subst (λ (s : SlotState). 0 < s.holders) (slot_is c.self.inside.slots.items c.args.k c.index_mut.result.now at) taken in (
      moved _ _ _ (vec_capacity c.self.inside.free) _ (sym c.push_reserved.ensures.items) (sym c.push_reserved.ensures.capacity)
          (IsFreeList-give c.self.inside.slots.items c.self.inside.free.items c.args.k (vec_capacity c.self.inside.free) c.index_mut.result.now c.leave.new.self c.self.invariant.0
          at (not_free c.index_mut.result.now has) (sym c.leave.ensures.freed ∙ c.if-leave.true)),
      own_stays c.self.inside.own c.self.inside.slots.items c.args.k c.index_mut.result.now c.leave.new.self c.self.invariant.1 at
          (ap (λ (s : SlotState). s.lane) c.leave.ensures.left) (λ _. has),
    )

pub invariant_of-self-else-leave : goal.invariant_of-self-else-leave
invariant_of-self-else-leave c =
    let taken = subst (λ (p : PoolState). 0 < (slot_in p.slots c.args.k).holders) (sym c.self.view_is) c.requires in
    let at = read_is c.self.inside.slots.items c.args.k c.index_mut.result.now (taken_below c.self.inside.slots.items c.args.k taken) c.index_mut.ensures.value in
    let has = subst (λ (s : SlotState). 0 < s.holders) (slot_is c.self.inside.slots.items c.args.k c.index_mut.result.now at) taken in (
      IsFreeList-change c.self.inside.slots.items c.self.inside.free.items c.args.k _ c.index_mut.result.now c.leave.new.self c.self.invariant.0 at
          (sym c.leave.ensures.freed ∙ c.if-leave.false ∙ sym (not_free c.index_mut.result.now has)),
      own_stays c.self.inside.own c.self.inside.slots.items c.args.k c.index_mut.result.now c.leave.new.self c.self.invariant.1 at
          (ap (λ (s : SlotState). s.lane) c.leave.ensures.left) (λ _. has),
    )

pub returns-then-leave : goal.returns-then-leave
returns-then-leave c =
    let taken = subst (λ (p : PoolState). 0 < (slot_in p.slots c.args.k).holders) (sym c.self.view_is) c.requires in
    rw (← c.self.view_is)
    (changed_is let_go c.self.inside.port c.self.inside.node_id c.self.inside.port_id c.self.inside.slots.items c.args.k c.index_mut.result.now c.leave.new.self
    (read_is c.self.inside.slots.items c.args.k c.index_mut.result.now (taken_below c.self.inside.slots.items c.args.k taken) c.index_mut.ensures.value)
    c.leave.ensures.left)

pub returns-else-leave : goal.returns-else-leave
returns-else-leave c =
    let taken = subst (λ (p : PoolState). 0 < (slot_in p.slots c.args.k).holders) (sym c.self.view_is) c.requires in
    rw (← c.self.view_is)
    (changed_is let_go c.self.inside.port c.self.inside.node_id c.self.inside.port_id c.self.inside.slots.items c.args.k c.index_mut.result.now c.leave.new.self
    (read_is c.self.inside.slots.items c.args.k c.index_mut.result.now (taken_below c.self.inside.slots.items c.args.k taken) c.index_mut.ensures.value)
    c.leave.ensures.left)
