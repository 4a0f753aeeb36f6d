use Rattle.std.proofs.Common.{◌<◌, ◌-◌, ◌^◌, arith, ap, sym, subst, ◌∙◌}
use Rattle.iox_tables.specs.HubStates.Tables.{PoolState, SlotState, is_free}
use Rattle.iox_slots.specs.Slots.{held, slot_in}
use Rattle.iox_slots.proofs.ListLemmas.{read_is}
use Rattle.iox_slots.proofs.FreeListLemmas.{IsFreeList-change, changed_is, held_taken, slot_is, taken_below}
use Rattle.iox_slots.proofs.OwnLanes.{own_stays}
use Rattle.iox_slots.proofs.pool.Pool.hold.Goals as goal

pub index_mut-requires : goal.index_mut-requires
index_mut-requires c =
    let taken = subst (λ (p : PoolState). 0 < (slot_in p.slots c.args.k).holders) (sym c.self.view_is) c.requires.taken in
    omega (arith, taken_below c.self.inside.slots.items c.args.k taken, c.self.inside.slots.ok.0)

pub hold-requires : goal.hold-requires
hold-requires c =
    let taken = subst (λ (p : PoolState). 0 < (slot_in p.slots c.args.k).holders) (sym c.self.view_is) c.requires.taken in
    let fits = subst (λ (p : PoolState). (slot_in p.slots c.args.k).holders < 2 ^ 64 - 1) (sym c.self.view_is) c.requires.fits in
    subst (λ (s : SlotState). s.holders < 2 ^ 64 - 1)
    (slot_is c.self.inside.slots.items c.args.k c.index_mut.result.now
    (read_is c.self.inside.slots.items c.args.k c.index_mut.result.now (taken_below c.self.inside.slots.items c.args.k taken) c.index_mut.ensures.value)) fits

pub invariant_of-self : goal.invariant_of-self
invariant_of-self c =
    let taken = subst (λ (p : PoolState). 0 < (slot_in p.slots c.args.k).holders) (sym c.self.view_is) c.requires.taken in
    let at = read_is c.self.inside.slots.items c.args.k c.index_mut.result.now (taken_below c.self.inside.slots.items c.args.k taken) c.index_mut.ensures.value in
    let has = subst (λ (s : SlotState). 0 < s.holders) (slot_is c.self.inside.slots.items c.args.k c.index_mut.result.now at) taken in (
      IsFreeList-change c.self.inside.slots.items c.self.inside.free.items c.args.k _ c.index_mut.result.now c.hold.new.self c.self.invariant.0 at
          (ap (λ (s : SlotState). is_free s) c.hold.ensures ∙ held_taken c.self.inside.slots.items c.args.k c.index_mut.result.now at taken),
      own_stays c.self.inside.own c.self.inside.slots.items c.args.k c.index_mut.result.now c.hold.new.self c.self.invariant.1 at
          (ap (λ (s : SlotState). s.lane) c.hold.ensures) (λ _. has),
    )

pub returns : goal.returns
returns c =
    let taken = subst (λ (p : PoolState). 0 < (slot_in p.slots c.args.k).holders) (sym c.self.view_is) c.requires.taken in
    rw (← c.self.view_is)
    (changed_is held c.self.inside.port c.self.inside.node_id c.self.inside.port_id c.self.inside.slots.items c.args.k c.index_mut.result.now c.hold.new.self
    (read_is c.self.inside.slots.items c.args.k c.index_mut.result.now (taken_below c.self.inside.slots.items c.args.k taken) c.index_mut.ensures.value)
    c.hold.ensures)
