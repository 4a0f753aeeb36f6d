use Rattle.std.proofs.Common.{◌<◌, ℕ, length, sym, subst, ap}
use Rattle.iox_tables.specs.HubStates.Tables.{PoolState, SlotState, is_free}
use Rattle.iox_slots.specs.Slots.{rewritten}
use Rattle.iox_slots.proofs.ListLemmas.{read_is}
use Rattle.iox_slots.proofs.FreeListLemmas.{IsFreeList-change, changed_is}
use Rattle.iox_slots.proofs.OwnLanes.{own_stays}
use Rattle.iox_slots.proofs.pool.Pool.rewrite.Goals as goal

pub invariant_of-self : goal.invariant_of-self
invariant_of-self c =
    let low = subst (λ (p : PoolState). c.args.k < length p.slots) (sym c.self.view_is) c.requires in
    let at = read_is c.self.inside.slots.items c.args.k c.index_mut.result.now low c.index_mut.ensures.value in (
      IsFreeList-change c.self.inside.slots.items c.self.inside.free.items c.args.k _ c.index_mut.result.now c.rewrite.new.self c.self.invariant.0 at
          (ap (λ (s : SlotState). is_free s) c.rewrite.ensures),
      own_stays c.self.inside.own c.self.inside.slots.items c.args.k c.index_mut.result.now c.rewrite.new.self c.self.invariant.1 at
          (ap (λ (s : SlotState). s.lane) c.rewrite.ensures) (subst (λ (n : ℕ). 0 < n → 0 < c.index_mut.result.now.holders) (sym (ap (λ (s : SlotState). s.holders) c.rewrite.ensures)) (λ has. has)),
    )

pub returns : goal.returns
returns c =
    let low = subst (λ (p : PoolState). c.args.k < length p.slots) (sym c.self.view_is) c.requires in
    rw (← c.self.view_is)
    (changed_is (rewritten c.args.serial c.args.request c.args.elements) c.self.inside.port c.self.inside.node_id c.self.inside.port_id c.self.inside.slots.items c.args.k c.index_mut.result.now c.rewrite.new.self
    (read_is c.self.inside.slots.items c.args.k c.index_mut.result.now low c.index_mut.ensures.value)
    c.rewrite.ensures)
