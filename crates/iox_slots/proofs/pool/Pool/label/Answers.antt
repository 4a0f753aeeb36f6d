use Rattle.std.proofs.Common.{◌<◌, ◌∙◌, ap, arith, length, subst, sym}
use Rattle.iox_tables.specs.HubStates.Tables.{PoolState, SlotState}
use Rattle.iox_slots.proofs.ListLemmas.{read_is}
use Rattle.iox_slots.proofs.FreeListLemmas.{slot_is}
use Rattle.iox_slots.proofs.pool.Pool.label.Goals as goal

pub index-slot-requires : goal.index-slot-requires
index-slot-requires c =
    let below = subst (λ (p : PoolState). c.args.k < length p.slots) (sym c.self.view_is) c.requires in
    omega (arith, below, c.self.inside.slots.ok.0)

pub returns-clause-lane : goal.returns-clause-lane
returns-clause-lane c =
    let below = subst (λ (p : PoolState). c.args.k < length p.slots) (sym c.self.view_is) c.requires in
    rw (← c.self.view_is)
    (c.lane.ensures ∙ ap (λ (s : SlotState). s.lane) (sym (slot_is c.self.inside.slots.items c.args.k c.index-slot.result.now (read_is c.self.inside.slots.items c.args.k c.index-slot.result.now below c.index-slot.ensures))))

pub returns-clause-request : goal.returns-clause-request
returns-clause-request c =
    let below = subst (λ (p : PoolState). c.args.k < length p.slots) (sym c.self.view_is) c.requires in
    rw (← c.self.view_is)
    (c.request.ensures ∙ ap (λ (s : SlotState). s.request) (sym (slot_is c.self.inside.slots.items c.args.k c.index-slot.result.now (read_is c.self.inside.slots.items c.args.k c.index-slot.result.now below c.index-slot.ensures))))
