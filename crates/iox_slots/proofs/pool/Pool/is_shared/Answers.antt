use Rattle.std.proofs.Common.{◌<◌, ◌∙◌, ap, arith, length, subst, sym}
use Rattle.std.specs.Prelude.{nat_lt}
use Rattle.iox_tables.specs.HubStates.Tables.{PoolState, SlotState}
use Rattle.iox_slots.proofs.ListLemmas.{read_is}
use Rattle.iox_slots.proofs.FreeListLemmas.{slot_is}
use Rattle.iox_slots.proofs.pool.Pool.is_shared.Goals as goal

pub index-requires : goal.index-requires
index-requires c =
    let below = subst (λ (p : PoolState). c.args.k < length p.slots) (sym c.self.view_is) c.requires in
    omega (arith, below, c.self.inside.slots.ok.0)

pub returns : goal.returns
returns c =
    let below = subst (λ (p : PoolState). c.args.k < length p.slots) (sym c.self.view_is) c.requires in
    rw (← c.self.view_is)
    (ap (nat_lt 1) (c.holders.ensures ∙ ap (λ (s : SlotState). s.holders) (sym (slot_is c.self.inside.slots.items c.args.k c.index.result.now (read_is c.self.inside.slots.items c.args.k c.index.result.now below c.index.ensures)))))
