use Rattle.std.proofs.Common.{◌<◌, arith, sym, subst}
use Rattle.iox_tables.specs.HubStates.Tables.{SlotState}
use Rattle.iox_slots.specs.Slots.{let_go}
use Rattle.iox_slots.proofs.ListLemmas.{read_is}
use Rattle.iox_slots.proofs.FreeListLemmas.{nothing_to_let_go, slot_is, some_have, stays, taken_is}
use Rattle.iox_slots.proofs.pool.Pool.let_go.Goals as goal

pub returns-then-is_free-clause-left : goal.returns-then-is_free-clause-left
returns-then-is_free-clause-left c =
    rw (← c.self.view_is)
    (stays let_go c.self.inside.port c.self.inside.node_id c.self.inside.port_id c.self.inside.slots.items c.args.k c.index.result.now
    (read_is c.self.inside.slots.items c.args.k c.index.result.now (omega (arith, c.if-place-len.false, c.len.ensures, c.self.inside.slots.ok.0)) c.index.ensures)
    (nothing_to_let_go c.index.result.now (sym c.if-is_free.ensures)))

pub leave-requires : goal.leave-requires
leave-requires c =
    rw (← c.self.view_is)
    (subst (λ (s : SlotState). 0 < s.holders)
    (sym (slot_is c.self.inside.slots.items c.args.k c.index.result.now
    (read_is c.self.inside.slots.items c.args.k c.index.result.now (omega (arith, c.if-place-len.false, c.len.ensures, c.self.inside.slots.ok.0)) c.index.ensures)))
    (some_have c.index.result.now (sym c.if-is_free.ensures)))

pub returns-clause-had : goal.returns-clause-had
returns-clause-had c =
    rw (← c.self.view_is)
    (taken_is c.self.inside.slots.items c.args.k c.index.result.now
    (read_is c.self.inside.slots.items c.args.k c.index.result.now (omega (arith, c.if-place-len.false, c.len.ensures, c.self.inside.slots.ok.0)) c.index.ensures)
    (sym c.if-is_free.ensures))
