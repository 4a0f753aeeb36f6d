use Rattle.std.proofs.Common.{arith, ap}
use Rattle.iox_tables.specs.HubStates.Tables.{SlotState, is_free}
use Rattle.iox_slots.specs.Slots.{written}
use Rattle.iox_slots.proofs.ListLemmas.{read_is}
use Rattle.iox_slots.proofs.FreeListLemmas.{IsFreeList-change, changed_is}
use Rattle.iox_slots.proofs.OwnLanes.{not_known}
use Rattle.iox_slots.proofs.pool.Pool.write.Goals as goal

pub invariant_of-self : goal.invariant_of-self
invariant_of-self c = (
  IsFreeList-change c.self.inside.slots.items c.self.inside.free.items c.args.k _ c.index.result.now c.written.result c.self.invariant.0
      (read_is c.self.inside.slots.items c.args.k c.index.result.now (omega (arith, c.if-k-len.true, c.len.ensures, c.self.inside.slots.ok.0)) c.index.ensures)
      (ap (λ (s : SlotState). is_free s) c.written.ensures),
  not_known _,
)

pub returns-then-k-len-clause-written : goal.returns-then-k-len-clause-written
returns-then-k-len-clause-written c =
    rw (← c.self.view_is)
    (changed_is (written c.args.serial c.args.lane c.args.request c.args.elements) c.self.inside.port c.self.inside.node_id c.self.inside.port_id c.self.inside.slots.items c.args.k c.index.result.now c.written.result
    (read_is c.self.inside.slots.items c.args.k c.index.result.now (omega (arith, c.if-k-len.true, c.len.ensures, c.self.inside.slots.ok.0)) c.index.ensures)
    c.written.ensures)
