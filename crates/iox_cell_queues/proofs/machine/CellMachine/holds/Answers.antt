use Rattle.std.proofs.Common.{subst}
use Rattle.iox_cell_queues.specs.CellQueues.{CellMachineState, CellInvariant}
use Rattle.iox_cell_queues.proofs.EntryLemmas.{cell_order}
use Rattle.iox_cell_queues.proofs.machine.CellMachine.holds.Goals as goal

pub returns-clause-order : goal.returns-clause-order
returns-clause-order g c =
    (cell_order g.T.Words c.args.self.now (subst (λ (w : CellMachineState _ _). CellInvariant g.T.Words w) c.self.view_is c.holds.ensures)).0

pub returns-clause-bounded : goal.returns-clause-bounded
returns-clause-bounded g c =
    (cell_order g.T.Words c.args.self.now (subst (λ (w : CellMachineState _ _). CellInvariant g.T.Words w) c.self.view_is c.holds.ensures)).1
