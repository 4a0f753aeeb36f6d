use Rattle.std.proofs.Common.{◌≡◌, subst}
use Rattle.iox_steps.specs.declared.machine.Entry.TheVariants.{Begin}
use Rattle.iox_cell_queues.specs.CellQueues.{CellMachineState}
use Rattle.iox_cell_queues.specs.CellEntries.{plain, site_of, plain_entered}
use Rattle.iox_cell_queues.proofs.EntryLemmas.{begin_enters}
use Rattle.iox_cell_queues.proofs.machine.CellMachine.begin.Goals as goal

pub returns-clause-entered : goal.returns-clause-entered
returns-clause-entered g c =
    subst (λ (w : CellMachineState _ _). plain c.begin.new.self ≡ plain_entered g.T.Words (plain w) (Begin c.args.party c.args.call)) c.self.view_is
    (begin_enters g.T.Words _ c.args.party c.args.call _ c.begin.result c.begin.ensures.begun c.begin.ensures.refused c.begin.ensures.unchanged).0

pub returns-clause-stands : goal.returns-clause-stands
returns-clause-stands g c =
    subst (λ (w : CellMachineState _ _). site_of c.begin.new.self ≡ site_of w) c.self.view_is
    (begin_enters g.T.Words _ c.args.party c.args.call _ c.begin.result c.begin.ensures.begun c.begin.ensures.refused c.begin.ensures.unchanged).1
