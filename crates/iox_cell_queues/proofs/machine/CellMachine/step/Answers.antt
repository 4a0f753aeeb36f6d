use Rattle.std.proofs.Common.{sym, subst, IfOk}
use Rattle.iox_cell_queues.specs.CellQueues.{CellMachineState, CellInvariant}
use Rattle.iox_cell_queues.specs.CellMachines.{IsEvent}
use Rattle.iox_cell_queues.proofs.EntryLemmas.{StepEnters, step_enters}
use Rattle.iox_cell_queues.proofs.EventLemmas.{events_of}
use Rattle.iox_cell_queues.proofs.machine.CellMachine.step.Goals as goal

pub returns-clause-event : goal.returns-clause-event
returns-clause-event g c =
    let holds = subst (λ (w : CellMachineState _ _). CellInvariant g.T.Words w) (sym c.self.view_is) c.holds.ensures.queue in
    subst (λ (w : CellMachineState _ _). IfOk c.step.result (λ answer. IsEvent g.T.Words w c.args.party answer c.step.new.self)) c.self.view_is
    (events_of g.T.Words _ _ c.args.party c.step.result holds c.step.ensures.stepped)

pub returns-clause-entered : goal.returns-clause-entered
returns-clause-entered g c =
    (subst (λ (w : CellMachineState _ _). StepEnters g.T.Words w c.args.party c.step.new.self c.step.result) c.self.view_is
    (step_enters g.T.Words _ c.args.party _ c.step.result c.step.ensures.stepped c.step.ensures.unchanged)).0

pub returns-clause-answer : goal.returns-clause-answer
returns-clause-answer g c =
    (subst (λ (w : CellMachineState _ _). StepEnters g.T.Words w c.args.party c.step.new.self c.step.result) c.self.view_is
    (step_enters g.T.Words _ c.args.party _ c.step.result c.step.ensures.stepped c.step.ensures.unchanged)).1

pub returns-clause-stands : goal.returns-clause-stands
returns-clause-stands g c =
    (subst (λ (w : CellMachineState _ _). StepEnters g.T.Words w c.args.party c.step.new.self c.step.result) c.self.view_is
    (step_enters g.T.Words _ c.args.party _ c.step.result c.step.ensures.stepped c.step.ensures.unchanged)).2
