use Rattle.std.proofs.Common.{◌≡◌, sym, subst, OnOk}
use Rattle.iox_cell_queues.specs.CellQueues.{CellMachineState, CellInvariant}
use Rattle.iox_cell_queues.specs.CellMachines.{IsInterleaving}
use Rattle.iox_cell_queues.specs.CellEntries.{plain, site_of, plain_after}
use Rattle.iox_cell_queues.proofs.EntryLemmas.{cell_schedule_ends, schedule_stands}
use Rattle.iox_cell_queues.proofs.PlaysLemmas.{schedule_plays}
use Rattle.iox_cell_queues.proofs.machine.CellMachine.run.Goals as goal

pub returns-clause-happened : goal.returns-clause-happened
returns-clause-happened g c =
    let holds = subst (λ (w : CellMachineState _ _). CellInvariant g.T.Words w) (sym c.self.view_is) c.holds.ensures.queue in
    subst (λ (w : CellMachineState _ _). IsInterleaving g.T.Words w c.run-played.new.self) c.self.view_is
    (schedule_plays g.T.Words _ _ _ holds c.run-played.ensures.played.1)

pub returns-clause-after : goal.returns-clause-after
returns-clause-after g c =
    let ends = cell_schedule_ends g.T.Words _ c.args.schedule.now c.run-played.new.self c.run-played.result c.run-played.ensures.whole in
    subst
    (λ (w : CellMachineState _ _). OnOk c.run-played.result (plain c.run-played.new.self ≡ plain_after g.T.Words (plain w) c.args.schedule.now)) c.self.view_is ends

pub returns-clause-stands : goal.returns-clause-stands
returns-clause-stands g c =
    let stands = schedule_stands g.T.Words _ _ _ c.run-played.ensures.played.1 in
    subst (λ (w : CellMachineState _ _). site_of c.run-played.new.self ≡ site_of w) c.self.view_is stands
