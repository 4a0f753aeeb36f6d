use Rattle.std.proofs.Common.{◌≡◌, subst, OnOk}
use Rattle.iox_set_steps.specs.AtomicPlays.{AtomicMachineState}
use Rattle.iox_set_steps.specs.AtomicMachines.{BeginsAtomicCall, atomics_begun}
use Rattle.iox_set_steps.proofs.AtomicEventLemmas.{begins_are, begins_of, storers_of}
use Rattle.iox_set_steps.proofs.unrestricted_atomic.machine.AtomicMachine.begin.Goals as goal

pub returns-clause-storer : goal.returns-clause-storer
returns-clause-storer g c = storers_of g.row.N _ _ _ _ c.begin.result c.holds.ensures c.begin.ensures.begun

pub returns-clause-begins : goal.returns-clause-begins
returns-clause-begins g c =
    subst (λ (w : AtomicMachineState g.row.N). OnOk c.begin.result (BeginsAtomicCall g.row.N w c.args.party c.args.call c.begin.new.self)) c.self.view_is
    (begins_of g.row.N _ c.holds.ensures c.args.party c.args.call _ c.begin.result c.begin.ensures.begun)

pub returns-clause-next : goal.returns-clause-next
returns-clause-next g c =
    subst (λ (w : AtomicMachineState g.row.N). OnOk c.begin.result (c.begin.new.self ≡ atomics_begun w c.args.party c.args.call)) c.self.view_is
    (begins_are g.row.N _ _ c.args.party c.args.call c.begin.result c.begin.ensures.begun)
