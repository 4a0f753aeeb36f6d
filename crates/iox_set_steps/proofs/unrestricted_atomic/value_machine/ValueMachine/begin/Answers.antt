use Rattle.std.specs.Prelude.{OnOk}
use Rattle.std.proofs.Common.{subst}
use Rattle.iox_set_steps.specs.AtomicMachines.{AtomicsBegun}
use Rattle.iox_set_steps.specs.TypedValues.{BeginsValueCall, ValueMachineState}
use Rattle.iox_set_steps.specs.TypedWords.{shown}
use Rattle.iox_set_steps.proofs.TypedEvents.{begin_kept, begins_typed}
use Rattle.iox_set_steps.proofs.unrestricted_atomic.value_machine.ValueMachine.begin.Goals as goal

pub invariant_of-self : goal.invariant_of-self
invariant_of-self g c =
    begin_kept g.T.Words.WORDS g.T.Words.is_value g.T.Words.words g.T.Words.is_words g.T.Words.of_words g.met.T.Words.laws c.self.inside.first g.row.N c.self.inside.base
    c.self.inside.machine c.begin.new.self c.args.party c.args.call c.begin.result c.call_of.ensures.known c.self.invariant
    (subst (λ call. OnOk c.begin.result (AtomicsBegun g.row.N c.self.inside.machine c.args.party call c.begin.new.self)) c.call_of.ensures.words c.begin.ensures.begun)
    c.begin.ensures.unchanged

pub returns-clause-begins : goal.returns-clause-begins
returns-clause-begins g c =
    subst (λ (w : ValueMachineState g.row.T.Denot g.row.N). OnOk c.begin.result (BeginsValueCall g.T.Words.words g.T.Words.is_value w c.args.party c.args.call
    (shown g.T.Words.of_words c.self.inside.first c.self.inside.base c.begin.new.self))) c.self.view_is
    (begins_typed g.T.Words.WORDS g.T.Words.is_value g.T.Words.words g.T.Words.is_words g.T.Words.of_words g.met.T.Words.laws c.self.inside.first g.row.N c.self.inside.base
    c.self.inside.machine c.begin.new.self c.args.party c.args.call c.begin.result c.holds.ensures c.call_of.ensures.known
    (subst (λ call. OnOk c.begin.result
    (AtomicsBegun g.row.N c.self.inside.machine c.args.party call c.begin.new.self)) c.call_of.ensures.words c.begin.ensures.begun))
