use Rattle.std.proofs.Common.{subst}
use Rattle.iox_set_steps.specs.TypedValues.{IsTypedEvent, ValueMachineState, answer_words}
use Rattle.iox_set_steps.specs.TypedWords.{shown}
use Rattle.iox_set_steps.specs.AtomicMachines.{AtomicsStepped}
use Rattle.iox_set_steps.proofs.TypedEvents.{typed_kept, typed_event, typed_stepped}
use Rattle.iox_set_steps.proofs.TypedRunLemmas.{loads_of_event}
use Rattle.iox_set_steps.proofs.unrestricted_atomic.value_machine.ValueMachine.step.Goals as goal

pub invariant_of-self-2 : goal.invariant_of-self-2
invariant_of-self-2 g c =
    typed_kept g.T.Words.WORDS g.T.Words.is_value g.T.Words.words g.T.Words.is_words g.T.Words.of_words g.met.T.Words.laws c.self.inside.first g.row.N c.self.inside.base
    c.self.inside.machine c.step.new.self c.args.party c.in_ok-answer.answer c.holds.ensures c.self.invariant c.in_ok-answer.ensures.stepped

pub returns-clause-event : goal.returns-clause-event
returns-clause-event g c =
    subst (λ (w : ValueMachineState g.row.T.Denot g.row.N). IsTypedEvent g.T.Words.words g.T.Words.is_value w c.args.party c.answer_of.result
    (shown g.T.Words.of_words c.self.inside.first c.self.inside.base c.step.new.self)) c.self.view_is
    (rw (c.answer_of.ensures) (typed_event g.T.Words.WORDS g.T.Words.is_value g.T.Words.words g.T.Words.is_words g.T.Words.of_words g.met.T.Words.laws c.self.inside.first g.row.N c.self.inside.base
    c.self.inside.machine c.step.new.self c.args.party c.in_ok-answer.answer c.holds.ensures c.self.invariant c.in_ok-answer.ensures.stepped))

pub returns-clause-stepped : goal.returns-clause-stepped
returns-clause-stepped g c =
    subst (λ (w : ValueMachineState g.row.T.Denot g.row.N). AtomicsStepped g.row.N w.plays c.args.party (answer_words g.T.Words.words c.answer_of.result) c.step.new.self) c.self.view_is
    (rw (c.answer_of.ensures) (typed_stepped g.T.Words.WORDS g.T.Words.is_value g.T.Words.words g.T.Words.is_words g.T.Words.of_words g.met.T.Words.laws c.self.inside.first g.row.N c.self.inside.base
    c.self.inside.machine c.step.new.self c.args.party c.in_ok-answer.answer c.holds.ensures c.self.invariant c.in_ok-answer.ensures.stepped))

pub returns-clause-loaded : goal.returns-clause-loaded
returns-clause-loaded g c = loads_of_event g.T.Words.words g.T.Words.is_value c.args.self.now c.args.party c.answer_of.result _ (returns-clause-event g c)
