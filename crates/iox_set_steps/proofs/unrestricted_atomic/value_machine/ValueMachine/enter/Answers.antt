use Rattle.iox_set_steps.specs.TypedValues.{BeginsValueCall, IsTypedEvent}
use Rattle.iox_set_steps.proofs.HoldLemmas.{plays_begin, plays_step}
use Rattle.iox_set_steps.proofs.unrestricted_atomic.value_machine.ValueMachine.enter.Goals as goal

pub returns-in-Begin-clause-happened : goal.returns-in-Begin-clause-happened
returns-in-Begin-clause-happened g c = rw (c.in-Begin.is)
    (plays_begin (BeginsValueCall g.T.Words.words g.T.Words.is_value)
    (IsTypedEvent g.T.Words.words g.T.Words.is_value) _ _ _ _ c.begin-begun.result c.begin-begun.ensures.begins c.begin-begun.ensures.unchanged)

pub returns-in-Ok-clause-happened : goal.returns-in-Ok-clause-happened
returns-in-Ok-clause-happened g c = rw (c.in-Step.is)
    (plays_step (BeginsValueCall g.T.Words.words g.T.Words.is_value)
    (IsTypedEvent g.T.Words.words g.T.Words.is_value) _ _ _ c.step.result c.step.ensures.event c.step.ensures.unchanged)

pub returns-in-Err-UnknownParty-clause-happened : goal.returns-in-Err-UnknownParty-clause-happened
returns-in-Err-UnknownParty-clause-happened g c = rw (c.in-Step.is)
    (plays_step (BeginsValueCall g.T.Words.words g.T.Words.is_value)
    (IsTypedEvent g.T.Words.words g.T.Words.is_value) _ _ _ c.step.result c.step.ensures.event c.step.ensures.unchanged)

pub returns-in-Err-AtRest-clause-happened : goal.returns-in-Err-AtRest-clause-happened
returns-in-Err-AtRest-clause-happened g c = rw (c.in-Step.is)
    (plays_step (BeginsValueCall g.T.Words.words g.T.Words.is_value)
    (IsTypedEvent g.T.Words.words g.T.Words.is_value) _ _ _ c.step.result c.step.ensures.event c.step.ensures.unchanged)
