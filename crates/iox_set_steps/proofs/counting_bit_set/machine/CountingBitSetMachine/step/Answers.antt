use Rattle.std.proofs.Common.{◌≡◌, subst, IfOk, OnOk}
use Rattle.iox_set_steps.specs.CountPlays.{count_kind}
use Rattle.iox_set_steps.specs.CountCalls.{count_calls}
use Rattle.iox_set_steps.specs.CountLaws.{count_laws}
use Rattle.iox_set_steps.specs.CountMachines.{IsCountEvent, SitedCounts, counts_answer, counts_stepped}
use Rattle.iox_set_steps.proofs.SitedLemmas.{answers_are, hold_after_step, events_of, steps_are}
use Rattle.iox_set_steps.proofs.CountTellLemmas.{count_telling}
use Rattle.iox_set_steps.proofs.counting_bit_set.machine.CountingBitSetMachine.step.Goals as goal

pub invariant_of-self : goal.invariant_of-self
invariant_of-self c =
    hold_after_step count_kind count_laws _ _ _ _ c.step.result c.self.invariant c.step.ensures.stepped c.step.ensures.unchanged

pub returns-clause-event : goal.returns-clause-event
returns-clause-event c =
    subst (λ (w : SitedCounts). IfOk c.step.result (λ answer. IsCountEvent w c.args.party answer
    (record { site = c.self.inside.site; machine = c.step.new.self }))) c.self.view_is
    (events_of count_kind count_laws count_calls count_telling c.self.inside.site _ c.self.invariant c.args.party c.step.new.self c.step.result
    c.step.ensures.stepped)

pub returns-clause-next : goal.returns-clause-next
returns-clause-next c =
    subst (λ (w : SitedCounts). OnOk c.step.result
    (record { site = c.self.inside.site; machine = c.step.new.self } ≡ counts_stepped w c.args.party)) c.self.view_is
    (steps_are count_kind count_laws c.self.inside.site _ _ c.args.party c.self.invariant c.step.result c.step.ensures.stepped)

pub returns-clause-answer : goal.returns-clause-answer
returns-clause-answer c =
    subst (λ (w : SitedCounts). IfOk c.step.result (λ answer. answer ≡ counts_answer w c.args.party)) c.self.view_is
    (answers_are count_kind count_laws c.self.inside.site _ _ c.args.party c.self.invariant c.step.result c.step.ensures.stepped)
