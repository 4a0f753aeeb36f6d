use Rattle.std.proofs.Common.{◌≡◌, subst, IfOk, OnOk}
use Rattle.iox_set_steps.specs.BitPlays.{bit_kind}
use Rattle.iox_set_steps.specs.BitCalls.{bit_calls}
use Rattle.iox_set_steps.specs.BitLaws.{bit_laws}
use Rattle.iox_set_steps.specs.BitMachines.{IsBitEvent, SitedBits, bits_answer, bits_stepped}
use Rattle.iox_set_steps.proofs.SitedLemmas.{answers_are, hold_after_step, events_of, steps_are}
use Rattle.iox_set_steps.proofs.BitTellLemmas.{bit_telling}
use Rattle.iox_set_steps.proofs.bit_set.machine.BitSetMachine.step.Goals as goal

pub invariant_of-self : goal.invariant_of-self
invariant_of-self c =
    hold_after_step bit_kind bit_laws _ _ _ _ c.step.result c.self.invariant c.step.ensures.stepped c.step.ensures.unchanged

pub returns-clause-event : goal.returns-clause-event
returns-clause-event c =
    subst (λ (w : SitedBits). IfOk c.step.result (λ answer. IsBitEvent w c.args.party answer
    (record { site = c.self.inside.site; machine = c.step.new.self }))) c.self.view_is
    (events_of bit_kind bit_laws bit_calls bit_telling c.self.inside.site _ c.self.invariant c.args.party c.step.new.self c.step.result
    c.step.ensures.stepped)

pub returns-clause-next : goal.returns-clause-next
returns-clause-next c =
    subst (λ (w : SitedBits). OnOk c.step.result
    (record { site = c.self.inside.site; machine = c.step.new.self } ≡ bits_stepped w c.args.party)) c.self.view_is
    (steps_are bit_kind bit_laws c.self.inside.site _ _ c.args.party c.self.invariant c.step.result c.step.ensures.stepped)

pub returns-clause-answer : goal.returns-clause-answer
returns-clause-answer c =
    subst (λ (w : SitedBits). IfOk c.step.result (λ answer. answer ≡ bits_answer w c.args.party)) c.self.view_is
    (answers_are bit_kind bit_laws c.self.inside.site _ _ c.args.party c.self.invariant c.step.result c.step.ensures.stepped)
