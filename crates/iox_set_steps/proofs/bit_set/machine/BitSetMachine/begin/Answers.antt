use Rattle.std.proofs.Common.{◌≡◌, subst, OnOk}
use Rattle.iox_set_steps.specs.BitPlays.{bit_kind}
use Rattle.iox_set_steps.specs.BitCalls.{bit_calls}
use Rattle.iox_set_steps.specs.BitLaws.{bit_laws}
use Rattle.iox_set_steps.specs.BitMachines.{BeginsBitCall, SitedBits, bits_begun}
use Rattle.iox_set_steps.proofs.SitedLemmas.{begins_are, begins_of, hold_after_begin}
use Rattle.iox_set_steps.proofs.BitTellLemmas.{bit_telling}
use Rattle.iox_set_steps.proofs.bit_set.machine.BitSetMachine.begin.Goals as goal

pub invariant_of-self : goal.invariant_of-self
invariant_of-self c =
    hold_after_begin bit_kind bit_laws _ _ _ _ _ c.begin.result c.self.invariant c.begin.ensures.begun c.begin.ensures.unchanged

pub returns-clause-begins : goal.returns-clause-begins
returns-clause-begins c =
    subst (λ (w : SitedBits). OnOk c.begin.result (BeginsBitCall w c.args.party c.args.call
    (record { site = c.self.inside.site; machine = c.begin.new.self }))) c.self.view_is
    (begins_of bit_kind bit_laws bit_calls bit_telling c.self.inside.site _ c.self.invariant c.args.party c.args.call c.begin.new.self c.begin.result
    c.begin.ensures.begun)

pub returns-clause-next : goal.returns-clause-next
returns-clause-next c =
    subst (λ (w : SitedBits). OnOk c.begin.result
    (record { site = c.self.inside.site; machine = c.begin.new.self } ≡ bits_begun w c.args.party c.args.call)) c.self.view_is
    (begins_are bit_kind bit_laws c.self.inside.site _ _ c.args.party c.self.invariant c.args.call c.begin.result c.begin.ensures.begun)
