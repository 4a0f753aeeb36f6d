use Rattle.std.proofs.Common.{◌≡◌, subst, OnOk}
use Rattle.iox_set_steps.specs.CountPlays.{count_kind}
use Rattle.iox_set_steps.specs.CountCalls.{count_calls}
use Rattle.iox_set_steps.specs.CountLaws.{count_laws}
use Rattle.iox_set_steps.specs.CountMachines.{BeginsCountCall, SitedCounts, counts_begun}
use Rattle.iox_set_steps.proofs.SitedLemmas.{begins_are, begins_of, hold_after_begin}
use Rattle.iox_set_steps.proofs.CountTellLemmas.{count_telling}
use Rattle.iox_set_steps.proofs.counting_bit_set.machine.CountingBitSetMachine.begin.Goals as goal

pub invariant_of-self : goal.invariant_of-self
invariant_of-self c =
    hold_after_begin count_kind count_laws _ _ _ _ _ c.begin.result c.self.invariant c.begin.ensures.begun c.begin.ensures.unchanged

pub returns-clause-begins : goal.returns-clause-begins
returns-clause-begins c =
    subst (λ (w : SitedCounts). OnOk c.begin.result (BeginsCountCall w c.args.party c.args.call
    (record { site = c.self.inside.site; machine = c.begin.new.self }))) c.self.view_is
    (begins_of count_kind count_laws count_calls count_telling c.self.inside.site _ c.self.invariant c.args.party c.args.call c.begin.new.self c.begin.result
    c.begin.ensures.begun)

pub returns-clause-next : goal.returns-clause-next
returns-clause-next c =
    subst (λ (w : SitedCounts). OnOk c.begin.result
    (record { site = c.self.inside.site; machine = c.begin.new.self } ≡ counts_begun w c.args.party c.args.call)) c.self.view_is
    (begins_are count_kind count_laws c.self.inside.site _ _ c.args.party c.self.invariant c.args.call c.begin.result c.begin.ensures.begun)
