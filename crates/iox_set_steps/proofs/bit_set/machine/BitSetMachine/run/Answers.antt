use Rattle.std.proofs.Common.{◌≡◌, ℕ, subst, take, OnOk}
use Rattle.iox_set_steps.specs.BitPlays.{bit_kind}
use Rattle.iox_set_steps.specs.BitCalls.{bit_calls}
use Rattle.iox_set_steps.specs.BitLaws.{bit_laws}
use Rattle.iox_set_steps.specs.BitMachines.{PlayBits, SitedBits, site_of}
use Rattle.iox_set_steps.specs.BitEntries.{bits_after}
use Rattle.iox_set_steps.specs.Sites.{StayAtSites}
use Rattle.iox_set_steps.proofs.EntryLemmas.{sited_end}
use Rattle.iox_set_steps.proofs.SitedLemmas.{entered_hold, sited_play, sited_play_whole, sites_stay}
use Rattle.iox_set_steps.proofs.BitTellLemmas.{bit_telling}
use Rattle.iox_set_steps.proofs.bit_set.machine.BitSetMachine.run.Goals as goal

pub invariant_of-self : goal.invariant_of-self
invariant_of-self c = entered_hold bit_kind bit_laws _ _ _ _ c.self.invariant c.run.ensures.played.1

pub returns-clause-holds : goal.returns-clause-holds
returns-clause-holds c = entered_hold bit_kind bit_laws _ _ _ _ c.self.invariant c.run.ensures.played.1

pub returns-clause-bits : goal.returns-clause-bits
returns-clause-bits c = (entered_hold bit_kind bit_laws _ _ _ _ c.self.invariant c.run.ensures.played.1).conserved

pub returns-clause-inside : goal.returns-clause-inside
returns-clause-inside c = (entered_hold bit_kind bit_laws _ _ _ _ c.self.invariant c.run.ensures.played.1).inside

pub returns-clause-sites : goal.returns-clause-sites
returns-clause-sites c =
    subst (λ (w : SitedBits). StayAtSites site_of w.machine c.run.new.self) c.self.view_is
    (sites_stay bit_kind _ _ _ c.run.ensures.played.1)

pub returns-clause-happened : goal.returns-clause-happened
returns-clause-happened c =
    subst (λ (w : SitedBits). (count : ℕ) × PlayBits w (take count c.args.schedule.now)
    (record { site = c.self.inside.site; machine = c.run.new.self })) c.self.view_is
    (c.run.ensures.played.0, sited_play bit_kind bit_laws bit_calls bit_telling c.self.inside.site _ _ _ c.self.invariant c.run.ensures.played.1)

pub returns-clause-all_events : goal.returns-clause-all_events
returns-clause-all_events c =
    subst (λ (w : SitedBits). OnOk c.run.result (PlayBits w c.args.schedule.now (record { site = c.self.inside.site; machine = c.run.new.self }))) c.self.view_is
    (sited_play_whole bit_kind bit_laws bit_calls bit_telling c.self.inside.site _ _ _ c.run.result c.self.invariant
    c.run.ensures.whole)

pub returns-clause-after : goal.returns-clause-after
returns-clause-after c =
    subst (λ (w : SitedBits). OnOk c.run.result
    (record { site = c.self.inside.site; machine = c.run.new.self } ≡ bits_after w c.args.schedule.now)) c.self.view_is
    (sited_end bit_kind bit_laws c.self.inside.site _ c.args.schedule.now c.run.new.self c.run.result c.run.ensures.whole)
