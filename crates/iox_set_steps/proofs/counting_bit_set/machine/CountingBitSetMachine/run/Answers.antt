use Rattle.std.proofs.Common.{◌≡◌, ℕ, subst, take, OnOk}
use Rattle.iox_set_steps.specs.CountPlays.{count_kind}
use Rattle.iox_set_steps.specs.CountCalls.{count_calls}
use Rattle.iox_set_steps.specs.CountLaws.{count_laws}
use Rattle.iox_set_steps.specs.CountMachines.{PlayCounts, SitedCounts, count_site_of}
use Rattle.iox_set_steps.specs.CountEntries.{counts_after}
use Rattle.iox_set_steps.specs.Sites.{StayAtSites}
use Rattle.iox_set_steps.proofs.EntryLemmas.{sited_end}
use Rattle.iox_set_steps.proofs.SitedLemmas.{entered_hold, sited_play, sited_play_whole, sites_stay}
use Rattle.iox_set_steps.proofs.CountTellLemmas.{count_telling}
use Rattle.iox_set_steps.proofs.counting_bit_set.machine.CountingBitSetMachine.run.Goals as goal

pub invariant_of-self : goal.invariant_of-self
invariant_of-self c = entered_hold count_kind count_laws _ _ _ _ c.self.invariant c.run.ensures.played.1

pub returns-clause-holds : goal.returns-clause-holds
returns-clause-holds c = entered_hold count_kind count_laws _ _ _ _ c.self.invariant c.run.ensures.played.1

pub returns-clause-counts : goal.returns-clause-counts
returns-clause-counts c = (entered_hold count_kind count_laws _ _ _ _ c.self.invariant c.run.ensures.played.1).conserved

pub returns-clause-inside : goal.returns-clause-inside
returns-clause-inside c = (entered_hold count_kind count_laws _ _ _ _ c.self.invariant c.run.ensures.played.1).inside

pub returns-clause-sites : goal.returns-clause-sites
returns-clause-sites c =
    subst (λ (w : SitedCounts). StayAtSites count_site_of w.machine c.run.new.self) c.self.view_is
    (sites_stay count_kind _ _ _ c.run.ensures.played.1)

pub returns-clause-happened : goal.returns-clause-happened
returns-clause-happened c =
    subst (λ (w : SitedCounts). (count : ℕ) × PlayCounts w (take count c.args.schedule.now)
    (record { site = c.self.inside.site; machine = c.run.new.self })) c.self.view_is
    (c.run.ensures.played.0, sited_play count_kind count_laws count_calls count_telling c.self.inside.site _ _ _ c.self.invariant c.run.ensures.played.1)

pub returns-clause-all_events : goal.returns-clause-all_events
returns-clause-all_events c =
    subst (λ (w : SitedCounts). OnOk c.run.result (PlayCounts w c.args.schedule.now
    (record { site = c.self.inside.site; machine = c.run.new.self }))) c.self.view_is
    (sited_play_whole count_kind count_laws count_calls count_telling c.self.inside.site _ _ _ c.run.result c.self.invariant
    c.run.ensures.whole)

pub returns-clause-after : goal.returns-clause-after
returns-clause-after c =
    subst (λ (w : SitedCounts). OnOk c.run.result
    (record { site = c.self.inside.site; machine = c.run.new.self } ≡ counts_after w c.args.schedule.now)) c.self.view_is
    (sited_end count_kind count_laws c.self.inside.site _ c.args.schedule.now c.run.new.self c.run.result c.run.ensures.whole)
