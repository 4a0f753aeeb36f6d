use Rattle.std.proofs.Common.{◌≡◌, ℕ, subst, take, OnOk}
use Rattle.iox_set_steps.specs.AtomicPlays.{atomics_ask, atomics_happen, atomics_rest, AtomicsLead, AtomicsBegin, AtomicMachineState}
use Rattle.iox_set_steps.specs.AtomicMachines.{base_of, PlayAtomics, RunsOn}
use Rattle.iox_set_steps.specs.AtomicEntries.{atomics_after}
use Rattle.iox_set_steps.specs.Sites.{StayAtSites}
use Rattle.iox_set_steps.proofs.EntryLemmas.{atomics_end}
use Rattle.iox_set_steps.proofs.AtomicEventLemmas.{atomics_play, atomics_play_whole}
use Rattle.iox_set_steps.proofs.AtomicRunLemmas.{runs_on}
use Rattle.iox_set_steps.proofs.SiteLemmas.{all_entered_stay}
use Rattle.iox_set_steps.proofs.unrestricted_atomic.machine.AtomicMachine.run.Goals as goal

pub returns-clause-sites : goal.returns-clause-sites
returns-clause-sites g c =
    subst (λ (w : AtomicMachineState g.row.N). StayAtSites base_of w c.run.new.self) c.self.view_is
    (all_entered_stay (atomics_ask g.row.N) (AtomicsLead g.row.N) atomics_happen atomics_rest AtomicsBegin base_of (λ party seen answer after leads. leads.0) (λ party call after begins. begins.2) _ _ _ c.run.ensures.played.1)

pub returns-clause-value : goal.returns-clause-value
returns-clause-value g c =
    subst (λ (w : AtomicMachineState g.row.N). RunsOn g.row.N w c.run.new.self) c.self.view_is (runs_on g.row.N _ _ _ c.holds.ensures c.run.ensures.played.1)

pub returns-clause-happened : goal.returns-clause-happened
returns-clause-happened g c =
    subst (λ (w : AtomicMachineState g.row.N). (count : ℕ) × PlayAtomics g.row.N w (take count c.args.schedule.now) c.run.new.self) c.self.view_is
    (c.run.ensures.played.0, atomics_play g.row.N _ _ _ c.holds.ensures c.run.ensures.played.1)

pub returns-clause-all_events : goal.returns-clause-all_events
returns-clause-all_events g c =
    subst (λ (w : AtomicMachineState g.row.N). OnOk c.run.result (PlayAtomics g.row.N w c.args.schedule.now c.run.new.self)) c.self.view_is
    (atomics_play_whole g.row.N _ _ _ c.run.result c.holds.ensures c.run.ensures.whole)

pub returns-clause-after : goal.returns-clause-after
returns-clause-after g c =
    subst (λ (w : AtomicMachineState g.row.N). OnOk c.run.result (c.run.new.self ≡ atomics_after w c.args.schedule.now)) c.self.view_is
    (atomics_end g.row.N _ c.args.schedule.now c.run.new.self c.run.result c.run.ensures.whole)
