use Rattle.std.proofs.Common.{◌≡◌, arith, map, subst, take, take_all}
use Rattle.std.proofs.lemmas.List.{map-append, take_more}
use Rattle.iox_steps.proofs.MachineStateLemmas.{all_entered_more}
use Rattle.iox_set_steps.specs.AtomicPlays.{atomics_ask, atomics_happen, atomics_rest, AtomicsLead, AtomicsBegin}
use Rattle.iox_set_steps.specs.AtomicMachines.{AllAtomicsEntered}
use Rattle.iox_set_steps.specs.TypedValues.{BeginsValueCall, IsTypedEvent, entry_words}
use Rattle.iox_set_steps.proofs.EntryLemmas.{atomics_enter}
use Rattle.iox_set_steps.proofs.HoldLemmas.{plays_append}
use Rattle.iox_set_steps.proofs.TypedRunLemmas.{runs_append, stops_as}
use Rattle.iox_set_steps.proofs.unrestricted_atomic.value_machine.ValueMachine.run.Goals as goal

pub loop-entry-preserved : goal.loop-entry-preserved
loop-entry-preserved g c =
    let item = c.entry-item.result in
    record {
      played = rw (take_more c.args.schedule.now c.loop-entry.entry-index item c.loop-entry-test.true, ← c.entry-item.is, map-append)
          (all_entered_more (atomics_ask g.row.N) (AtomicsLead g.row.N) atomics_happen atomics_rest AtomicsBegin _ (map (entry_words g.T.Words.words) (take c.loop-entry.entry-index c.args.schedule.now)) _
          (entry_words g.T.Words.words item) _ c.loop-entry.invariant.played c.in_ok-enter.ensures.entered);
      value = runs_append _ _ _ c.loop-entry.invariant.value c.in_ok-enter.ensures.value;
      happened = rw (take_more c.args.schedule.now c.loop-entry.entry-index item c.loop-entry-test.true, ← c.entry-item.is)
          (plays_append (BeginsValueCall g.T.Words.words g.T.Words.is_value) (IsTypedEvent g.T.Words.words g.T.Words.is_value) _
          (take c.loop-entry.entry-index c.args.schedule.now) _ _ _
          c.loop-entry.invariant.happened c.in_ok-enter.ensures.happened);
    }

pub returns-in_err-enter-clause-stopped : goal.returns-in_err-enter-clause-stopped
returns-in_err-enter-clause-stopped g c =
    rw (c.in_err-enter.ensures.unchanged)
    (stops_as (atomics_ask g.row.N) (AtomicsLead g.row.N) atomics_happen atomics_rest AtomicsBegin (entry_words g.T.Words.words)
    c.args.self.now.plays c.args.schedule.now c.loop-entry.entry-index c.entry-item.result _ c.from_residual.result c.loop-entry-test.true c.entry-item.is
    c.loop-entry.invariant.played c.in_err-enter.ensures.wants)

pub returns-clause-after : goal.returns-clause-after
returns-clause-after g c =
    let whole : take c.loop-entry.entry-index c.args.schedule.now ≡ c.args.schedule.now = take_all _ _ (omega (arith, c.loop-entry-test.false)) in
    atomics_enter g.row.N c.args.self.now.plays (map (entry_words g.T.Words.words) c.args.schedule.now) c.loop-entry.self.plays
    (subst (λ entries. AllAtomicsEntered g.row.N c.args.self.now.plays (map (entry_words g.T.Words.words) entries) c.loop-entry.self.plays) whole
    c.loop-entry.invariant.played)
