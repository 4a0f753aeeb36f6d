use Rattle.std.proofs.Common.{Result, Ok, Err, OnErr}
use Rattle.std.proofs.lemmas.List.{take_more}
use Rattle.iox_steps.specs.declared.error.MachineError.{MachineError}
use Rattle.iox_steps.proofs.MachineStateLemmas.{all_entered_more, stops_at}
use Rattle.iox_steps.proofs.machine.Machine.enter_all.Goals as goal

pub loop-entry-preserved : goal.loop-entry-preserved
loop-entry-preserved g c =
    let item = c.entry-item.result in
    rw (take_more c.args.schedule.now c.loop-entry.entry-index item c.loop-entry-test.true, ← c.entry-item.is)
    (all_entered_more g.P.Party.asks g.P.Party.leads g.P.MachineParty.happens g.P.MachineParty.at_rest g.P.MachineParty.begins
    _ _ _ _ _ c.loop-entry.invariant c.in_ok-enter.ensures.entered)

on_err : {A : Type 0} (result : Result A MachineError) (claim : Type 0) → claim → OnErr result claim
on_err (Ok done) claim holds = tt
on_err (Err error) claim holds = holds

pub returns-in_err-enter-clause-stopped : goal.returns-in_err-enter-clause-stopped
returns-in_err-enter-clause-stopped g c =
    on_err c.from_residual.result _
    (rw c.in_err-enter.ensures.unchanged
    (stops_at g.P.Party.asks g.P.Party.leads g.P.MachineParty.happens g.P.MachineParty.at_rest g.P.MachineParty.begins
    c.args.self.now c.args.schedule.now c.loop-entry.entry-index c.entry-item.result _ c.loop-entry-test.true c.entry-item.is
    c.loop-entry.invariant c.in_err-enter.ensures.wants))
