use Rattle.std.proofs.Common.{take}
use Rattle.iox_steps.specs.MachineStates.{AllEntered}
use Rattle.iox_steps.proofs.machine.Machine.enter_all.Given as goal

abbrev pub invariant-loop-entry : goal.invariant-loop-entry
invariant-loop-entry g l =
    AllEntered g.P.Party.asks g.P.Party.leads g.P.MachineParty.happens g.P.MachineParty.at_rest g.P.MachineParty.begins l.fn.self
    (take l.entry-index l.schedule) l.self
