use Rattle.std.proofs.Common.{map, take}
use Rattle.iox_set_steps.specs.AtomicMachines.{AllAtomicsEntered}
use Rattle.iox_set_steps.specs.TypedValues.{PlayValues, TypedRunsOn, entry_words}
use Rattle.iox_set_steps.proofs.unrestricted_atomic.value_machine.ValueMachine.run.Given as goal

-- the entries that were passed were entered
abbrev pub invariant-loop-entry : goal.invariant-loop-entry
invariant-loop-entry g l = record {
  played : AllAtomicsEntered g.row.N l.fn.self.plays (map (entry_words g.T.Words.words) (take l.entry-index l.schedule)) l.self.plays;
  value : TypedRunsOn l.fn.self l.self;
  happened : PlayValues g.T.Words.words g.T.Words.is_value l.fn.self (take l.entry-index l.schedule) l.self;
}
