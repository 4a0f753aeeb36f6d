use Rattle.std.proofs.Common.{◌+◌, ◌≤◌, take}
use Rattle.iox_wire.specs.Schedules.{AreEntered}
use Rattle.iox_wire.proofs.wire.Wire.run.Given as goal

-- the entries so far are played, and each took room for one step at most
abbrev pub invariant-loop-entry : goal.invariant-loop-entry
invariant-loop-entry l = record {
  entered : AreEntered l.fn.self (take l.entry-index l.schedule) l.self;
  room : l.fn.self.room ≤ l.self.room + l.entry-index;
}
