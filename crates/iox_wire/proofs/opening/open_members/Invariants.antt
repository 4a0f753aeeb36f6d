use Rattle.std.proofs.Common.{take}
use Rattle.iox_wire.specs.Kept.{AreOpened}
use Rattle.iox_wire.proofs.opening.open_members.Given as goal

-- the nodes so far
abbrev pub invariant-loop-number : goal.invariant-loop-number
invariant-loop-number l = record {
  opened : AreOpened l.plan (take l.number-index l.numbers) l.members.items;
}
