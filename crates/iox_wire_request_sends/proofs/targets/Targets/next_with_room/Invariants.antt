use Rattle.std.proofs.Common.{◌≡◌, ◌≤◌, length}
use Rattle.iox_wire_locals.specs.declared.table.Entry.{Entry}
use Rattle.iox_wire_locals.specs.Tables.{Setting}
use Rattle.iox_wire_request_sends.specs.declared.target.RequestTerms.{RequestTerms}
use Rattle.iox_wire_request_sends.specs.Targets.{AreTargets, AreWithin, with_room}
use Rattle.iox_wire_request_sends.proofs.targets.Targets.next_with_room.Given as goal

-- those that were passed over are full
abbrev pub invariant-loop-target : goal.invariant-loop-target
invariant-loop-target l = record {
  all : l.self.all ≡ l.fn.self.all;
  room : l.self.room ≡ l.fn.self.room;
  same : l.full ≡ l.fn.full;
  left : with_room l.fn.full l.fn.self.left ≡ with_room l.fn.full l.self.left;
  shorter : length l.self.left ≤ length l.fn.self.left;
  within : (t : RequestTerms) → AreWithin t l.fn.self.left → AreWithin t l.self.left;
  there : (p : Setting) (t : RequestTerms) (loan : Entry) → AreTargets p t loan l.fn.self.left → AreTargets p t loan l.self.left;
}

abbrev pub decreases-loop-target : goal.decreases-loop-target
decreases-loop-target l = length l.self.left
