use Rattle.std.proofs.Common.{◌<◌, subst, sym}
use Rattle.iox_wire_seats.specs.Rows.{AreBelow, IsAscending, Rows}
use Rattle.iox_wire_seats.proofs.RowLemmas.{IsAscending-push, room_for_one}
use Rattle.iox_wire_seats.proofs.entries.Entries.add.Goals as goal

pub invariant_of-self : goal.invariant_of-self
invariant_of-self c = (
  room_for_one c.self.inside.entries.items c.push_reserved.new.self.items c.args.entry c.self.inside.room _ _ c.push_reserved.ensures.items c.push_reserved.ensures.capacity
      c.self.invariant.0 (subst (λ (x : Rows). 0 < x.room) (sym c.self.view_is) c.requires.room),
  subst IsAscending (sym c.push_reserved.ensures.items)
      (IsAscending-push c.self.inside.entries.items c.args.entry c.self.invariant.1
      (subst (λ (x : Rows). AreBelow c.args.entry.number x.entries) (sym c.self.view_is) c.requires.newer)),
)
