-- What a node may count: one handle more, one loan, and one borrowed message.
use Rattle.std.specs.Prelude.{◌≡◌, ◌<◌, ◌+◌, ◌-◌, ◌^◌, ℕ, None, List}
use Rattle.iox_model.specs.declared.way.Way.{Way}
use Rattle.iox_model.specs.Joins.{not_living}
use Rattle.iox_steps.specs.Sites.{last_position}
use Rattle.iox_wire_keeps.specs.Seat.{Seat}
use Rattle.iox_wire_keeps.specs.Lendings.{next_handle}
use Rattle.iox_wire_keeps.specs.Tables.{Setting}
use Rattle.iox_wire_keeps.specs.Counts.{AreOfDifferentWays, IsBelow}
use Rattle.iox_wire_keeps.specs.Desks.{AreOfDifferentPorts, MayCount}
use Rattle.iox_wire_keeps.specs.Rows.{AreBelow}
use Rattle.iox_wire_keeps.specs.Following.{LeavesNothing, message_at}
use Rattle.iox_wire_keeps.specs.Runs.{Run}
use Rattle.iox_wire_keeps.specs.Stands.{Player}
use Rattle.iox_wire_keeps.specs.WireStands.{WireStands}

-- no two desks are of one port, and no two counts of one way
pub record IsTidy (x : Seat) : Type 0 where
  pub desks : AreOfDifferentPorts x.desks
  pub counts : AreOfDifferentWays x.borrowed

-- The node may have one handle more, with its next number, count one loan more of each port, and
-- borrow one message more on each way.
pub record MayCountMore (p : Setting) (x : Seat) : Type 0 where
  pub newer : AreBelow (next_handle p x) x.table
  pub handles : x.handles_made + 1 < 2 ^ 64
  pub loans : (port : ℕ) → MayCount port x.desks
  pub borrowed : (w : Way) → IsBelow (2 ^ 64 - 1) w x.borrowed

-- So may a living node that made fewer accesses than a queue has positions, but for one whose release
-- has given its message back.
abbrev pub NodesMayCountMore : Type 0
NodesMayCountMore =
    (p : Setting) (words : List ℕ) (players : ℕ → Player) (r : Run) (n : ℕ)
    → WireStands p words players r → not_living r.last.state n ≡ None
    → let x = (players n).seat in
    LeavesNothing (message_at x.local) → IsTidy x → x.accesses < last_position → MayCountMore p x
