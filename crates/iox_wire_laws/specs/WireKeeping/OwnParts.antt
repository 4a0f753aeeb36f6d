-- A node's own part between the begin and the end of its call.
use Rattle.std.specs.Prelude.{◌≡◌}
use Rattle.iox_wire_locals.specs.declared.seat.Seat.{Seat}

-- The same node, with the same handles and forgotten nodes and as many borrowed messages: only its
-- place, its desks and its count of accesses may differ.
pub record KeepsOwn (x y : Seat) : Type 0 where
  pub node : y.node ≡ x.node
  pub handles_made : y.handles_made ≡ x.handles_made
  pub table : y.table ≡ x.table
  pub borrowed : y.borrowed ≡ x.borrowed
  pub forgot : y.forgot ≡ x.forgot
