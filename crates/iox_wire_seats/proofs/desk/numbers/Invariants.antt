use Rattle.std.proofs.Common.{◌≡◌, ◌≤◌}
use Rattle.std.specs.List.{range_with_len}
use Rattle.std.specs.VecDeque.{deque_capacity}
use Rattle.iox_wire_seats.proofs.desk.numbers.Given as goal

abbrev pub invariant-loop-number : goal.invariant-loop-number
invariant-loop-number l = record {
  numbers : l.numbers.items ≡ range_with_len 0 l.number;
  room : l.room ≤ deque_capacity l.numbers;
}
