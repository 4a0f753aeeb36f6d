-- What holds between calls, in each reachable state.
use Rattle.std.specs.Prelude.{ℕ, ◌≤◌, length, IsTrue}
use Rattle.iox_model.specs.declared.way.Way.{Way}
use Rattle.iox_laws.specs.WeaveLaws.Ledgers.{had_on}
use Rattle.iox_model.specs.Maps.{AreDistinct}
use Rattle.iox_model.specs.Peers.{is_connected_port, role_at, buffer_on, borrow_limit_on}
use Rattle.iox_model.specs.Services.{numbers_of_node}
use Rattle.iox_model.specs.Settings.{other_role, buffer_of}
use Rattle.iox_model.specs.States.{Fixed, State}
use Rattle.iox_model.specs.Weaves.{at_work}
use Rattle.iox_model.specs.Runs.{IsReachableState}

-- At most the buffer waits on a way whose sender is connected.
abbrev pub QueuesRestWithin : Type 0
QueuesRestWithin =
    (s : State) (v : Way) → IsReachableState s → IsTrue (is_connected_port s.fixed v.sender)
    → length (s.waiting v) ≤ buffer_on s.fixed v

-- the buffer of the ports that send to the way's receiver, whether the sender is connected or gone
abbrev pub buffer_to : Fixed → Way → ℕ
buffer_to f v = buffer_of f.limits (other_role (role_at f v.receiver))

-- At most the buffer of the receiver's senders waits on any way, even if its own sender is gone.
abbrev pub QueuesOfTheGoneRestWithin : Type 0
QueuesOfTheGoneRestWithin =
    (s : State) (v : Way) → IsReachableState s → length (s.waiting v) ≤ buffer_to s.fixed v

-- A receiver has at most as many messages of each way as it may borrow.
abbrev pub BorrowsRestWithin : Type 0
BorrowsRestWithin =
    (s : State) (v : Way) → IsReachableState s → length (had_on (at_work s) v) ≤ borrow_limit_on s.fixed v

-- No two of a node's ports and handles have the same number.
abbrev pub ValuesHaveOwnNumbers : Type 0
ValuesHaveOwnNumbers =
    (s : State) (node : ℕ) → IsReachableState s → AreDistinct (numbers_of_node s.fixed node)
