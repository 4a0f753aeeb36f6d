-- What holds during a call that begins in a reachable state.
use Rattle.std.specs.Prelude.{◌≡◌, ℕ, ◌+◌, ◌≤◌, if◌then◌else◌, List, length, Some, None, IsTrue}
use Rattle.iox_model.specs.declared.way.Way.{Way}
use Rattle.iox_model.specs.Begins.{start}
use Rattle.iox_model.specs.Commands.{Call}
use Rattle.iox_laws.specs.WeaveLaws.Ledgers.{had_on}
use Rattle.iox_model.specs.Loans.{Choice}
use Rattle.iox_model.specs.Maps.{put_at}
use Rattle.iox_model.specs.Moments.{Moment}
use Rattle.iox_model.specs.Names.{misnamed}
use Rattle.iox_model.specs.Peers.{is_connected_port, buffer_on, borrow_limit_on}
use Rattle.iox_model.specs.States.{State}
use Rattle.iox_model.specs.Weaves.{World}
use Rattle.iox_model.specs.WholeCalls.{moved_by, left_by, MayCome}
use Rattle.iox_laws.specs.WeaveLedger.QueueLaws.{evicts_next}
use Rattle.iox_model.specs.Runs.{IsReachableState}

-- After any moments of a call, at most the buffer waits on a way of a connected sender, and one
-- more where the call may still evict.
abbrev pub QueuesStayWithin : Type 0
QueuesStayWithin =
    (s : State) (node : ℕ) (call : Call) (c : Choice) (ms : List Moment) (v : Way)
    → IsReachableState s → misnamed s.fixed node call ≡ None → MayCome s node (start s node c call) ms
    → IsTrue (is_connected_port s.fixed v.sender)
    → length ((moved_by s ms).waiting v) ≤ buffer_on s.fixed v
    + (if evicts_next v (left_by s node (start s node c call) ms) then 1 else 0)

-- the world after some moments of this call, where no other node has a call under way
abbrev pub amid : State → ℕ → Call → Choice → List Moment → World
amid s node call c ms = record {
  state = moved_by s ms;
  doing = put_at (λ n. None) node (Some (left_by s node (start s node c call) ms));
}

-- After any moments of a call, a receiver has at most as many messages of each way as it may
-- borrow, in its handles and in the call.
abbrev pub BorrowsStayWithin : Type 0
BorrowsStayWithin =
    (s : State) (node : ℕ) (call : Call) (c : Choice) (ms : List Moment) (v : Way)
    → IsReachableState s → misnamed s.fixed node call ≡ None → MayCome s node (start s node c call) ms
    → length (had_on (amid s node call c ms) v) ≤ borrow_limit_on s.fixed v
