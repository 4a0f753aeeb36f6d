-- During a call of a hub: what is out on a way is still what its sender counts as outstanding.
use Rattle.std.specs.Prelude.{◌≡◌, ℕ, ◌+◌, ◌≤◌, List, length, None, IsTrue}
use Rattle.iox_model.specs.declared.way.Way.{Way}
use Rattle.iox_model.specs.Begins.{start}
use Rattle.iox_model.specs.Commands.{Call}
use Rattle.iox_laws.specs.WeaveLaws.Ledgers.{is_live, size_of}
use Rattle.iox_model.specs.Loans.{Choice}
use Rattle.iox_model.specs.Maps.{has_number, AreDistinct}
use Rattle.iox_model.specs.Moments.{Moment}
use Rattle.iox_model.specs.Names.{misnamed}
use Rattle.iox_model.specs.Outstandings.{outstanding_on}
use Rattle.iox_model.specs.Peers.{buffer_on, borrow_limit_on}
use Rattle.iox_model.specs.States.{State}
use Rattle.iox_model.specs.Weaves.{World}
use Rattle.iox_model.specs.WholeCalls.{MayCome}
use Rattle.iox_laws.specs.WeaveLedger.LedgerLaws.{out_on}
use Rattle.iox_model.specs.Runs.{IsReachableState}
use Rattle.iox_laws.specs.RunLaws.Moving.{amid}

-- the world is one after some moments of a call that began in this reachable state, and the way is
-- live
abbrev pub IsAmid : State → World → Way → Type 0
IsAmid s w y =
    IsReachableState s × IsTrue (is_live s.fixed y)
    × (node : ℕ) × (call : Call) × (c : Choice) × (ms : List Moment)
    × (misnamed s.fixed node call ≡ None) × MayCome s node (start s node c call) ms
    × (w ≡ amid s node call c ms)

-- During a call each message of a live way is out once: it waits, or the receiver has it, or gave
-- it back, or it is in hand.
abbrev pub OutStaysOnce : Type 0
OutStaysOnce = (s : State) (w : World) (y : Way) → IsAmid s w y → AreDistinct (out_on w y)

-- During a call the outstanding messages of a live way are exactly those that are out.
abbrev pub RecordStaysAsOut : Type 0
RecordStaysAsOut =
    (s : State) (w : World) (y : Way) (k : ℕ) → IsAmid s w y
    → w.state.delivered y k ≡ has_number k (out_on w y)

-- During a call as many are outstanding on a live way as are out.
abbrev pub OutstandingStaysCounted : Type 0
OutstandingStaysCounted =
    (s : State) (w : World) (y : Way) → IsAmid s w y
    → length (outstanding_on w.state y) ≡ size_of w y + length (w.state.in_hand y)

-- During a call no more are outstanding on a live way than the buffer, the borrow limit and one
-- more that is to be evicted.
abbrev pub LedgerStaysBelow : Type 0
LedgerStaysBelow =
    (s : State) (w : World) (y : Way) → IsAmid s w y
    → size_of w y + length (w.state.in_hand y) ≤ buffer_on s.fixed y + borrow_limit_on s.fixed y + 1
