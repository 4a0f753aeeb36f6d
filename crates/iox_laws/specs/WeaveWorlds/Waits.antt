-- One message more than the buffer waits only where messages overflow.
use Rattle.std.specs.Prelude.{IsTrue}
use Rattle.iox_model.specs.declared.way.Way.{Way}
use Rattle.iox_model.specs.Peers.{overflows_on}
use Rattle.iox_model.specs.Weaves.{World}
use Rattle.iox_laws.specs.WeaveLedger.QueueLaws.{evicts_next, by_sender}
use Rattle.iox_laws.specs.WeaveWorlds.Worlds.{IsReachable}

-- In every reachable world, a sender's call may still evict on a way only where messages overflow.
-- Elsewhere at most the buffer waits, at any time.
abbrev pub OnlyOverflowEvicts : Type 0
OnlyOverflowEvicts =
    (w : World) (v : Way) → IsReachable w → IsTrue (by_sender evicts_next w v)
    → IsTrue (overflows_on w.state.fixed v)
