-- Between calls of a hub: what is out on a way is what its sender counts as outstanding; and how
-- much it is.
use Rattle.std.specs.Prelude.{◌≡◌, ℕ, ◌+◌, ◌≤◌, [], length, IsTrue}
use Rattle.iox_model.specs.declared.way.Way.{Way}
use Rattle.iox_laws.specs.WeaveLaws.Ledgers.{is_live, size_of}
use Rattle.iox_model.specs.Maps.{has_number, AreDistinct}
use Rattle.iox_model.specs.Outstandings.{outstanding_on}
use Rattle.iox_model.specs.Peers.{buffer_on, borrow_limit_on}
use Rattle.iox_model.specs.States.{State}
use Rattle.iox_model.specs.Weaves.{at_work}
use Rattle.iox_laws.specs.WeaveLedger.LedgerLaws.{out_on}
use Rattle.iox_model.specs.Runs.{IsReachableState}

-- Between calls no sender has in hand what it evicted.
abbrev pub NothingRestsInHand : Type 0
NothingRestsInHand = (s : State) (y : Way) → IsReachableState s → s.in_hand y ≡ []

-- Between calls each message of a live way is out once: it waits, or the receiver has it, or gave
-- it back.
abbrev pub OutRestsOnce : Type 0
OutRestsOnce =
    (s : State) (y : Way) → IsReachableState s → IsTrue (is_live s.fixed y)
    → AreDistinct (out_on (at_work s) y)

-- Between calls the outstanding messages of a live way are exactly those that are out.
abbrev pub RecordRestsAsOut : Type 0
RecordRestsAsOut =
    (s : State) (y : Way) (k : ℕ) → IsReachableState s → IsTrue (is_live s.fixed y)
    → s.delivered y k ≡ has_number k (out_on (at_work s) y)

-- Between calls as many are outstanding on a live way as wait, are at the receiver and were given
-- back.
abbrev pub OutstandingRestsCounted : Type 0
OutstandingRestsCounted =
    (s : State) (y : Way) → IsReachableState s → IsTrue (is_live s.fixed y)
    → length (outstanding_on s y) ≡ size_of (at_work s) y

-- Between calls no more are outstanding on a live way than the buffer and the borrow limit
-- together.
abbrev pub LedgerRestsWithin : Type 0
LedgerRestsWithin =
    (s : State) (y : Way) → IsReachableState s → IsTrue (is_live s.fixed y)
    → size_of (at_work s) y ≤ buffer_on s.fixed y + borrow_limit_on s.fixed y
