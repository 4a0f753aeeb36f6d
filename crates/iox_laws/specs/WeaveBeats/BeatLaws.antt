-- What a living node finds in any reachable world, as it makes its next moment.
use Rattle.std.specs.Prelude.{◌≡◌, ℕ, ◌+◌, ◌<◌, true, false, List, length, Option, Some, None}
use Rattle.iox_model.specs.declared.way.Way.{Way}
use Rattle.iox_model.specs.Doings.{Loans, Fills, Doing, Ended, Loaning, Asking, Emptying, Looking, Opening, Delivering, Sending}
use Rattle.iox_model.specs.States.{Handle}
use Rattle.iox_model.specs.Maps.{has_number, has_way}
use Rattle.iox_model.specs.Peers.{ways_from, buffer_on, borrow_limit_on}
use Rattle.iox_model.specs.Moments.{room_on, GiveBack, GetBack}
use Rattle.iox_model.specs.Joins.{not_living}
use Rattle.iox_model.specs.Outstandings.{outstanding_on}
use Rattle.iox_model.specs.Weaves.{World, Beat, Makes, IsBeat}
use Rattle.iox_model.specs.Keeping.{kept_in}
use Rattle.iox_laws.specs.WeaveLedger.LedgerLaws.{out_on}
use Rattle.iox_laws.specs.WeaveWorlds.Worlds.{IsReachable}
use Rattle.iox_laws.specs.WeaveBeats.LiveWays.{GoesFrom, ComesTo}

-- A beat leads from a reachable world to a reachable world.
abbrev pub BeatsAreReachable : Type 0
BeatsAreReachable = (w u : World) (b : Beat) → IsReachable w → IsBeat w b u → IsReachable u

-- ---- what is given back and got back

-- A receiver that gives a message back finds room: fewer are given back and not got back than the
-- buffer, the borrow limit and one more.
abbrev pub ReturnsFindRoom : Type 0
ReturnsFindRoom =
    (w u : World) (node : ℕ) (y : Way) (k : ℕ)
    → IsReachable w → IsBeat w (Makes node (GiveBack y k)) u → ComesTo w.state.fixed node y
    → length (w.state.returned y)
    < buffer_on w.state.fixed y + borrow_limit_on w.state.fixed y + 1

-- What a sender gets back was outstanding on that way.
abbrev pub WhatIsGotBackIsRecorded : Type 0
WhatIsGotBackIsRecorded =
    (w u : World) (node : ℕ) (y : Way) (k : ℕ)
    → IsReachable w → IsBeat w (Makes node (GetBack y k)) u → GoesFrom w.state.fixed node y
    → w.state.delivered y k ≡ true

-- ---- deliveries

-- On each way on which a send has yet to deliver there is room for one more message.
abbrev pub DeliveriesFindRoom : Type 0
DeliveriesFindRoom =
    (w : World) (node : ℕ) (x : Sending) (last : Option Way) (left : List Way) (count : ℕ)
    (y : Way)
    → IsReachable w → w.doing node ≡ Some (Delivering x last left count)
    → has_way y left ≡ true
    → length (w.state.waiting y) < room_on w.state.fixed y

-- On each way on which a living node's send has yet to deliver, fewer are outstanding than the
-- buffer, the borrow limit and one more. One more may be recorded there.
abbrev pub RecordsHaveRoom : Type 0
RecordsHaveRoom =
    (w : World) (node : ℕ) (x : Sending) (last : Option Way) (left : List Way) (count : ℕ)
    (y : Way)
    → IsReachable w → not_living w.state node ≡ None
    → w.doing node ≡ Some (Delivering x last left count) → has_way y left ≡ true
    → GoesFrom w.state.fixed node y
    → length (outstanding_on w.state y)
    < buffer_on w.state.fixed y + borrow_limit_on w.state.fixed y + 1

-- On each way on which a send has yet to deliver, its message is not outstanding yet.
abbrev pub DeliveriesAreFresh : Type 0
DeliveriesAreFresh =
    (w : World) (node : ℕ) (x : Sending) (last : Option Way) (left : List Way) (count : ℕ)
    (y : Way)
    → IsReachable w → w.doing node ≡ Some (Delivering x last left count)
    → has_way y left ≡ true → w.state.delivered y x.loan.message.serial ≡ false

-- ---- loans

-- the loan that a call has and did not begin to deliver
abbrev pub unsent_in : Doing → Option Handle
unsent_in (Ended (Loans h)) = Some h
unsent_in (Ended (Fills h)) = Some h
unsent_in (Loaning copies h left) = Some h
unsent_in (Asking x) = Some x.loan
unsent_in (Emptying x left) = Some x.loan
unsent_in (Looking x left full) = Some x.loan
unsent_in (Opening x left full) = Some x.loan
unsent_in d = None

-- A loan that a call has and did not begin to deliver is outstanding on no way. Nobody else reads
-- what is written into it.
abbrev pub UnsentIsNowhere : Type 0
UnsentIsNowhere =
    (w : World) (node : ℕ) (d : Doing) (h : Handle) (y : Way) → IsReachable w
    → w.doing node ≡ Some d → unsent_in d ≡ Some h → y.sender ≡ h.port
    → w.state.delivered y h.message.serial ≡ false

-- ---- what is kept

-- A port of a living node keeps each message that is out on a way to a node that it did not forget.
-- A message that it does not keep waits nowhere, and no receiver has it or gave it back.
abbrev pub WhatIsOutIsKept : Type 0
WhatIsOutIsKept =
    (w : World) (node : ℕ) (y : Way) (k : ℕ) → IsReachable w → not_living w.state node ≡ None
    → GoesFrom w.state.fixed node y → has_way y (ways_from w.state.fixed y.sender) ≡ true
    → has_number k (out_on w y) ≡ true → has_number k (kept_in w y.sender) ≡ true
