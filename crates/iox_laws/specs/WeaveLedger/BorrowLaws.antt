-- How much a receiver has of one way.
use Rattle.std.specs.Prelude.{◌≤◌, List, length}
use Rattle.iox_model.specs.declared.way.Way.{Way}
use Rattle.iox_model.specs.Weaves.{World, Beat}
use Rattle.iox_model.specs.States.{State}
use Rattle.iox_laws.specs.WeaveLaws.Ledgers.{had_on}
use Rattle.iox_model.specs.Peers.{borrow_limit_on}
use Rattle.iox_laws.specs.WeaveLedger.OnceLaws.{IsOnWire}

-- Of each way a receiver has at most as many messages as it may borrow, in its handles and in its
-- call under way.
abbrev pub BorrowLimitHolds : Type 0
BorrowLimitHolds =
    (s : State) (v : World) (bs : List Beat) (y : Way) → IsOnWire s bs v
    → length (had_on v y) ≤ borrow_limit_on v.state.fixed y
