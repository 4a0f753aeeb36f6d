-- How much waits on a way, and how much is in hand.
use Rattle.std.specs.Prelude.{◌+◌, ◌≤◌, Bool, false, if◌then◌else◌, List, length}
use Rattle.std.specs.Option.{option_map_or}
use Rattle.iox_model.specs.declared.way.Way.{Way}
use Rattle.iox_model.specs.Doings.{Doing, Delivering, Evicted}
use Rattle.iox_model.specs.Weaves.{World, Beat}
use Rattle.iox_model.specs.States.{State}
use Rattle.iox_model.specs.Requests.{is_last}
use Rattle.iox_model.specs.Maps.{same_way}
use Rattle.iox_model.specs.Peers.{node_of_port, buffer_on}
use Rattle.iox_laws.specs.WeaveLedger.OnceLaws.{IsOnWire}

-- the call is a send that delivered last on this way, so that it may still evict there
abbrev pub evicts_next : Way → Doing → Bool
evicts_next y (Delivering x last left count) = is_last y last
evicts_next y d = false

-- the call has evicted on this way and not got it back yet
abbrev pub has_evicted : Way → Doing → Bool
has_evicted y (Evicted x w left count) = same_way y w
has_evicted y d = false

-- whether the test holds of the call under way of the way's sender
abbrev pub by_sender : (Way → Doing → Bool) → World → Way → Bool
by_sender test w y =
    option_map_or (test y) (w.doing (node_of_port w.state.fixed y.sender)) false

-- At most the buffer waits on a way, and one more while the send that delivered last there may
-- still evict.
abbrev pub BufferHolds : Type 0
BufferHolds =
    (s : State) (v : World) (bs : List Beat) (y : Way) → IsOnWire s bs v
    → length (v.state.waiting y)
    ≤ buffer_on v.state.fixed y + (if by_sender evicts_next v y then 1 else 0)

-- What was evicted is one message, in hand until that send gets it back.
abbrev pub OneInHand : Type 0
OneInHand =
    (s : State) (v : World) (bs : List Beat) (y : Way) → IsOnWire s bs v
    → length (v.state.in_hand y) ≤ (if by_sender has_evicted v y then 1 else 0)
