-- Between calls of a service or its hub, ports keep no more messages than their pools have.
use Rattle.std.specs.Prelude.{◌≡◌, ℕ, ◌≤◌, false, [], length, Some}
use Rattle.iox_model.specs.Maps.{has_number}
use Rattle.iox_model.specs.Outstandings.{kept}
use Rattle.iox_model.specs.Peers.{port_at}
use Rattle.iox_model.specs.States.{Port, State}
use Rattle.iox_model.specs.Runs.{IsReachableState}

-- No port keeps more messages than its pool has, even where that was reduced.
abbrev pub PoolsRestWithin : Type 0
PoolsRestWithin =
    (s : State) (port : ℕ) (p : Port) → IsReachableState s → port_at s.fixed port ≡ Some p
    → length (kept s port []) ≤ p.pool

-- The message that a port's next loan takes is none that it keeps.
abbrev pub NextRestsFresh : Type 0
NextRestsFresh =
    (s : State) (port : ℕ) (p : Port) → IsReachableState s → port_at s.fixed port ≡ Some p
    → has_number (s.fixed.loans port) (kept s port []) ≡ false
