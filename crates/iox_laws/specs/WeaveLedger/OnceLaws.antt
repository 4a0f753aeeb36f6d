-- At most once: no message is delivered twice on a way, and none is received twice.
use Rattle.std.specs.Prelude.{List, map}
use Rattle.iox_model.specs.declared.way.Way.{Way}
use Rattle.iox_model.specs.Weaves.{at_work, IsWeave, World, Beat}
use Rattle.iox_laws.specs.WeaveLaws.OrderLaws.{all_put_on, all_taken_from}
use Rattle.iox_model.specs.WireCalls.{opened}
use Rattle.iox_model.specs.States.{State}
use Rattle.iox_model.specs.Maps.{AreDistinct}

-- each port of the service has a number of its own
abbrev pub HasOwnNumbers : State → Type 0
HasOwnNumbers s = AreDistinct (map (λ p. p.number) s.fixed.ports)

-- these beats lead from the opening of a wire on a state to the world; each port has a number of
-- its own
abbrev pub IsOnWire : State → List Beat → World → Type 0
IsOnWire s bs v = HasOwnNumbers s × IsWeave (at_work (opened s)) bs v

-- For each sender, receiver and lane, the serials delivered are pairwise different.
abbrev pub DeliveredOnce : Type 0
DeliveredOnce =
    (s : State) (v : World) (bs : List Beat) (y : Way) → IsOnWire s bs v
    → AreDistinct (all_put_on y bs)

-- For each sender, receiver and lane, the serials received are pairwise different.
abbrev pub ReceivedOnce : Type 0
ReceivedOnce =
    (s : State) (v : World) (bs : List Beat) (y : Way) → IsOnWire s bs v
    → AreDistinct (all_taken_from y bs)
