-- At most once, over histories of a service and its hub: on each way no message is delivered twice,
-- and none is received twice.
use Rattle.iox_model.specs.declared.way.Way.{Way}
use Rattle.iox_model.specs.Maps.{AreDistinct}
use Rattle.iox_laws.specs.WeaveLaws.OrderLaws.{all_put_on, all_taken_from}
use Rattle.iox_model.specs.States.{State}
use Rattle.iox_model.specs.Runs.{IsReachableState}
use Rattle.iox_laws.specs.RunLaws.Traces.{beats_of_reached}

-- For each sender, receiver and lane, the serials that a history delivered are pairwise different.
abbrev pub DeliveredOnceOverRuns : Type 0
DeliveredOnceOverRuns =
    (s : State) (reached : IsReachableState s) (y : Way)
    → AreDistinct (all_put_on y (beats_of_reached s reached))

-- For each sender, receiver and lane, the serials that a history received are pairwise different.
abbrev pub ReceivedOnceOverRuns : Type 0
ReceivedOnceOverRuns =
    (s : State) (reached : IsReachableState s) (y : Way)
    → AreDistinct (all_taken_from y (beats_of_reached s reached))
