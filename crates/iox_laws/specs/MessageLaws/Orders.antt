-- In order, as whole messages: what is taken on a way was delivered there, in that order.
use Rattle.std.specs.Prelude.{◌≡◌, ℕ, List, ◌++◌, map}
use Rattle.iox_model.specs.declared.way.Way.{Way}
use Rattle.iox_model.specs.Begins.{start}
use Rattle.iox_model.specs.Commands.{Call}
use Rattle.iox_model.specs.Loans.{Choice}
use Rattle.iox_model.specs.Messages.{serials_of, Message}
use Rattle.iox_model.specs.Moments.{Moment}
use Rattle.iox_model.specs.Runs.{IsReachableState}
use Rattle.iox_model.specs.States.{State}
use Rattle.iox_model.specs.Weaves.{at_work, IsWeave, World, Beat, Makes}
use Rattle.iox_model.specs.WholeCalls.{moved_by, MayCome}
use Rattle.iox_model.specs.WireCalls.{opened}
use Rattle.iox_laws.specs.WeaveLaws.OrderLaws.{all_put_on, all_taken_from, Gives}
use Rattle.iox_laws.specs.RunLaws.Traces.{beats_of_reached}
use Rattle.iox_laws.specs.MessageLaws.Deliveries.{messages_put_on, messages_taken_from}
use Rattle.iox_laws.specs.MessageLaws.Lists.{GivesThese}

-- On this way, what the beats took and what still waits comes in the order of delivery, each
-- message whole: header, user header and payload.
abbrev pub AreWholeInOrder : Way → List Beat → State → Type 0
AreWholeInOrder y bs s =
    GivesThese (messages_put_on y bs) (messages_taken_from y bs ++ s.waiting y)

-- In each reachable state and on each way, what was taken and what still waits comes in the order
-- of delivery, whole.
abbrev pub WholeOverRuns : Type 0
WholeOverRuns =
    (s : State) (reached : IsReachableState s) (y : Way)
    → AreWholeInOrder y (beats_of_reached s reached) s

-- After any moments of a call, too, what was taken and what still waits comes in the order of
-- delivery, whole.
abbrev pub WholeInACall : Type 0
WholeInACall =
    (s : State) (reached : IsReachableState s) (y : Way)
    → (node : ℕ) (call : Call) (c : Choice) (ms : List Moment)
    → MayCome s node (start s node c call) ms
    → AreWholeInOrder y (beats_of_reached s reached ++ map (Makes node) ms) (moved_by s ms)

-- On a wire, where the calls of nodes interleave, what was taken and what still waits comes in the
-- order of delivery, whole.
abbrev pub WholeOnWires : Type 0
WholeOnWires =
    (s : State) (v : World) (bs : List Beat) (y : Way)
    → IsWeave (at_work (opened s)) bs v → AreWholeInOrder y bs v.state

-- The serials that a trace delivers and takes are those of its messages.
abbrev pub SerialsAreOfMessages : Type 0
SerialsAreOfMessages =
    (y : Way) (bs : List Beat)
    → (all_put_on y bs ≡ serials_of (messages_put_on y bs))
    × (all_taken_from y bs ≡ serials_of (messages_taken_from y bs))

-- Messages that come in an order have serials that come in the same order.
abbrev pub SerialsFollowMessages : Type 0
SerialsFollowMessages =
    (put given : List Message) → GivesThese put given → Gives (serials_of put) (serials_of given)
