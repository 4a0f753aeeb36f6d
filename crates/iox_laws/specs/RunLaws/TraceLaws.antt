-- Laws of traces: what a run delivered, took and evicted.
use Rattle.std.specs.Prelude.{◌≡◌, ℕ, Bool, false, List, [], ◌++◌, map, IsTrue}
use Rattle.std.specs.List.{list_any}
use Rattle.iox_model.specs.declared.way.Way.{Way}
use Rattle.iox_model.specs.declared.reply.Reply.TheVariants.{Refused}
use Rattle.iox_model.specs.Begins.{start}
use Rattle.iox_model.specs.Commands.{Refusal, Reply, Call, HubCommand, Command}
use Rattle.iox_model.specs.Loans.{Choice}
use Rattle.iox_model.specs.Makings.{IsHubCommand}
use Rattle.iox_model.specs.Maps.{same_way}
use Rattle.iox_model.specs.Messages.{serials_of}
use Rattle.iox_model.specs.Moments.{Moment, Evict}
use Rattle.iox_laws.specs.WeaveLaws.OrderLaws.{all_put_on, all_taken_from, Gives}
use Rattle.iox_model.specs.Peers.{overflows_on}
use Rattle.iox_model.specs.Services.{IsCommand}
use Rattle.iox_model.specs.States.{State}
use Rattle.iox_model.specs.Weaves.{Beat, Makes}
use Rattle.iox_model.specs.WholeCalls.{moved_by, MayCome, IsWholeCall}
use Rattle.iox_model.specs.Runs.{IsReachableState}
use Rattle.iox_laws.specs.RunLaws.Traces.{beats_of_call, beats_of_port_command, beats_of_command, beats_of_reached}

-- On this way, what the beats took and what still waits comes in the order of delivery.
abbrev pub AreInOrder : Way → List Beat → State → Type 0
AreInOrder y bs s = Gives (all_put_on y bs) (all_taken_from y bs ++ serials_of (s.waiting y))

-- On each way, what a run took and what still waits comes in the order of delivery. Only what a
-- full queue gave up, and what a disconnected port left, is missing.
abbrev pub InOrderOverRuns : Type 0
InOrderOverRuns =
    (s : State) (reached : IsReachableState s) (y : Way) → AreInOrder y (beats_of_reached s reached) s

-- After any moments of a call that follows a run, too, what was taken and what still waits comes in
-- the order of delivery.
abbrev pub InOrderInACall : Type 0
InOrderInACall =
    (s : State) (reached : IsReachableState s) (y : Way)
    → (node : ℕ) (call : Call) (c : Choice) (ms : List Moment)
    → MayCome s node (start s node c call) ms
    → AreInOrder y (beats_of_reached s reached ++ map (Makes node) ms) (moved_by s ms)

-- A refused command of a port delivered nothing, on any way.
abbrev pub RefusedPortCommandDeliversNothing : Type 0
RefusedPortCommandDeliversNothing =
    (s t : State) (node : ℕ) (command : HubCommand) (r : Refusal) (y : Way)
    → (done : IsHubCommand s node command (Refused r) t)
    → all_put_on y (beats_of_port_command s node command (Refused r) t done) ≡ []

-- A refused command of the service delivered nothing, on any way.
abbrev pub RefusedCommandDeliversNothing : Type 0
RefusedCommandDeliversNothing =
    (s t : State) (command : Command) (r : Refusal) (y : Way)
    → (done : IsCommand s command (Refused r) t)
    → all_put_on y (beats_of_command s command (Refused r) t done) ≡ []

-- whether the beat evicts on the way
abbrev pub evicts_on : Way → Beat → Bool
evicts_on y (Makes node (Evict w)) = same_way y w
evicts_on y b = false

-- A call evicts on a way only where messages overflow.
abbrev pub OnlyOverflowEvicts : Type 0
OnlyOverflowEvicts =
    (s t : State) (node : ℕ) (call : Call) (reply : Reply) (y : Way)
    → IsReachableState s → (done : IsWholeCall s node call reply t)
    → IsTrue (list_any (evicts_on y) (beats_of_call s node call reply t done))
    → IsTrue (overflows_on s.fixed y)
