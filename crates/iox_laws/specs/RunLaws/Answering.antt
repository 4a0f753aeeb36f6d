-- Never stuck: whatever a service or its hub is asked, it answers.
use Rattle.std.specs.Prelude.{◌≡◌, ℕ, Bool, not, ◌||◌, List, [], ◌∷◌, Some, None, IsTrue, ⊤}
use Rattle.iox_model.specs.UniqueSystemId.{UniqueSystemId}
use Rattle.iox_model.specs.declared.backpressure.BackpressureAction.{BackpressureAction}
use Rattle.iox_model.specs.declared.kind.Kind.{Kind}
use Rattle.iox_model.specs.Begins.{start, MayChoose}
use Rattle.iox_model.specs.Commands.{Reply, Call, HubCommand, Command}
use Rattle.iox_model.specs.Doings.{Outcome, Doing}
use Rattle.iox_model.specs.Loans.{Choice}
use Rattle.iox_model.specs.Makings.{IsHubCommand}
use Rattle.iox_model.specs.Moments.{Moment}
use Rattle.iox_model.specs.Names.{misnamed}
use Rattle.iox_model.specs.Services.{IsCommand}
use Rattle.iox_model.specs.Settings.{Limits}
use Rattle.iox_model.specs.States.{Fixed, State}
use Rattle.iox_model.specs.Transitions.{ends}
use Rattle.iox_model.specs.Values.{IsRelease}
use Rattle.iox_model.specs.WholeCalls.{moved_by, left_by, MayCome}
use Rattle.iox_model.specs.Runs.{created, IsRun, ServiceStep, OfHub, IsHistory, IsReachableState}

-- A call always has a choice to make: an open lane where it needs one, with memory, and where no
-- wire is open also without.
abbrev pub SomethingMayBeChosen : Type 0
SomethingMayBeChosen =
    (f : Fixed) (node : ℕ) (call : Call) (memory : Bool) → IsTrue (memory || not f.on_wire)
    → (c : Choice) × (c.memory ≡ memory) × MayChoose f node c call

-- some moments, one after another, lead to an end
abbrev pub ComesToAnEnd : State → ℕ → Doing → Type 0
ComesToAnEnd s node d =
    (ms : List Moment) × MayCome s node d ms
    × (o : Outcome) × (ends (moved_by s ms) (left_by s node d ms) ≡ Some o)

-- From each reachable state, a call that names a fitting port or handle can still come to an end,
-- whatever it chose and whatever moments it made.
abbrev pub EachCallEnds : Type 0
EachCallEnds =
    (s : State) (node : ℕ) (call : Call) (c : Choice) (ms : List Moment)
    → IsReachableState s → misnamed s.fixed node call ≡ None → MayCome s node (start s node c call) ms
    → ComesToAnEnd (moved_by s ms) node (left_by s node (start s node c call) ms)

-- In each reachable state, each command of a port has a reply.
abbrev pub EachPortCommandIsAnswered : Type 0
EachPortCommandIsAnswered =
    (s : State) (node : ℕ) (command : HubCommand) → IsReachableState s
    → (reply : Reply) × (t : State) × IsHubCommand s node command reply t

-- In each reachable state, each command of the service has a reply.
abbrev pub EachCommandIsAnswered : Type 0
EachCommandIsAnswered =
    (s : State) (command : Command) → IsReachableState s
    → (reply : Reply) × (t : State) × IsCommand s command reply t

-- Whatever a service is asked, one command after another, there are replies that make it a run.
abbrev pub EachRunGoesOn : Type 0
EachRunGoesOn =
    (l : Limits) (acts : List ℕ → ℕ → ℕ → BackpressureAction) (id : UniqueSystemId) (cs : List Command)
    → (rs : List Reply) × (s : State) × IsRun (created l acts id) cs rs s

-- these steps are what is asked of a hub, each with a reply
abbrev pub AnswerIt : List (ℕ × HubCommand) → List ServiceStep → Type 0
AnswerIt [] [] = ⊤
AnswerIt (q ∷ qs) (OfHub node command reply ∷ xs) = (q ≡ (node, command)) × AnswerIt qs xs
AnswerIt qs xs = ⊥

-- Whatever nodes ask of a hub, there are replies that make it a history.
abbrev pub EachHistoryGoesOn : Type 0
EachHistoryGoesOn =
    (s : State) (asked : List (ℕ × HubCommand)) → IsReachableState s
    → (xs : List ServiceStep) × (t : State) × AnswerIt asked xs × IsHistory s xs t

-- In each reachable state, any value may be released.
abbrev pub EachValueIsReleased : Type 0
EachValueIsReleased =
    (s : State) (node number : ℕ) (kind : Kind) → IsReachableState s
    → (t : State) × IsRelease s node number kind t
