-- The trace of a run: the moments of its calls, one after another, each with the node that made it.
-- A trace is computed from the run itself, so that each run has one, and it cannot differ from the
-- run.
use Rattle.std.specs.Prelude.{ℕ, Bool, true, false, List, [], ◌∷◌, ◌++◌, map, Option, Some, None}
use Rattle.iox_model.specs.declared.call.Call.TheVariants.{Release}
use Rattle.iox_model.specs.declared.command.Command.TheVariants as commands
use Rattle.iox_model.specs.declared.command.Command.TheVariants.{Cleanup}
use Rattle.iox_model.specs.declared.reply.Reply.TheVariants.{Done}
use Rattle.iox_model.specs.Commands.{Refusal, Reply, Call, HubCommand, Create, Use, Command, asking}
use Rattle.iox_model.specs.Joins.{not_living, not_dead}
use Rattle.iox_model.specs.Makings.{IsHubCommand}
use Rattle.iox_model.specs.Names.{misnamed}
use Rattle.iox_model.specs.Runs.{created, IsRun, ServiceStep, OfService, OfHub, OfLoan, OfValue, IsServiceStep, IsHistory, IsReachableState}
use Rattle.iox_model.specs.Values.{still_has, IsReleaseWhere}
use Rattle.iox_model.specs.Services.{numbers_of_node, with_own_id, Releases, IsCleanup, IsNodeCommand, IsCommand}
use Rattle.iox_model.specs.States.{State}
use Rattle.iox_model.specs.Weaves.{Beat, Makes}
use Rattle.iox_model.specs.WholeCalls.{UnlessRefused, spent, IsDone, IsWholeCall}

-- ---- calls

-- a refused call makes no beats
abbrev pub unless_refused : (r : Option Refusal) (s : State) (reply : Reply) (t : State)
    → (P : Type 0) → (P → List Beat) → UnlessRefused r s reply t P → List Beat
unless_refused (Some r) s reply t P beats refused = []
unless_refused None s reply t P beats p = beats p

-- the beats of the moments that led the call to its end
abbrev pub beats_of_done : (s : State) (node : ℕ) (call : Call) (reply : Reply) (t : State)
    → IsDone s node call reply t → List Beat
beats_of_done s node call reply t done = map (Makes node) done.2

-- the beats of a whole call; a refused one has none
abbrev pub beats_of_call : (s : State) (node : ℕ) (call : Call) (reply : Reply) (t : State)
    → IsWholeCall s node call reply t → List Beat
beats_of_call s node call reply t =
    let P : Type 0 = IsDone s node call reply t in
    unless_refused (misnamed s.fixed node call) s reply t
    (UnlessRefused (spent s.fixed call) s reply t P)
    (unless_refused (spent s.fixed call) s reply t P (beats_of_done s node call reply t))

-- ---- commands

-- the beats of a hub's command; a port is made without a moment
abbrev pub beats_of_port_command : (s : State) (node : ℕ) (command : HubCommand) (reply : Reply)
    → (t : State) → IsHubCommand s node command reply t → List Beat
beats_of_port_command s node (Create role id o) reply t made = []
beats_of_port_command s node (Use call) reply t used = beats_of_call s node call reply t used

-- the beats of releases, one after another
abbrev pub beats_of_releases : (s : State) (node : ℕ) (numbers : List ℕ) (t : State)
    → Releases s node numbers t → List Beat
beats_of_releases s node [] t released = []
beats_of_releases s node (n ∷ ns) t released =
    beats_of_call s node (Release n) Done released.0 released.1
    ++ beats_of_releases released.0 node ns t released.2

-- the beats of a port command of a service; a node that is not living makes none
abbrev pub beats_of_node_command : (s : State) (node : ℕ) (command : HubCommand) (reply : Reply)
    → (t : State) → IsNodeCommand s node command reply t → List Beat
beats_of_node_command s node command reply t =
    let own : HubCommand = with_own_id s node command in
    unless_refused (not_living s node) s reply t (IsHubCommand s node own reply t)
    (beats_of_port_command s node own reply t)

-- the beats of a service's command; only those of ports and cleanups have moments
abbrev pub beats_of_command : (s : State) (command : Command) (reply : Reply) (t : State)
    → IsCommand s command reply t → List Beat
beats_of_command s (commands.Port command) reply t =
    beats_of_node_command s (asking command).0 (asking command).1 reply t
beats_of_command s (Cleanup node) reply t =
    unless_refused (not_dead s node) s reply t (IsCleanup s node reply t)
    (λ c. beats_of_releases s node (numbers_of_node s.fixed node) c.0 c.1)
beats_of_command s command reply t = λ done. []

-- ---- runs

-- the beats of a run
abbrev pub beats_of_run : (s : State) (cs : List Command) (rs : List Reply) (t : State)
    → IsRun s cs rs t → List Beat
beats_of_run s [] [] t run = []
beats_of_run s (c ∷ cs) (r ∷ rs) t run =
    beats_of_command s c r run.0 run.1 ++ beats_of_run run.0 cs rs t run.2
beats_of_run s [] (r ∷ rs) t run = absurd run
beats_of_run s (c ∷ cs) [] t run = absurd run

-- the beats of a release of a value; only a value that the hub still has is released by a call
abbrev pub beats_of_release : (there : Bool) (s : State) (node number : ℕ) (t : State)
    → IsReleaseWhere there s node number t → List Beat
beats_of_release true s node number t released = beats_of_call s node (Release number) Done t released
beats_of_release false s node number t released = []

-- the beats of a step; a loan is filled without a moment
abbrev pub beats_of_step : (s : State) (x : ServiceStep) (t : State) → IsServiceStep s x t → List Beat
beats_of_step s (OfService command reply) t step = beats_of_command s command reply t step
beats_of_step s (OfHub node command reply) t step = beats_of_port_command s node command reply t step
beats_of_step s (OfLoan node number filling) t step = []
beats_of_step s (OfValue node number kind) t step =
    beats_of_release (still_has s.fixed node number kind) s node number t step

-- the beats of a history
abbrev pub beats_of_history : (s : State) (xs : List ServiceStep) (t : State)
    → IsHistory s xs t → List Beat
beats_of_history s [] t history = []
beats_of_history s (x ∷ xs) t history =
    beats_of_step s x history.0 history.1 ++ beats_of_history history.0 xs t history.2

-- the beats of the history that led to the state, from its creation on
abbrev pub beats_of_reached : (s : State) → IsReachableState s → List Beat
beats_of_reached s reached =
    beats_of_history (created reached.limits reached.acts reached.id) reached.steps s reached.history
