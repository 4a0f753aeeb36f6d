-- What holds along each call holds along each run and history, with the trace that it made.
use Rattle.std.specs.Prelude.{◌≡◌, ℕ, Bool, true, false, List, [], ◌∷◌, ◌++◌, Option, Some, None, refl}
use Rattle.std.proofs.Common.{sym, subst}
use Rattle.std.proofs.lemmas.List.{append-nil}
use Rattle.iox_model.specs.UniqueSystemId.{UniqueSystemId}
use Rattle.iox_model.specs.declared.call.Call.TheVariants.{Release}
use Rattle.iox_model.specs.declared.command.Command.TheVariants as commands
use Rattle.iox_model.specs.declared.command.Command.TheVariants.{Leave, DeclareDead, Cleanup, ListNodes, ListClients, ListServers}
use Rattle.iox_model.specs.declared.kind.Role.{Role}
use Rattle.iox_model.specs.declared.reply.Reply.TheVariants.{Done}
use Rattle.iox_model.specs.declared.reply.Reply.TheVariants as replies
use Rattle.iox_model.specs.Commands.{Refusal, Reply, Call, Options, HubCommand, Create, Use, Command, asking}
use Rattle.iox_model.specs.Counts.{with_fixed}
use Rattle.iox_model.specs.Joins.{not_living, not_dead, with_members, opening_refusal, joined}
use Rattle.iox_model.specs.Makings.{making_refusal, new_port, with_port, port_reply, IsHubCommand}
use Rattle.iox_model.specs.Names.{misnamed}
use Rattle.iox_model.specs.Runs.{created, IsRun, ServiceStep, OfService, OfHub, OfLoan, OfValue, IsServiceStep, IsHistory, IsReachableState}
use Rattle.iox_model.specs.Values.{Filling, filled_as, MayFill, still_has, IsReleaseWhere}
use Rattle.iox_model.specs.Doings.{Fills}
use Rattle.iox_model.specs.Ends.{settled}
use Rattle.iox_model.specs.Handles.{handle_at}
use Rattle.iox_model.specs.Services.{without_node, numbers_of_node, leaving_refusal, with_death, Releases, IsCleanup, with_own_id, IsNodeCommand, IsCommand}
use Rattle.iox_model.specs.States.{Members, Handle, State}
use Rattle.iox_model.specs.Weaves.{Beat}
use Rattle.iox_model.specs.WholeCalls.{UnlessRefused, spent, IsDone, IsWholeCall}
use Rattle.iox_laws.specs.RunLaws.Traces.{unless_refused, beats_of_done, beats_of_call, beats_of_port_command, beats_of_releases, beats_of_node_command, beats_of_command, beats_of_run, beats_of_release, beats_of_step, beats_of_history, beats_of_reached}

-- a relation of a state, the beats that lead on from there, and the state that they leave
abbrev pub Relates : Type 1
Relates = State → List Beat → State → Type 0

-- it holds along nothing, one after another, where only nodes or ports change, along each call, and
-- where a loan is filled
pub record IsAlong (R : Relates) : Type 0 where
  pub none : (s : State) → R s [] s
  pub both : (s t u : State) (bs cs : List Beat) → R s bs t → R t cs u → R s (bs ++ cs) u
  pub nodes : (s : State) (x : Members) → R s [] (with_members s x)
  pub port : (s : State) (node : ℕ) (role : Role) (id : UniqueSystemId) (o : Options)
      → R s [] (with_fixed s (with_port s.fixed (new_port s.fixed node role id o)))
  pub call : (s : State) (node : ℕ) (call : Call) (reply : Reply) (t : State)
      → misnamed s.fixed node call ≡ None → (done : IsDone s node call reply t)
      → R s (beats_of_done s node call reply t done) t
  pub fill : (s : State) (node number : ℕ) (h : Handle) (x : Filling) → handle_at s.fixed node number ≡ Some h → MayFill s.fixed h x
      → R s [] (settled s node [] (Fills (filled_as h x)))

-- refused, nothing changes
pub unless_along : (R : Relates) → ((s : State) → R s [] s) → (q : Option Refusal) (s : State) (reply : Reply) (t : State) (P : Type 0)
    (beats : P → List Beat) → (q ≡ None → (p : P) → R s (beats p) t) → (u : UnlessRefused q s reply t P) → R s (unless_refused q s reply t P beats u) t
unless_along R none (Some x) s reply t P beats f u = subst (R s []) (sym u.1) (none s)
unless_along R none None s reply t P beats f u = f refl u

pub whole_along : (R : Relates) → ((s : State) → R s [] s) → (s : State) (node : ℕ) (call : Call) (reply : Reply) (t : State)
    → (misnamed s.fixed node call ≡ None → (done : IsDone s node call reply t) → R s (beats_of_done s node call reply t done) t)
    → (c : IsWholeCall s node call reply t) → R s (beats_of_call s node call reply t c) t
whole_along R none s node call reply t f =
    let P : Type 0 = IsDone s node call reply t in
    unless_along R none (misnamed s.fixed node call) s reply t (UnlessRefused (spent s.fixed call) s reply t P)
    (unless_refused (spent s.fixed call) s reply t P (beats_of_done s node call reply t))
    (λ named. unless_along R none (spent s.fixed call) s reply t P (beats_of_done s node call reply t) (λ u. f named))

call_along : (R : Relates) → IsAlong R → (s : State) (node : ℕ) (call : Call) (reply : Reply) (t : State)
    → (c : IsWholeCall s node call reply t) → R s (beats_of_call s node call reply t c) t
call_along R a s node call reply t = whole_along R a.none s node call reply t (a.call s node call reply t)

port_command_along : (R : Relates) → IsAlong R → (s : State) (node : ℕ) (c : HubCommand) (reply : Reply) (t : State)
    → (p : IsHubCommand s node c reply t) → R s (beats_of_port_command s node c reply t p) t
port_command_along R a s node (Create role id o) reply t p =
    made (making_refusal s.fixed role o p.0) p.1
  where
    made : (q : Option Refusal)
        → UnlessRefused q s reply t ((reply ≡ port_reply role s.fixed.next_number) × (t ≡ with_fixed s (with_port s.fixed (new_port s.fixed node role id o))))
        → R s [] t
    made (Some x) u = subst (R s []) (sym u.1) (a.none s)
    made None u = subst (R s []) (sym u.1) (a.port s node role id o)
port_command_along R a s node (Use call) reply t p = call_along R a s node call reply t p

releases_along : (R : Relates) → IsAlong R → (s : State) (node : ℕ) (ns : List ℕ) (t : State)
    → (r : Releases s node ns t) → R s (beats_of_releases s node ns t r) t
releases_along R a s node [] t r = subst (R s []) (sym r) (a.none s)
releases_along R a s node (n ∷ ns) t r =
    a.both s r.0 t (beats_of_call s node (Release n) Done r.0 r.1) (beats_of_releases r.0 node ns t r.2)
    (call_along R a s node (Release n) Done r.0 r.1) (releases_along R a r.0 node ns t r.2)

-- what changes only members
quiet : (R : Relates) → IsAlong R → (q : Option Refusal) (s : State) (reply answer : Reply) (t : State) (x : Members)
    → UnlessRefused q s reply t ((reply ≡ answer) × (t ≡ with_members s x)) → R s [] t
quiet R a (Some r) s reply answer t x u = subst (R s []) (sym u.1) (a.none s)
quiet R a None s reply answer t x u = subst (R s []) (sym u.1) (a.nodes s x)

node_command_along : (R : Relates) → IsAlong R → (s : State) (node : ℕ) (c : HubCommand) (reply : Reply) (t : State)
    → (p : IsNodeCommand s node c reply t) → R s (beats_of_node_command s node c reply t p) t
node_command_along R a s node command reply t p =
    let own : HubCommand = with_own_id s node command in
    unless_along R a.none (not_living s node) s reply t (IsHubCommand s node own reply t) (beats_of_port_command s node own reply t)
    (λ u. port_command_along R a s node own reply t) p

command_along : (R : Relates) → IsAlong R → (s : State) (c : Command) (reply : Reply) (t : State)
    → (p : IsCommand s c reply t) → R s (beats_of_command s c reply t p) t
command_along R a s (commands.Join id asked) reply t p =
    quiet R a (opening_refusal s id asked p.0) s reply (replies.Node s.members.joins) t (joined s.members id) p.1
command_along R a s (commands.Port c) reply t p = node_command_along R a s (asking c).0 (asking c).1 reply t p
command_along R a s (Leave node) reply t p = quiet R a (leaving_refusal s node) s reply Done t (without_node s node).members p
command_along R a s (DeclareDead node) reply t p = quiet R a (not_living s node) s reply Done t (with_death s node).members p
command_along R a s (Cleanup node) reply t p =
    let ns : List ℕ = numbers_of_node s.fixed node in
    unless_along R a.none (not_dead s node) s reply t (IsCleanup s node reply t) (λ c. beats_of_releases s node ns c.0 c.1)
    (λ u c.
    subst (λ bs. R s bs t) (append-nil (beats_of_releases s node ns c.0 c.1))
    (subst (R s (beats_of_releases s node ns c.0 c.1 ++ [])) (sym c.3)
    (a.both s c.0 (without_node c.0 node) (beats_of_releases s node ns c.0 c.1) []
    (releases_along R a s node ns c.0 c.1) (a.nodes c.0 (without_node c.0 node).members)))) p
command_along R a s ListNodes reply t p = subst (R s []) (sym p.1) (a.none s)
command_along R a s ListClients reply t p = subst (R s []) (sym p.1) (a.none s)
command_along R a s ListServers reply t p = subst (R s []) (sym p.1) (a.none s)

run_along : (R : Relates) → IsAlong R → (s : State) (cs : List Command) (rs : List Reply) (t : State)
    → (run : IsRun s cs rs t) → R s (beats_of_run s cs rs t run) t
run_along R a s [] [] t run = subst (R s []) (sym run) (a.none s)
run_along R a s (c ∷ cs) (r ∷ rs) t run =
    a.both s run.0 t (beats_of_command s c r run.0 run.1) (beats_of_run run.0 cs rs t run.2)
    (command_along R a s c r run.0 run.1) (run_along R a run.0 cs rs t run.2)
run_along R a s [] (r ∷ rs) t run = absurd run
run_along R a s (c ∷ cs) [] t run = absurd run

release_along : (R : Relates) → IsAlong R → (there : Bool) (s : State) (node n : ℕ) (t : State)
    → (r : IsReleaseWhere there s node n t) → R s (beats_of_release there s node n t r) t
release_along R a true s node n t r = call_along R a s node (Release n) Done t r
release_along R a false s node n t r = subst (R s []) (sym r) (a.none s)

step_along : (R : Relates) → IsAlong R → (s : State) (x : ServiceStep) (t : State) → (e : IsServiceStep s x t) → R s (beats_of_step s x t e) t
step_along R a s (OfService c reply) t e = command_along R a s c reply t e
step_along R a s (OfHub node c reply) t e = port_command_along R a s node c reply t e
step_along R a s (OfLoan node number filling) t e = subst (R s []) (sym e.3) (a.fill s node number e.0 filling e.1 e.2)
step_along R a s (OfValue node number kind) t e = release_along R a (still_has s.fixed node number kind) s node number t e

pub history_along : (R : Relates) → IsAlong R → (s : State) (xs : List ServiceStep) (t : State)
    → (h : IsHistory s xs t) → R s (beats_of_history s xs t h) t
history_along R a s [] t h = subst (R s []) (sym h) (a.none s)
history_along R a s (x ∷ xs) t h =
    a.both s h.0 t (beats_of_step s x h.0 h.1) (beats_of_history h.0 xs t h.2) (step_along R a s x h.0 h.1) (history_along R a h.0 xs t h.2)

-- From the creation on, whatever was asked.
abbrev pub created_for : (s : State) → IsReachableState s → State
created_for s reached = created reached.limits reached.acts reached.id

pub reached_along : (R : Relates) → IsAlong R → (s : State) (reached : IsReachableState s) → R (created_for s reached) (beats_of_reached s reached) s
reached_along R a s reached = history_along R a (created_for s reached) reached.steps s reached.history
