-- What no step of a service or of its hub makes false stays so over each run and each history.
use Rattle.std.specs.Prelude.{◌≡◌, ℕ, Bool, true, false, List, [], ◌∷◌, ◌++◌, Option, Some, None, ◌⊎◌, refl}
use Rattle.std.proofs.Common.{sym, subst, inl, inr}
use Rattle.iox_model.specs.UniqueSystemId.{UniqueSystemId}
use Rattle.iox_model.specs.declared.backpressure.BackpressureAction.{BackpressureAction}
use Rattle.iox_model.specs.declared.call.Call.TheVariants.{Release}
use Rattle.iox_model.specs.declared.command.Command.TheVariants as commands
use Rattle.iox_model.specs.declared.command.Command.TheVariants.{Leave, DeclareDead, Cleanup, ListNodes, ListClients, ListServers}
use Rattle.iox_model.specs.declared.kind.Role.{Role}
use Rattle.iox_model.specs.declared.reply.Reply.TheVariants.{Done}
use Rattle.iox_model.specs.Commands.{Refusal, Reply, Call, Options, HubCommand, Create, Use, Command, asking}
use Rattle.iox_model.specs.Counts.{with_fixed}
use Rattle.iox_model.specs.Joins.{not_living, not_dead, opening_refusal, with_members, joined}
use Rattle.iox_model.specs.Makings.{making_refusal, new_port, with_port, IsHubCommand}
use Rattle.iox_model.specs.Names.{misnamed}
use Rattle.iox_model.specs.Runs.{created, IsRun, ServiceStep, OfService, OfHub, OfLoan, OfValue, IsServiceStep, IsHistory, IsReachableState, IsMembersHistory, IsServed}
use Rattle.iox_model.specs.Values.{Filling, filled_as, MayFill, still_has, IsReleaseWhere}
use Rattle.iox_model.specs.Doings.{Fills}
use Rattle.iox_model.specs.Ends.{settled}
use Rattle.iox_model.specs.Handles.{handle_at}
use Rattle.iox_model.specs.Services.{without_node, with_death, leaving_refusal, numbers_of_node, with_own_id, Releases, IsNodeCommand, IsCommand}
use Rattle.iox_model.specs.Settings.{IsShape, Limits}
use Rattle.iox_model.specs.States.{Members, Handle, State}
use Rattle.iox_model.specs.WholeCalls.{UnlessRefused, spent, IsDone, IsWholeCall}
use Rattle.iox_laws.specs.WeaveWorlds.OnWires.{ServedIsReachable}

-- a node joins, leaves or dies
abbrev pub IsOfNodes : State → Members → Type 0
IsOfNodes s x =
    ((id : UniqueSystemId) × (x ≡ joined s.members id))
    ⊎ (((n : ℕ) × (x ≡ (without_node s n).members)) ⊎ ((n : ℕ) × (x ≡ (with_death s n).members)))

-- No step makes it false: not one of the nodes alone, nor the making of a port, nor a whole call, nor
-- the filling of a loan.
pub record IsKept (P : State → Type 0) : Type 0 where
  pub nodes : (s : State) (x : Members) → IsOfNodes s x → P s → P (with_members s x)
  pub makes : (s : State) (node : ℕ) (role : Role) (id : UniqueSystemId) (o : Options) (memory : Bool)
      → making_refusal s.fixed role o memory ≡ None → P s
      → P (with_fixed s (with_port s.fixed (new_port s.fixed node role id o)))
  pub calls : (s : State) (node : ℕ) (call : Call) (reply : Reply) (t : State)
      → misnamed s.fixed node call ≡ None → IsDone s node call reply t → P s → P t
  pub fills : (s : State) (node number : ℕ) (h : Handle) (x : Filling) → handle_at s.fixed node number ≡ Some h
      → MayFill s.fixed h x → P s → P (settled s node [] (Fills (filled_as h x)))

-- refused, nothing changes
pub unless_keeps : (P : State → Type 0) (q : Option Refusal) (s : State) (reply : Reply) (t : State) (Q : Type 0)
    → P s → (q ≡ None → Q → P t) → UnlessRefused q s reply t Q → P t
unless_keeps P (Some x) s reply t Q p f u = subst P (sym u.1) p
unless_keeps P None s reply t Q p f u = f refl u

pub unless_done : (P : State → Type 0) (s : State) (node : ℕ) (call : Call) (reply : Reply) (t : State)
    → P s → (misnamed s.fixed node call ≡ None → IsDone s node call reply t → P t) → IsWholeCall s node call reply t → P t
unless_done P s node call reply t p f =
    unless_keeps P (misnamed s.fixed node call) s reply t (UnlessRefused (spent s.fixed call) s reply t (IsDone s node call reply t)) p
    (λ named. unless_keeps P (spent s.fixed call) s reply t (IsDone s node call reply t) p (λ u. f named))

pub whole_keeps : (P : State → Type 0) → IsKept P → (s : State) (node : ℕ) (call : Call) (reply : Reply) (t : State)
    → P s → IsWholeCall s node call reply t → P t
whole_keeps P k s node call reply t p =
    unless_done P s node call reply t p (λ named done. k.calls s node call reply t named done p)

pub port_command_keeps : (P : State → Type 0) → IsKept P → (s : State) (node : ℕ) (c : HubCommand) (reply : Reply) (t : State)
    → P s → IsHubCommand s node c reply t → P t
port_command_keeps P k s node (Create role id o) reply t p c =
    unless_keeps P (making_refusal s.fixed role o c.0) s reply t _ p
    (λ allowed made. subst P (sym made.1) (k.makes s node role id o c.0 allowed p)) c.1
port_command_keeps P k s node (Use call) reply t p c = whole_keeps P k s node call reply t p c

pub releases_keep : (P : State → Type 0) → IsKept P → (s : State) (node : ℕ) (ns : List ℕ) (t : State)
    → P s → Releases s node ns t → P t
releases_keep P k s node [] t p e = subst P (sym e) p
releases_keep P k s node (n ∷ ns) t p e =
    releases_keep P k e.0 node ns t (whole_keeps P k s node (Release n) Done e.0 p e.1) e.2

node_command_keeps : (P : State → Type 0) → IsKept P → (s : State) (node : ℕ) (c : HubCommand) (reply : Reply) (t : State)
    → P s → IsNodeCommand s node c reply t → P t
node_command_keeps P k s node c reply t p x =
    unless_keeps P (not_living s node) s reply t _ p (λ u. port_command_keeps P k s node (with_own_id s node c) reply t p) x

pub command_keeps : (P : State → Type 0) → IsKept P → (s : State) (c : Command) (reply : Reply) (t : State)
    → P s → IsCommand s c reply t → P t
command_keeps P k s (commands.Join id asked) reply t p c =
    unless_keeps P (opening_refusal s id asked c.0) s reply t _ p
    (λ u done. subst P (sym done.1) (k.nodes s (joined s.members id) (inl (id, refl)) p)) c.1
command_keeps P k s (commands.Port c) reply t p x = node_command_keeps P k s (asking c).0 (asking c).1 reply t p x
command_keeps P k s (Leave node) reply t p c =
    unless_keeps P (leaving_refusal s node) s reply t _ p
    (λ u done. subst P (sym done.1) (k.nodes s (without_node s node).members (inr (inl (node, refl))) p)) c
command_keeps P k s (DeclareDead node) reply t p c =
    unless_keeps P (not_living s node) s reply t _ p
    (λ u done. subst P (sym done.1) (k.nodes s (with_death s node).members (inr (inr (node, refl))) p)) c
command_keeps P k s (Cleanup node) reply t p c =
    unless_keeps P (not_dead s node) s reply t _ p
    (λ u done. subst P (sym done.3)
    (k.nodes done.0 (without_node done.0 node).members (inr (inl (node, refl))) (releases_keep P k s node (numbers_of_node s.fixed node) done.0 p done.1))) c
command_keeps P k s ListNodes reply t p c = subst P (sym c.1) p
command_keeps P k s ListClients reply t p c = subst P (sym c.1) p
command_keeps P k s ListServers reply t p c = subst P (sym c.1) p

pub run_keeps : (P : State → Type 0) → IsKept P → (s : State) (cs : List Command) (rs : List Reply) (t : State)
    → P s → IsRun s cs rs t → P t
run_keeps P k s [] [] t p run = subst P (sym run) p
run_keeps P k s (c ∷ cs) (a ∷ rs) t p run = run_keeps P k run.0 cs rs t (command_keeps P k s c a run.0 p run.1) run.2
run_keeps P k s [] (a ∷ rs) t p run = absurd run
run_keeps P k s (c ∷ cs) [] t p run = absurd run

release_keeps : (P : State → Type 0) → IsKept P → (there : Bool) (s : State) (node n : ℕ) (t : State) → P s → IsReleaseWhere there s node n t → P t
release_keeps P k true s node n t p r = whole_keeps P k s node (Release n) Done t p r
release_keeps P k false s node n t p r = subst P (sym r) p

pub step_keeps : (P : State → Type 0) → IsKept P → (s : State) (x : ServiceStep) (t : State) → P s → IsServiceStep s x t → P t
step_keeps P k s (OfService c reply) t p x = command_keeps P k s c reply t p x
step_keeps P k s (OfHub node c reply) t p x = port_command_keeps P k s node c reply t p x
step_keeps P k s (OfLoan node number filling) t p x = subst P (sym x.3) (k.fills s node number x.0 filling x.1 x.2 p)
step_keeps P k s (OfValue node number kind) t p x = release_keeps P k (still_has s.fixed node number kind) s node number t p x

pub history_keeps : (P : State → Type 0) → IsKept P → (s : State) (xs : List ServiceStep) (t : State) → P s → IsHistory s xs t → P t
history_keeps P k s [] t p history = subst P (sym history) p
history_keeps P k s (x ∷ xs) t p history = history_keeps P k history.0 xs t (step_keeps P k s x history.0 p history.1) history.2

-- it is so of each service as it is created
abbrev pub IsFirst : (State → Type 0) → Type 0
IsFirst P = (l : Limits) (acts : List ℕ → ℕ → ℕ → BackpressureAction) (id : UniqueSystemId) → P (created l acts id)

-- So it is so of each state that a service and its hub come to.
pub reached_keeps : (P : State → Type 0) → IsKept P → IsFirst P → (s : State) → IsReachableState s → P s
reached_keeps P k first s r = history_keeps P k (created r.limits r.acts r.id) r.steps s (first r.limits r.acts r.id) r.history

-- ---- states that are reached

-- a run of a service is a history of it
pub run_is_history : (s : State) (cs : List Command) (rs : List Reply) (t : State) → IsRun s cs rs t → (xs : List ServiceStep) × IsHistory s xs t
run_is_history s [] [] t run = ([], run)
run_is_history s (c ∷ cs) (r ∷ rs) t run =
    let rest : (xs : List ServiceStep) × IsHistory run.0 xs t = run_is_history run.0 cs rs t run.2 in
    (OfService c r ∷ rest.0, (run.0, run.1, rest.1))
run_is_history s [] (r ∷ rs) t run = absurd run
run_is_history s (c ∷ cs) [] t run = absurd run

pub run_is_reached : (l : Limits) (acts : List ℕ → ℕ → ℕ → BackpressureAction) (id : UniqueSystemId) (cs : List Command) (rs : List Reply) (s : State)
    → IsShape l.request → IsShape l.response → IsRun (created l acts id) cs rs s → IsReachableState s
run_is_reached l acts id cs rs s request response run =
    let h : (xs : List ServiceStep) × IsHistory (created l acts id) xs s = run_is_history (created l acts id) cs rs s run in
    record { limits = l; acts = acts; id = id; request = request; response = response; steps = h.0; history = h.1 }

-- one step more
history_last : (s t u : State) (xs : List ServiceStep) (x : ServiceStep) → IsHistory s xs t → IsServiceStep t x u → IsHistory s (xs ++ x ∷ []) u
history_last s t u [] x history last = (u, subst (λ v. IsServiceStep v x u) history last, refl)
history_last s t u (y ∷ ys) x history last = (history.0, history.1, history_last history.0 t u ys x history.2 last)

pub step_is_reached : (s t : State) (x : ServiceStep) → IsReachableState s → IsServiceStep s x t → IsReachableState t
step_is_reached s t x r last = record {
  limits = r.limits;
  acts = r.acts;
  id = r.id;
  request = r.request;
  response = r.response;
  steps = r.steps ++ x ∷ [];
  history = history_last (created r.limits r.acts r.id) s t r.steps x r.history last;
}

members_history : (s : State) (xs : List ServiceStep) (t : State) → IsMembersHistory s xs t → IsHistory s xs t
members_history s [] t h = h
members_history s (x ∷ xs) t h = (h.0, h.2, members_history h.0 xs t h.3)

pub served_is_reachable : ServedIsReachable
served_is_reachable s x = record {
  limits = x.limits;
  acts = x.acts;
  id = x.id;
  request = x.request;
  response = x.response;
  steps = x.steps;
  history = members_history (created x.limits x.acts x.id) x.steps s x.history;
}
