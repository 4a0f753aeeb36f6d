-- Commands that are played one after another, with the lanes that their loans take, are a run.
use Rattle.std.specs.Prelude.{◌≡◌, ℕ, Bool, true, false, ◌&&◌, List, [], ◌∷◌, map, Option, Some, None, refl}
use Rattle.std.proofs.Common.{sym, subst, true≢false}
use Rattle.iox_model.specs.declared.kind.Role.TheVariants.{Client, Server}
use Rattle.iox_model.specs.declared.call.Call.TheVariants.{Release}
use Rattle.iox_model.specs.declared.command.Command.TheVariants.{Leave, DeclareDead, Cleanup, ListNodes, ListClients, ListServers}
use Rattle.iox_model.specs.declared.command.Command.TheVariants as commands
use Rattle.iox_model.specs.declared.reply.Reply.TheVariants.{Done, Listed}
use Rattle.iox_model.specs.declared.reply.Reply.TheVariants as replies
use Rattle.iox_model.specs.Runs.{IsRun}
use Rattle.iox_model.specs.Makings.{making_refusal, new_port, with_port, port_reply, IsHubCommand}
use Rattle.iox_model.specs.States.{State}
use Rattle.iox_model.specs.WholeCalls.{UnlessRefused, IsWholeCall}
use Rattle.iox_model.specs.Maps.{rest_of}
use Rattle.iox_model.specs.Joins.{not_living, not_dead, with_members, opening_refusal, joined}
use Rattle.iox_model.specs.Services.{without_node, numbers_of_node, leaving_refusal, with_death, Releases, IsCleanup, with_own_id, IsNodeCommand, IsCommand}
use Rattle.iox_model.specs.Counts.{with_fixed}
use Rattle.iox_model.specs.Commands.{Refusal, Reply, HubCommand, Create, Use, Command, asking}
use Rattle.iox_laws.specs.WeaveLaws.Laws.{on_lane}
use Rattle.iox_model.specs.Peers.{ports_of_role}
use Rattle.iox_laws.proofs.WeaveLaws.WholeLemmas.{split}
use Rattle.iox_laws.proofs.WeaveLaws.PlayedCalls.{unless, called_by, is_played, played_is_whole}

-- ---- the releases of a cleanup

abbrev pub is_done : Reply → Bool
is_done Done = true
is_done r = false

done_reply : (r : Reply) → is_done r ≡ true → r ≡ Done
done_reply Done e = refl
done_reply r e = absurd (true≢false (sym e))

abbrev pub released_by : State → ℕ → List ℕ → State
released_by s node [] = s
released_by s node (n ∷ ns) = released_by (called_by s node (Release n) (on_lane 0)).1 node ns

abbrev pub is_released : State → ℕ → List ℕ → Bool
is_released s node [] = true
is_released s node (n ∷ ns) =
    (is_played s node (Release n) (on_lane 0) && is_done (called_by s node (Release n) (on_lane 0)).0)
    && is_released (called_by s node (Release n) (on_lane 0)).1 node ns

released_are_releases : (s : State) (node : ℕ) (ns : List ℕ) → is_released s node ns ≡ true → Releases s node ns (released_by s node ns)
released_are_releases s node [] e = refl
released_are_releases s node (n ∷ ns) e =
    let r : Reply × State = called_by s node (Release n) (on_lane 0) in
    let p : ((is_played s node (Release n) (on_lane 0) && is_done r.0) ≡ true) × (is_released r.1 node ns ≡ true) = split _ _ e in
    let q : (is_played s node (Release n) (on_lane 0) ≡ true) × (is_done r.0 ≡ true) = split _ _ p.0 in (
      r.1,
      subst (λ x. IsWholeCall s node (Release n) x r.1) (done_reply r.0 q.1) (played_is_whole s node (Release n) (on_lane 0) q.0),
      released_are_releases r.1 node ns p.1,
    )

-- ---- commands

abbrev pub port_answered : State → ℕ → HubCommand → ℕ → Reply × State
port_answered s node (Create role id o) lane =
    unless (making_refusal s.fixed role o true) s
    (port_reply role s.fixed.next_number, with_fixed s (with_port s.fixed (new_port s.fixed node role id o)))
port_answered s node (Use call) lane = called_by s node call (on_lane lane)

abbrev pub node_answered : State → ℕ → HubCommand → ℕ → Reply × State
node_answered s node command lane = unless (not_living s node) s (port_answered s node (with_own_id s node command) lane)

abbrev pub answered : State → Command → ℕ → Reply × State
answered s (commands.Join id asked) lane =
    unless (opening_refusal s id asked true) s (replies.Node s.members.joins, with_members s (joined s.members id))
answered s (commands.Port command) lane = node_answered s (asking command).0 (asking command).1 lane
answered s (Leave node) lane = unless (leaving_refusal s node) s (Done, without_node s node)
answered s (DeclareDead node) lane = unless (not_living s node) s (Done, with_death s node)
answered s (Cleanup node) lane =
    unless (not_dead s node) s (Done, without_node (released_by s node (numbers_of_node s.fixed node)) node)
answered s ListNodes lane = (Listed (map (λ m. m.number) s.members.nodes), s)
answered s ListClients lane = (Listed (ports_of_role s.fixed Client), s)
answered s ListServers lane = (Listed (ports_of_role s.fixed Server), s)

abbrev pub is_some_or : Option Refusal → Bool → Bool
is_some_or (Some r) b = true
is_some_or None b = b

abbrev pub port_may : State → ℕ → HubCommand → ℕ → Bool
port_may s node (Create role id o) lane = true
port_may s node (Use call) lane = is_played s node call (on_lane lane)

abbrev pub node_may : State → ℕ → HubCommand → ℕ → Bool
node_may s node command lane = is_some_or (not_living s node) (port_may s node (with_own_id s node command) lane)

abbrev pub is_answered : State → Command → ℕ → Bool
is_answered s (commands.Port command) lane = node_may s (asking command).0 (asking command).1 lane
is_answered s (Cleanup node) lane = is_some_or (not_dead s node) (is_released s node (numbers_of_node s.fixed node))
is_answered s command lane = true

refused_or : (o : Option Refusal) (s : State) (r : Reply × State) (P : Reply → State → Type 0) (b : Bool)
    → is_some_or o b ≡ true → (b ≡ true → P r.0 r.1) → UnlessRefused o s (unless o s r).0 (unless o s r).1 (P (unless o s r).0 (unless o s r).1)
refused_or (Some x) s r P b e f = (refl, refl)
refused_or None s r P b e f = f e

port_is_command : (s : State) (node : ℕ) (command : HubCommand) (lane : ℕ) → port_may s node command lane ≡ true
    → IsHubCommand s node command (port_answered s node command lane).0 (port_answered s node command lane).1
port_is_command s node (Create role id o) lane e = (
  true,
  refused_or (making_refusal s.fixed role o true) s
      (port_reply role s.fixed.next_number, with_fixed s (with_port s.fixed (new_port s.fixed node role id o)))
      (λ r s'. (r ≡ port_reply role s.fixed.next_number) × (s' ≡ with_fixed s (with_port s.fixed (new_port s.fixed node role id o)))) true
      (option_true (making_refusal s.fixed role o true)) (λ x. (refl, refl)),
)
  where
    option_true : (o : Option Refusal) → is_some_or o true ≡ true
    option_true None = refl
    option_true (Some r) = refl
port_is_command s node (Use call) lane e = played_is_whole s node call (on_lane lane) e

always : (o : Option Refusal) → is_some_or o true ≡ true
always None = refl
always (Some r) = refl

node_is_command : (s : State) (node : ℕ) (command : HubCommand) (lane : ℕ) → node_may s node command lane ≡ true
    → IsNodeCommand s node command (node_answered s node command lane).0 (node_answered s node command lane).1
node_is_command s node command lane e =
    refused_or (not_living s node) s (port_answered s node (with_own_id s node command) lane)
    (λ r s'. IsHubCommand s node (with_own_id s node command) r s') (port_may s node (with_own_id s node command) lane) e
    (port_is_command s node (with_own_id s node command) lane)

pub answered_is_command : (s : State) (command : Command) (lane : ℕ) → is_answered s command lane ≡ true
    → IsCommand s command (answered s command lane).0 (answered s command lane).1
answered_is_command s (commands.Join id asked) lane e = (
  true,
  refused_or (opening_refusal s id asked true) s (replies.Node s.members.joins, with_members s (joined s.members id))
      (λ r s'. (r ≡ replies.Node s.members.joins) × (s' ≡ with_members s (joined s.members id))) true
      (always (opening_refusal s id asked true)) (λ x. (refl, refl)),
)
answered_is_command s (commands.Port command) lane e = node_is_command s (asking command).0 (asking command).1 lane e
answered_is_command s (Leave node) lane e =
    refused_or (leaving_refusal s node) s (Done, without_node s node) (λ r s'. (r ≡ Done) × (s' ≡ without_node s node)) true
    (always (leaving_refusal s node)) (λ x. (refl, refl))
answered_is_command s (DeclareDead node) lane e =
    refused_or (not_living s node) s (Done, with_death s node) (λ r s'. (r ≡ Done) × (s' ≡ with_death s node)) true
    (always (not_living s node)) (λ x. (refl, refl))
answered_is_command s (Cleanup node) lane e =
    let ns : List ℕ = numbers_of_node s.fixed node in
    refused_or (not_dead s node) s (Done, without_node (released_by s node ns) node) (λ r s'. IsCleanup s node r s') (is_released s node ns) e
    (λ x. (released_by s node ns, released_are_releases s node ns x, refl, refl))
answered_is_command s ListNodes lane e = (refl, refl)
answered_is_command s ListClients lane e = (refl, refl)
answered_is_command s ListServers lane e = (refl, refl)

-- ---- runs

abbrev pub lane_of : List ℕ → ℕ
lane_of [] = 0
lane_of (lane ∷ lanes) = lane

-- what the commands answer, where they may be played, and the state that they leave
abbrev pub replies_by : State → List Command → List ℕ → List Reply
replies_by s [] lanes = []
replies_by s (c ∷ cs) lanes = (answered s c (lane_of lanes)).0 ∷ replies_by (answered s c (lane_of lanes)).1 cs (rest_of lanes)

abbrev pub are_answered : State → List Command → List ℕ → Bool
are_answered s [] lanes = true
are_answered s (c ∷ cs) lanes = is_answered s c (lane_of lanes) && are_answered (answered s c (lane_of lanes)).1 cs (rest_of lanes)

abbrev pub state_by : State → List Command → List ℕ → State
state_by s [] lanes = s
state_by s (c ∷ cs) lanes = state_by (answered s c (lane_of lanes)).1 cs (rest_of lanes)

played_is_run : (s : State) (cs : List Command) (lanes : List ℕ) → are_answered s cs lanes ≡ true
    → IsRun s cs (replies_by s cs lanes) (state_by s cs lanes)
played_is_run s [] lanes e = refl
played_is_run s (c ∷ cs) lanes e =
    let p : (is_answered s c (lane_of lanes) ≡ true) × (are_answered (answered s c (lane_of lanes)).1 cs (rest_of lanes) ≡ true) = split _ _ e in (
      (answered s c (lane_of lanes)).1,
      answered_is_command s c (lane_of lanes) p.0,
      played_is_run (answered s c (lane_of lanes)).1 cs (rest_of lanes) p.1,
    )

-- Commands that are played and answer this are a run with these replies.
pub is_run_to : (s : State) (cs : List Command) (rs : List Reply) (lanes : List ℕ) → are_answered s cs lanes ≡ true
    → replies_by s cs lanes ≡ rs → IsRun s cs rs (state_by s cs lanes)
is_run_to s cs rs lanes e same = subst (λ x. IsRun s cs x (state_by s cs lanes)) same (played_is_run s cs lanes e)

pub is_run : (s : State) (cs : List Command) (rs : List Reply) (lanes : List ℕ) → are_answered s cs lanes ≡ true
    → replies_by s cs lanes ≡ rs → (s' : State) × IsRun s cs rs s'
is_run s cs rs lanes e same = (state_by s cs lanes, is_run_to s cs rs lanes e same)
