-- Each command is answered, so each list of commands is a run.
use Rattle.std.specs.Prelude.{◌≡◌, ℕ, true, List, [], ◌∷◌, Option, Some, None, refl}
use Rattle.iox_model.specs.declared.command.Command.TheVariants as commands
use Rattle.iox_model.specs.declared.command.Command.TheVariants.{Leave, DeclareDead, Cleanup, ListNodes, ListClients, ListServers}
use Rattle.iox_model.specs.declared.reply.Reply.TheVariants as replies
use Rattle.iox_model.specs.declared.reply.Reply.TheVariants.{Refused, Done}
use Rattle.iox_model.specs.Begins.{start, MayChoose}
use Rattle.iox_model.specs.Commands.{Refusal, Reply, Call, HubCommand, Create, Use, Command, asking}
use Rattle.iox_model.specs.Counts.{with_fixed}
use Rattle.iox_model.specs.Ends.{settled}
use Rattle.iox_model.specs.Joins.{not_living, not_dead, opening_refusal, with_members, joined}
use Rattle.iox_model.specs.Loans.{Choice}
use Rattle.iox_model.specs.Makings.{making_refusal, new_port, with_port, port_reply, IsHubCommand}
use Rattle.iox_model.specs.Names.{misnamed}
use Rattle.iox_model.specs.Runs.{created, IsRun, IsHistory, ServiceStep, OfHub}
use Rattle.iox_model.specs.Services.{leaving_refusal, numbers_of_node, with_own_id, without_node, with_death, Releases, IsCleanup, IsNodeCommand, IsCommand}
use Rattle.iox_model.specs.States.{State}
use Rattle.iox_model.specs.WholeCalls.{replied, moved_by, MayHold, UnlessRefused, spent, IsDone, IsWholeCall}
use Rattle.iox_laws.proofs.WeaveWorlds.GoesOn.{some_holds}
use Rattle.iox_laws.specs.RunLaws.Answering.{ComesToAnEnd, EachCallEnds, EachPortCommandIsAnswered, EachCommandIsAnswered, EachRunGoesOn, AnswerIt, EachHistoryGoesOn}
use Rattle.iox_laws.proofs.RunLaws.Settling.{Calm}
use Rattle.iox_laws.proofs.RunLaws.Calls.{call_ends}
use Rattle.iox_laws.proofs.RunLaws.Choices.{something_may_be_chosen}
use Rattle.iox_laws.proofs.RunLaws.Cleanups.{all_released}
use Rattle.iox_laws.proofs.RunLaws.Runs.{command_calm, port_command_calm, created_calm, left_calm}
use Rattle.iox_laws.proofs.RunLaws.Values.{numbers_are_values, numbers_apart}

-- ---- refusals

-- it is refused, or what follows answers it
abbrev Answers : (Reply → State → Type 0) → Type 0
Answers P = (reply : Reply) × (t : State) × P reply t

unless : (q : Option Refusal) (s : State) (P : Reply → State → Type 0) → (q ≡ None → Answers P) → Answers (λ reply t. UnlessRefused q s reply t (P reply t))
unless (Some r) s P answers = (Refused r, s, (refl, refl))
unless None s P answers = answers refl

-- a command that is not refused has one reply
exactly : (q : Option Refusal) (s : State) (reply : Reply) (t : State) → Answers (λ r u. UnlessRefused q s r u ((r ≡ reply) × (u ≡ t)))
exactly q s reply t = unless q s (λ r u. (r ≡ reply) × (u ≡ t)) (λ e. (reply, t, (refl, refl)))

-- ---- calls and ports

pub each_call_ends : EachCallEnds
each_call_ends s node call c ms left named may = call_ends s node c call ms (left_calm s left) named may

call_answered : (s : State) (node : ℕ) (call : Call) → Calm s → Answers (IsWholeCall s node call)
call_answered s node call r =
    unless (misnamed s.fixed node call) s (λ reply t. UnlessRefused (spent s.fixed call) s reply t (IsDone s node call reply t))
    (λ named. unless (spent s.fixed call) s (IsDone s node call) (λ u. done named))
  where
    done : misnamed s.fixed node call ≡ None → Answers (IsDone s node call)
    done named =
        let c : (c : Choice) × (c.memory ≡ true) × MayChoose s.fixed node c call = something_may_be_chosen s.fixed node call true refl in
        let e : ComesToAnEnd s node (start s node c.0 call) = call_ends s node c.0 call [] r named tt in
        let p : (payload : List ℕ) × MayHold s.fixed e.2 payload = some_holds s.fixed e.2 in (
          replied s.fixed node e.2,
          settled (moved_by s e.0) node p.0 e.2,
          (c.0, c.2, e.0, e.1, e.2, e.3, p.0, p.1, refl, refl),
        )

port_command_answered : (s : State) (node : ℕ) (c : HubCommand) → Calm s → Answers (IsHubCommand s node c)
port_command_answered s node (Create role id o) r =
    let reply : Reply = port_reply role s.fixed.next_number in
    let t : State = with_fixed s (with_port s.fixed (new_port s.fixed node role id o)) in
    let q : Option Refusal = making_refusal s.fixed role o true in
    let a : Answers (λ r u. UnlessRefused q s r u ((r ≡ reply) × (u ≡ t))) = exactly q s reply t in
    (a.0, a.1, (true, a.2))
port_command_answered s node (Use call) r = call_answered s node call r

pub each_port_command_is_answered : EachPortCommandIsAnswered
each_port_command_is_answered s node command left = port_command_answered s node command (left_calm s left)

-- ---- the service

node_command_answered : (s : State) (node : ℕ) (c : HubCommand) → Calm s → Answers (IsNodeCommand s node c)
node_command_answered s node c r =
    unless (not_living s node) s (IsHubCommand s node (with_own_id s node c)) (λ u. port_command_answered s node (with_own_id s node c) r)

command_answered : (s : State) (c : Command) → Calm s → Answers (IsCommand s c)
command_answered s (commands.Join id asked) r =
    let reply : Reply = replies.Node s.members.joins in
    let t : State = with_members s (joined s.members id) in
    let q : Option Refusal = opening_refusal s id asked true in
    let a : Answers (λ r u. UnlessRefused q s r u ((r ≡ reply) × (u ≡ t))) = exactly q s reply t in
    (a.0, a.1, (true, a.2))
command_answered s (commands.Port c) r = node_command_answered s (asking c).0 (asking c).1 r
command_answered s (Leave node) r = exactly (leaving_refusal s node) s Done (without_node s node)
command_answered s (DeclareDead node) r = exactly (not_living s node) s Done (with_death s node)
command_answered s (Cleanup node) r =
    unless (not_dead s node) s (IsCleanup s node)
    (λ u.
    let mid : (t : State) × Releases s node (numbers_of_node s.fixed node) t
    = all_released node (numbers_of_node s.fixed node) s r (numbers_apart s.fixed node (r.rests).fixed) (λ k among. numbers_are_values s.fixed node k among) in
    (Done, without_node mid.0 node, (mid.0, mid.1, refl, refl)))
command_answered s ListNodes r = (_, s, (refl, refl))
command_answered s ListClients r = (_, s, (refl, refl))
command_answered s ListServers r = (_, s, (refl, refl))

pub each_command_is_answered : EachCommandIsAnswered
each_command_is_answered s command left = command_answered s command (left_calm s left)

-- ---- runs

runs_on : (s : State) (cs : List Command) → Calm s → (rs : List Reply) × (t : State) × IsRun s cs rs t
runs_on s [] r = ([], s, refl)
runs_on s (c ∷ cs) r =
    let a : Answers (IsCommand s c) = command_answered s c r in
    let rest : (rs : List Reply) × (t : State) × IsRun a.1 cs rs t = runs_on a.1 cs (command_calm s c a.0 a.1 r a.2) in
    (a.0 ∷ rest.0, rest.1, (a.1, a.2, rest.2))

pub each_run_goes_on : EachRunGoesOn
each_run_goes_on l acts id cs = runs_on (created l acts id) cs (created_calm l acts id)

histories_go_on : (s : State) (asked : List (ℕ × HubCommand)) → Calm s → (xs : List ServiceStep) × (t : State) × AnswerIt asked xs × IsHistory s xs t
histories_go_on s [] r = ([], s, tt, refl)
histories_go_on s (q ∷ qs) r =
    let a : Answers (IsHubCommand s q.0 q.1) = port_command_answered s q.0 q.1 r in
    let rest : (xs : List ServiceStep) × (t : State) × AnswerIt qs xs × IsHistory a.1 xs t
    = histories_go_on a.1 qs (port_command_calm s q.0 q.1 a.0 a.1 r a.2) in
    (OfHub q.0 q.1 a.0 ∷ rest.0, rest.1, (refl, rest.2), (a.1, a.2, rest.3))

pub each_history_goes_on : EachHistoryGoesOn
each_history_goes_on s asked left = histories_go_on s asked (left_calm s left)
