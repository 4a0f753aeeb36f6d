-- Each message that was delivered, a step of the history sent.
use Rattle.std.specs.Prelude.{◌≡◌, ℕ, Bool, true, false, List, [], ◌∷◌, ◌++◌, Option, Some, None, ◌⊎◌}
use Rattle.std.proofs.Common.{subst, inl, inr}
use Rattle.std.proofs.lemmas.Grind.{flat_map-append}
use Rattle.iox_model.specs.declared.call.Call.TheVariants.{Release}
use Rattle.iox_model.specs.declared.command.Command.TheVariants as commands
use Rattle.iox_model.specs.declared.command.Command.TheVariants.{Leave, DeclareDead, Cleanup, ListNodes, ListClients, ListServers}
use Rattle.iox_model.specs.declared.reply.Reply.TheVariants.{Done}
use Rattle.iox_model.specs.declared.way.Way.{Way}
use Rattle.iox_model.specs.Commands.{Refusal, Reply, Call, HubCommand, Create, Use, Command, asking}
use Rattle.iox_model.specs.Joins.{not_living, not_dead}
use Rattle.iox_model.specs.Makings.{IsHubCommand}
use Rattle.iox_model.specs.Messages.{Message}
use Rattle.iox_model.specs.Runs.{created, ServiceStep, OfService, OfHub, OfLoan, OfValue, IsServiceStep, IsHistory}
use Rattle.iox_model.specs.Services.{numbers_of_node, with_own_id, Releases, IsCleanup, IsCommand}
use Rattle.iox_model.specs.States.{State}
use Rattle.iox_model.specs.Values.{still_has, IsReleaseWhere}
use Rattle.iox_model.specs.Weaves.{Beat}
use Rattle.iox_model.specs.WholeCalls.{UnlessRefused, IsWholeCall}
use Rattle.iox_laws.proofs.WeaveLedger.Truths.{none-some}
use Rattle.iox_laws.specs.RunLaws.Traces.{unless_refused, beats_of_call, beats_of_port_command, beats_of_releases, beats_of_command, beats_of_release, beats_of_step, beats_of_history}
use Rattle.iox_laws.specs.MessageLaws.Deliveries.{message_put_on, messages_put_on}
use Rattle.iox_laws.specs.MessageLaws.Lists.{IsOneOf}
use Rattle.iox_laws.specs.MessageLaws.Origins.{sent_by_command, sent_by_step, IsSentAlong, EachWasSent, ReadAsSent}
use Rattle.iox_laws.specs.MessageLaws.Sendings.{sent_message}
use Rattle.iox_laws.proofs.MessageLaws.Carries.{one-append}
use Rattle.iox_laws.proofs.MessageLaws.Readings.{read_as_delivered}
use Rattle.iox_laws.proofs.MessageLaws.Sendings.{delivers_what_is_sent}

-- the beats put the message on the way
abbrev Puts : Way → Message → List Beat → Type 0
Puts y m bs = IsOneOf m (messages_put_on y bs)

put-either : (y : Way) (m : Message) (bs cs : List Beat) → Puts y m (bs ++ cs) → Puts y m bs ⊎ Puts y m cs
put-either y m bs cs p =
    one-append m (messages_put_on y bs) (messages_put_on y cs) (subst (IsOneOf m) (flat_map-append (message_put_on y) bs cs) p)

-- what is refused puts nothing
unless_puts : (y : Way) (m : Message) (A : Type 0) (r : Option Refusal) (s : State) (reply : Reply) (t : State) (Q : Type 0) (beats : Q → List Beat)
    → ((q : Q) → Puts y m (beats q) → A) → (u : UnlessRefused r s reply t Q) → Puts y m (unless_refused r s reply t Q beats u) → A
unless_puts y m A (Some x) s reply t Q beats f u p = absurd p
unless_puts y m A None s reply t Q beats f u p = f u p

-- ---- a step

abbrev SentBy : State → ℕ → HubCommand → Message → Type 0
SentBy s node command m = (lane : ℕ) × (sent_by_command s.fixed node lane command ≡ Some m)

call_sends : (y : Way) (m : Message) (s t : State) (node : ℕ) (call : Call) (reply : Reply) (done : IsWholeCall s node call reply t)
    → Puts y m (beats_of_call s node call reply t done) → SentBy s node (Use call) m
call_sends y m s t node call reply done p =
    let q : (lane : ℕ) × ((y : Way) (m : Message) → IsOneOf m (messages_put_on y (beats_of_call s node call reply t done))
    → sent_message s.fixed node lane call ≡ Some m)
    = delivers_what_is_sent s t node call reply done in
    (q.0, q.1 y m p)

-- a release sends nothing
release_sends : {A : Type 0} (y : Way) (m : Message) (s t : State) (node n : ℕ) (done : IsWholeCall s node (Release n) Done t)
    → Puts y m (beats_of_call s node (Release n) Done t done) → A
release_sends y m s t node n done p = none-some m (call_sends y m s t node (Release n) Done done p).1

port_command_sends : (y : Way) (m : Message) (s t : State) (node : ℕ) (command : HubCommand) (reply : Reply) (done : IsHubCommand s node command reply t)
    → Puts y m (beats_of_port_command s node command reply t done) → SentBy s node command m
port_command_sends y m s t node (Create role id o) reply done p = absurd p
port_command_sends y m s t node (Use call) reply done p = call_sends y m s t node call reply done p

-- the id of a port that is made is no message
own_sends : (s : State) (node : ℕ) (command : HubCommand) (m : Message) → SentBy s node (with_own_id s node command) m → SentBy s node command m
own_sends s node (Create role id o) m p = p
own_sends s node (Use call) m p = p

releases_send : {A : Type 0} (y : Way) (m : Message) (s : State) (node : ℕ) (ns : List ℕ) (t : State) (r : Releases s node ns t)
    → Puts y m (beats_of_releases s node ns t r) → A
releases_send y m s node [] t r p = absurd p
releases_send {A = A} y m s node (n ∷ ns) t r p =
    elim (put-either y m (beats_of_call s node (Release n) Done r.0 r.1) (beats_of_releases r.0 node ns t r.2) p) as (λ u. A) [
      | inl now ↦ release_sends y m s r.0 node n r.1 now
      | inr later ↦ releases_send y m r.0 node ns t r.2 later
    ]

abbrev SentByStep : State → ServiceStep → Message → Type 0
SentByStep s x m = (lane : ℕ) × (sent_by_step s.fixed lane x ≡ Some m)

command_sends : (y : Way) (m : Message) (s : State) (command : Command) (reply : Reply) (t : State) (done : IsCommand s command reply t)
    → Puts y m (beats_of_command s command reply t done) → SentByStep s (OfService command reply) m
command_sends y m s (commands.Port command) reply t done p =
    let node : ℕ = (asking command).0 in
    let own : HubCommand = with_own_id s node (asking command).1 in
    unless_puts y m (SentBy s node (asking command).1 m) (not_living s node) s reply t (IsHubCommand s node own reply t)
    (beats_of_port_command s node own reply t)
    (λ q r. own_sends s node (asking command).1 m (port_command_sends y m s t node own reply q r)) done p
command_sends y m s (Cleanup node) reply t done p =
    unless_puts y m (SentByStep s (OfService (Cleanup node) reply) m) (not_dead s node) s reply t (IsCleanup s node reply t)
    (λ c. beats_of_releases s node (numbers_of_node s.fixed node) c.0 c.1)
    (λ c. releases_send y m s node (numbers_of_node s.fixed node) c.0 c.1) done p
command_sends y m s (commands.Join id asked) reply t done p = absurd p
command_sends y m s (Leave node) reply t done p = absurd p
command_sends y m s (DeclareDead node) reply t done p = absurd p
command_sends y m s ListNodes reply t done p = absurd p
command_sends y m s ListClients reply t done p = absurd p
command_sends y m s ListServers reply t done p = absurd p

value_sends : {A : Type 0} (y : Way) (m : Message) (there : Bool) (s : State) (node n : ℕ) (t : State) (r : IsReleaseWhere there s node n t)
    → Puts y m (beats_of_release there s node n t r) → A
value_sends y m true s node n t r p = release_sends y m s t node n r p
value_sends y m false s node n t r p = absurd p

step_sends : (y : Way) (m : Message) (s : State) (x : ServiceStep) (t : State) (e : IsServiceStep s x t) → Puts y m (beats_of_step s x t e) → SentByStep s x m
step_sends y m s (OfService command reply) t e p = command_sends y m s command reply t e p
step_sends y m s (OfHub node command reply) t e p = port_command_sends y m s t node command reply e p
step_sends y m s (OfLoan node number filling) t e p = absurd p
step_sends y m s (OfValue node number kind) t e p = value_sends y m (still_has s.fixed node number kind) s node number t e p

-- ---- a history

history_sends : (y : Way) (m : Message) (s : State) (xs : List ServiceStep) (t : State) (h : IsHistory s xs t)
    → Puts y m (beats_of_history s xs t h) → IsSentAlong y m s xs t h
history_sends y m s [] t h p = absurd p
history_sends y m s (x ∷ xs) t h p =
    elim (put-either y m (beats_of_step s x h.0 h.1) (beats_of_history h.0 xs t h.2) p) as (λ u. IsSentAlong y m s (x ∷ xs) t h) [
      | inl now ↦ inl (now, step_sends y m s x h.0 h.1 now)
      | inr later ↦ inr (history_sends y m h.0 xs t h.2 later)
    ]

pub each_was_sent : EachWasSent
each_was_sent s reached y m p = history_sends y m (created reached.limits reached.acts reached.id) reached.steps s reached.history p

pub read_as_sent : ReadAsSent
read_as_sent s t reached node n h words is received whole =
    let p : _ = read_as_delivered s t reached node n h words is received whole in
    (p.0, each_was_sent s reached _ h.message (p.1).delivered)
