-- A refused command delivered nothing.
use Rattle.std.specs.Prelude.{◌≡◌, ℕ, true, if◌then◌else◌, List, [], ◌∷◌, map, ◌⊎◌, refl}
use Rattle.std.proofs.Common.{sym, subst, ◌∙◌, true≢false, inl, inr}
use Rattle.iox_model.specs.declared.command.Command.TheVariants as commands
use Rattle.iox_model.specs.declared.command.Command.TheVariants.{Leave, DeclareDead, Cleanup, ListNodes, ListClients, ListServers}
use Rattle.iox_model.specs.declared.reply.Reply.TheVariants as replies
use Rattle.iox_model.specs.declared.reply.Reply.TheVariants.{Sent, Done, Refused}
use Rattle.iox_model.specs.declared.way.Way.{Way}
use Rattle.iox_model.specs.Begins.{start}
use Rattle.iox_model.specs.Commands.{Refusal, Reply, Call, HubCommand, Create, Use, asking}
use Rattle.iox_model.specs.Doings.{Outcome, Tells, Loans, Fills, Sends, FailsToSend, Receives, Drops, DropsPort, Forgets, Doing}
use Rattle.iox_model.specs.Handles.{is_request_loan, new_number}
use Rattle.iox_model.specs.Joins.{not_living, not_dead}
use Rattle.iox_laws.specs.WeaveLaws.Laws.{is_refused}
use Rattle.iox_model.specs.Makings.{IsHubCommand}
use Rattle.iox_model.specs.Moments.{moved, Moment, Deliver}
use Rattle.iox_laws.specs.WeaveLaws.OrderLaws.{all_put_on}
use Rattle.iox_model.specs.Services.{numbers_of_node, with_own_id, IsCleanup, IsNodeCommand}
use Rattle.iox_model.specs.States.{Fixed, State}
use Rattle.iox_model.specs.Transitions.{next}
use Rattle.iox_model.specs.Weaves.{Beat, Makes}
use Rattle.iox_model.specs.WholeCalls.{replied, moved_by, left_by, MayCome, IsDone, IsWholeCall}
use Rattle.iox_laws.proofs.WeaveLaws.CallLaws.{StepsKeep}
use Rattle.iox_laws.proofs.WeaveLaws.DeliveredLaws.{HasDelivered, goes_on_delivering, only_sends_deliver, sends_in_the_end}
use Rattle.iox_laws.proofs.WeaveLaws.MapLemmas.{either}
use Rattle.iox_laws.specs.RunLaws.TraceLaws.{RefusedPortCommandDeliversNothing, RefusedCommandDeliversNothing}
use Rattle.iox_laws.specs.RunLaws.Traces.{beats_of_done, beats_of_call, beats_of_port_command, beats_of_releases, beats_of_node_command}
use Rattle.iox_laws.proofs.RunLaws.Along.{unless_along, whole_along}

-- ---- moments back to back

-- a property that each moment of a call keeps lasts along its moments
pub along_moments : (node : ℕ) (P : Doing → Type 0) → StepsKeep node P → (s : State) (d : Doing) (ms : List Moment) → MayCome s node d ms → P d
    → P (left_by s node d ms)
along_moments node P keeps s d [] may p = p
along_moments node P keeps s d (m ∷ ms) may p =
    along_moments node P keeps (moved s m) (next s node d m).after ms may.2 (keeps s d m p may.0 may.1)

-- nothing was put on the way, or the call is a send that delivered
delivers_or_not : (y : Way) (s : State) (node : ℕ) (d : Doing) (ms : List Moment) → MayCome s node d ms
    → (all_put_on y (map (Makes node) ms) ≡ []) ⊎ HasDelivered (left_by s node d ms)
delivers_or_not y s node d [] may = inl refl
delivers_or_not y s node d (Deliver w x ∷ ms) may =
    inr (along_moments node HasDelivered (goes_on_delivering node) (moved s (Deliver w x)) (next s node d (Deliver w x)).after ms may.2
    (only_sends_deliver s node d w x may.1))
delivers_or_not y s node d (m ∷ ms) may = delivers_or_not y (moved s m) node (next s node d m).after ms may.2

-- ---- refusals

abbrev IsRefused : Reply → Type 0
IsRefused (Refused r) = Unit {0}
IsRefused reply = ⊥

refused_outcome : (f : Fixed) (node : ℕ) (o : Outcome) → IsRefused (replied f node o) → is_refused o ≡ true
refused_outcome f node (Tells reply) p = told reply p
  where
    told : (reply : Reply) → IsRefused reply → is_refused (Tells reply) ≡ true
    told (Refused r) p = refl
    told reply p = absurd p
refused_outcome f node (Loans h) p = absurd p
refused_outcome f node (Fills h) p = absurd p
refused_outcome f node (Sends h copied count) p =
    absurd (either (λ (r : Reply). IsRefused r → ⊥) (is_request_loan h.kind) (if copied then replies.Handle (new_number f node) else Sent count) Done
    (λ u. either (λ (r : Reply). IsRefused r → ⊥) copied (replies.Handle (new_number f node)) (Sent count) (λ v q. q) (λ v q. q)) (λ u q. q) p)
refused_outcome f node (FailsToSend h copied refusal) p = refl
refused_outcome f node (Receives x w m) p = absurd p
refused_outcome f node (Drops h) p = absurd p
refused_outcome f node (DropsPort port) p = absurd p
refused_outcome f node (Forgets dead) p = absurd p

done_delivers_nothing : (s : State) (node : ℕ) (call : Call) (reply : Reply) (t : State) (y : Way) → IsRefused reply
    → (done : IsDone s node call reply t) → all_put_on y (beats_of_done s node call reply t done) ≡ []
done_delivers_nothing s node call reply t y refused done =
    let d : Doing = start s node done.0 call in
    elim (delivers_or_not y s node d done.2 done.3) as (λ u. all_put_on y (map (Makes node) done.2) ≡ []) [
      | inl e ↦ e
      | inr p ↦ absurd (true≢false (sym (refused_outcome s.fixed node done.4 (subst IsRefused done.8 refused))
          ∙ sends_in_the_end (moved_by s done.2) (left_by s node d done.2) done.4 p done.5))
    ]

-- ---- commands

-- from one state to another nothing is put on the way
abbrev PutsNothing : Way → State → List Beat → State → Type 0
PutsNothing y s bs t = all_put_on y bs ≡ []

call_delivers_nothing : (s : State) (node : ℕ) (call : Call) (reply : Reply) (t : State) (y : Way) → IsRefused reply
    → (c : IsWholeCall s node call reply t) → all_put_on y (beats_of_call s node call reply t c) ≡ []
call_delivers_nothing s node call reply t y refused =
    whole_along (PutsNothing y) (λ a. refl) s node call reply t (λ named. done_delivers_nothing s node call reply t y refused)

pub refused_port_command_delivers_nothing : RefusedPortCommandDeliversNothing
refused_port_command_delivers_nothing s t node (Create role id o) r y done = refl
refused_port_command_delivers_nothing s t node (Use call) r y done = call_delivers_nothing s node call (Refused r) t y tt done

refused_node_command_delivers_nothing : (s t : State) (node : ℕ) (command : HubCommand) (r : Refusal) (y : Way)
    → (done : IsNodeCommand s node command (Refused r) t) → all_put_on y (beats_of_node_command s node command (Refused r) t done) ≡ []
refused_node_command_delivers_nothing s t node command r y done =
    let own : HubCommand = with_own_id s node command in
    unless_along (PutsNothing y) (λ a. refl) (not_living s node) s (Refused r) t (IsHubCommand s node own (Refused r) t)
    (beats_of_port_command s node own (Refused r) t) (λ u. refused_port_command_delivers_nothing s t node own r y) done

pub refused_command_delivers_nothing : RefusedCommandDeliversNothing
refused_command_delivers_nothing s t (commands.Port command) r y done =
    refused_node_command_delivers_nothing s t (asking command).0 (asking command).1 r y done
refused_command_delivers_nothing s t (Cleanup node) r y done =
    unless_along (PutsNothing y) (λ a. refl) (not_dead s node) s (Refused r) t (IsCleanup s node (Refused r) t)
    (λ c. beats_of_releases s node (numbers_of_node s.fixed node) c.0 c.1) (λ u c. absurd (subst IsRefused c.2 tt)) done
refused_command_delivers_nothing s t (commands.Join id asked) r y done = refl
refused_command_delivers_nothing s t (Leave node) r y done = refl
refused_command_delivers_nothing s t (DeclareDead node) r y done = refl
refused_command_delivers_nothing s t ListNodes r y done = refl
refused_command_delivers_nothing s t ListClients r y done = refl
refused_command_delivers_nothing s t ListServers r y done = refl
