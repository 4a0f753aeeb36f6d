-- That memory was there for what is answered.
use Rattle.std.specs.Prelude.{◌≡◌, ℕ, ⊤, Bool, true, false, not, List, Option, Some, None, Result, Ok, Err}
use Rattle.std.specs.Option.{option_map, option_map_or}
use Rattle.std.specs.declared.vec.Vec.{Vec}
use Rattle.std.proofs.Common.{refl, subst, sym, true≢false, ◌∙◌}
use Rattle.std.proofs.lemmas.Option.{none-some, same_Some}
use Rattle.iox_types.specs.declared.identifiers.system_id.UniqueSystemId.{UniqueSystemId}
use Rattle.iox_model.specs.declared.command.Command as the_command
use Rattle.iox_model.specs.declared.command.Command.TheVariants as commands
use Rattle.iox_model.specs.declared.command.PortCommand as the_port_command
use Rattle.iox_model.specs.declared.command.PortCommand.TheVariants as ports
use Rattle.iox_model.specs.declared.reply.PortReply as the_port_reply
use Rattle.iox_model.specs.declared.reply.Refusal as the_refusal
use Rattle.iox_model.specs.declared.reply.Refusal.TheVariants as refusals
use Rattle.iox_model.specs.declared.reply.Reply as the_reply
use Rattle.iox_model.specs.declared.reply.Reply.TheVariants as replies
use Rattle.iox_model.specs.Commands.{Cause, Command, PortCommand, Refusal, Reply, asking}
use Rattle.iox_model.specs.Joins.{new_node, node_at, not_dead, not_living}
use Rattle.iox_model.specs.Maps.{is_empty, or_else, refused_if}
use Rattle.iox_model.specs.Services.{IsCleanup, IsCommand, leaving_refusal, numbers_of_node, with_death, without_node}
use Rattle.iox_model.specs.Settings.{Limits}
use Rattle.iox_model.specs.States.{Members, Node, State}
use Rattle.iox_model.specs.WholeCalls.{UnlessRefused}
use Rattle.iox_port_commands.specs.Hubs.{HubState}
use Rattle.iox_members.specs.Nodes.{node_in}
use Rattle.iox_members.specs.Steps.{IsRefusedUnlessLiving}
use Rattle.iox_openers.specs.Causes.{with_cause}
use Rattle.iox_port_commands.specs.Applying.{HadMemoryFor, IsApplied}
use Rattle.iox_port_commands.specs.Asking.{command_for}
use Rattle.iox_port_commands.specs.Memory.{HadMemory, IsTooLarge}
use Rattle.iox_port_commands.specs.declared.elements.Elements.{Elements}
use Rattle.iox_nodes.specs.Given.{asker, command_given, reply_given, reply_of, reply_to, with_id}
use Rattle.iox_nodes.specs.Memory.{IsAnsweredWithMemory, is_wanting}
use Rattle.iox_nodes.specs.Served.{IsAnswered, IsJoin}
use Rattle.iox_nodes.specs.Shown.{given_for, state_of}
use Rattle.iox_nodes.proofs.Answering.{may_not, port_so, told_so}
use Rattle.iox_nodes.proofs.Telling.{join_answered}

-- ---- refusals of nodes

had_unless : (l : Limits) (c : Command) (q : Option Refusal) (s : State) (reply : Reply) (s' : State) (X : Type 0)
    → ((r : Refusal) → q ≡ Some r → HadMemory l c (replies.Refused r)) → (X → HadMemory l c reply) → UnlessRefused q s reply s' X → HadMemory l c reply
had_unless l c (Some r) s reply s' X refused done u = subst (λ a. HadMemory l c a) (sym u.0) (refused r refl)
had_unless l c None s reply s' X refused done u = done u

-- one refusal, where it does not tell of memory
one_had : (l : Limits) (c : Command) (k r : Refusal) → HadMemory l c (replies.Refused k) → Some k ≡ Some r → HadMemory l c (replies.Refused r)
one_had l c k r had e = subst (λ q. HadMemory l c (replies.Refused q)) (same_Some k r e) had

if_had : (l : Limits) (c : Command) (b : Bool) (k r : Refusal) → HadMemory l c (replies.Refused k) → refused_if b k ≡ Some r → HadMemory l c (replies.Refused r)
if_had l c true k r had e = one_had l c k r had e
if_had l c false k r had e = absurd (none-some r e)

pub living_had : (l : Limits) (c : Command) (s : State) (node : ℕ) (r : Refusal) → not_living s node ≡ Some r → HadMemory l c (replies.Refused r)
living_had l c s node r e = step (node_at s node) e
  where
    step : (m : Option Node) → option_map_or (λ m. refused_if (not m.alive) refusals.NodeIsDead) m (Some refusals.UnknownNode) ≡ Some r
        → HadMemory l c (replies.Refused r)
    step None e = one_had l c refusals.UnknownNode r tt e
    step (Some m) e = if_had l c (not m.alive) refusals.NodeIsDead r tt e

dead_had : (l : Limits) (c : Command) (s : State) (node : ℕ) (r : Refusal) → not_dead s node ≡ Some r → HadMemory l c (replies.Refused r)
dead_had l c s node r e = step (node_at s node) e
  where
    step : (m : Option Node) → option_map_or (λ m. refused_if m.alive refusals.NodeIsAlive) m (Some refusals.UnknownNode) ≡ Some r
        → HadMemory l c (replies.Refused r)
    step None e = one_had l c refusals.UnknownNode r tt e
    step (Some m) e = if_had l c m.alive refusals.NodeIsAlive r tt e

leaving_had : (l : Limits) (c : Command) (s : State) (node : ℕ) (r : Refusal) → leaving_refusal s node ≡ Some r → HadMemory l c (replies.Refused r)
leaving_had l c s node r e = step (not_living s node) refl e
  where
    step : (q : Option Refusal) → not_living s node ≡ q
        → or_else q (refused_if (not (is_empty (numbers_of_node s.fixed node))) refusals.HasPorts) ≡ Some r → HadMemory l c (replies.Refused r)
    step (Some k) is e = living_had l c s node r (is ∙ e)
    step None is e = if_had l c (not (is_empty (numbers_of_node s.fixed node))) refusals.HasPorts r tt e

-- ---- commands that take no memory

-- the command takes none
abbrev pub TakesNone : Command → Type 0
TakesNone (commands.Leave node) = ⊤
TakesNone (commands.DeclareDead node) = ⊤
TakesNone (commands.Cleanup node) = ⊤
TakesNone commands.ListNodes = ⊤
TakesNone commands.ListClients = ⊤
TakesNone commands.ListServers = ⊤
TakesNone command = ⊥

is_told : (l : Limits) (c : Command) (reply told : Reply) → HadMemory l c told → reply ≡ told → HadMemory l c reply
is_told l c reply told had e = subst (λ a. HadMemory l c a) (sym e) had

own_had : (l : Limits) (s : State) (c : Command) (reply : Reply) (s' : State) → TakesNone c → IsCommand s c reply s' → HadMemory l c reply
own_had l s (commands.Leave node) reply s' none done =
    had_unless l (commands.Leave node) (leaving_refusal s node) s reply s' ((reply ≡ replies.Done) × (s' ≡ without_node s node))
    (leaving_had l (commands.Leave node) s node) (λ u. is_told l (commands.Leave node) reply replies.Done tt u.0) done
own_had l s (commands.DeclareDead node) reply s' none done =
    had_unless l (commands.DeclareDead node) (not_living s node) s reply s' ((reply ≡ replies.Done) × (s' ≡ with_death s node))
    (living_had l (commands.DeclareDead node) s node) (λ u. is_told l (commands.DeclareDead node) reply replies.Done tt u.0) done
own_had l s (commands.Cleanup node) reply s' none done =
    had_unless l (commands.Cleanup node) (not_dead s node) s reply s' (IsCleanup s node reply s')
    (dead_had l (commands.Cleanup node) s node) (λ u. is_told l (commands.Cleanup node) reply replies.Done tt u.2) done
own_had l s commands.ListNodes reply s' none done = is_told l commands.ListNodes reply _ tt done.0
own_had l s commands.ListClients reply s' none done = is_told l commands.ListClients reply _ tt done.0
own_had l s commands.ListServers reply s' none done = is_told l commands.ListServers reply _ tt done.0
own_had l s command reply s' none done = absurd none

pub own_with_memory :
    {Q P H C Z : Type 0} (q : Q → List ℕ) (p : P → List ℕ) (w : H → List ℕ) (s s' : State)
    (command plain : the_command.Command (Elements Q P) H (Option (the_refusal.Refusal C))) (reply : the_reply.Reply (Vec ℕ Z) C)
    → command ≡ plain → ((cause : C → Cause) → TakesNone (command_given q p w cause plain)) → IsAnswered q p w s command reply s'
    → IsAnsweredWithMemory q p w s command reply s'
own_with_memory q p w s s' command plain reply is none done cause = record {
  done = done cause;
  memory = own_had s.fixed.limits s (command_given q p w cause command) (reply_given cause reply) s'
      (subst (λ c. TakesNone (command_given q p w cause c)) (sym is) (none cause)) (done cause);
}

-- ---- joins

join_had : {C : Type 0} (Z : Type 0) (l : Limits) (id : UniqueSystemId) (asked : Option Refusal) (cause : C → Cause) (result : Result ℕ (the_refusal.Refusal C))
    → is_wanting result ≡ false → HadMemory l (commands.Join id asked) (reply_given {Z = Z} cause (reply_to replies.Node result))
join_had Z l id asked cause (Ok n) quiet = tt
join_had Z l id asked cause (Err refusals.WantOfMemory) quiet = absurd (true≢false quiet)
join_had Z l id asked cause (Err other) quiet = tt

pub join_with_memory :
    {Q P H C Z : Type 0} (q : Q → List ℕ) (p : P → List ℕ) (w : H → List ℕ) (s s' : State)
    (command : the_command.Command (Elements Q P) H (Option (the_refusal.Refusal C))) (id : UniqueSystemId) (asked : Option (the_refusal.Refusal C))
    (result : Result ℕ (the_refusal.Refusal C)) (reply : the_reply.Reply (Vec ℕ Z) C)
    → command ≡ commands.Join id asked → reply ≡ reply_to replies.Node result → IsJoin s id asked result s' → is_wanting result ≡ false
    → IsAnsweredWithMemory q p w s command reply s'
join_with_memory {Z = Z} q p w s s' command id asked result reply is told done quiet cause = record {
  done = join_answered q p w s s' command id asked result reply is told done cause;
  memory = subst (λ c. HadMemory s.fixed.limits (command_given q p w cause c) (reply_given cause reply)) (sym is)
      (subst (λ r. HadMemory s.fixed.limits (command_given q p w cause (commands.Join id asked)) (reply_given cause r)) (sym told)
      (join_had Z s.fixed.limits id (option_map (with_cause cause) asked) cause result quiet));
}

-- ---- ports and handles

size_had : (l : Limits) (c d : PortCommand) (reply : Reply) → (IsTooLarge l (asking c).1 → IsTooLarge l (asking d).1)
    → HadMemory l (commands.Port c) reply → HadMemory l (commands.Port d) reply
size_had l c d (replies.Refused refusals.WantOfMemory) size had = had
size_had l c d (replies.Refused refusals.UnableToCreateDataSegment) size had = size had
size_had l c d (replies.Refused other) size had = tt
size_had l c d reply size had = tt

-- the id of a node makes no port larger
owned_size : {Q P H : Type 0} (q : Q → List ℕ) (p : P → List ℕ) (w : H → List ℕ) (l : Limits) (own : UniqueSystemId)
    (command : the_port_command.PortCommand (Elements Q P) H)
    → IsTooLarge l (asking (command_for q p w (with_id own command))).1 → IsTooLarge l (asking (command_for q p w command)).1
owned_size q p w l own (ports.Client node id o) large = large
owned_size q p w l own (ports.Server node id o) large = large
owned_size q p w l own command large = large

pub port_with_memory :
    {Q P H C Z : Type 0} (q : Q → List ℕ) (p : P → List ℕ) (w : H → List ℕ) (x : Members) (h h' : HubState) (own : UniqueSystemId) (node : ℕ)
    (command given : the_port_command.PortCommand (Elements Q P) H) (answer : the_port_reply.PortReply (Vec ℕ Z) C) (reply : the_reply.Reply (Vec ℕ Z) C)
    → node ≡ asker command → node_in x node ≡ Some (new_node node own) → given ≡ with_id own command → IsApplied q p w h given answer h'
    → HadMemoryFor q p w h given answer → reply ≡ reply_of answer
    → IsAnsweredWithMemory q p w (state_of x h) (commands.Port command) reply (state_of x h')
port_with_memory q p w x h h' own node command given answer reply asks is with done had told cause = record {
  done = port_so q p w x h h' own node command given answer reply asks is with done told cause;
  memory = subst (λ r. HadMemory limits (commands.Port (command_for q p w command)) (reply_given cause r)) (sym told)
      (size_had limits (command_for q p w (with_id own command)) (command_for q p w command) (reply_given cause (reply_of answer))
      (owned_size q p w limits own command)
      (told_so cause answer (λ r. HadMemory limits (commands.Port (command_for q p w (with_id own command))) r)
      (subst (λ g. HadMemoryFor q p w h g answer) with had (given_for x))));
}
  where
    limits : Limits
    limits = (state_of x h).fixed.limits

pub may_not_with_memory :
    {Q P H C : Type 0} (Z X : Type 0) (q : Q → List ℕ) (p : P → List ℕ) (w : H → List ℕ) (x : Members) (h : HubState) (node : ℕ)
    (command : the_port_command.PortCommand (Elements Q P) H) (r : the_refusal.Refusal C)
    → node ≡ asker command → IsRefusedUnlessLiving {C = C} {X = X} x node (Err r)
    → IsAnsweredWithMemory {Z = Z} q p w (state_of x h) (commands.Port command) (replies.Refused r) (state_of x h)
may_not_with_memory Z X q p w x h node command r asks is cause = record {
  done = may_not Z X q p w x h node command r asks is cause;
  memory = living_had (state_of x h).fixed.limits (commands.Port (command_for q p w command)) (state_of x h) node (with_cause cause r)
      (is cause (state_of x h));
}
