-- What a hub answers is what its service answers, and who asks is a node of the service.
use Rattle.std.specs.Prelude.{◌≡◌, ℕ, not, List, Option, Some, Err, refl}
use Rattle.std.specs.Option.{option_map_or}
use Rattle.std.specs.declared.vec.Vec.{Vec}
use Rattle.std.proofs.Common.{subst, sym}
use Rattle.iox_types.specs.declared.identifiers.system_id.UniqueSystemId.{UniqueSystemId}
use Rattle.iox_model.specs.declared.call.Call.TheVariants as calls
use Rattle.iox_model.specs.declared.command.Command.TheVariants.{Port}
use Rattle.iox_model.specs.declared.command.PortCommand as the_port_command
use Rattle.iox_model.specs.declared.command.PortCommand.TheVariants as ports
use Rattle.iox_model.specs.declared.kind.Role.TheVariants as roles
use Rattle.iox_model.specs.declared.reply.PortReply as the_port_reply
use Rattle.iox_model.specs.declared.reply.PortReply.TheVariants as port_replies
use Rattle.iox_model.specs.declared.reply.Refusal as the_refusal
use Rattle.iox_model.specs.declared.reply.Refusal.TheVariants as refusals
use Rattle.iox_model.specs.declared.reply.Reply as the_reply
use Rattle.iox_model.specs.declared.reply.Reply.TheVariants as replies
use Rattle.iox_model.specs.Commands.{Cause, Create, HubCommand, Reply, Use, asking}
use Rattle.iox_model.specs.Joins.{new_node, node_at}
use Rattle.iox_model.specs.Makings.{IsHubCommand}
use Rattle.iox_model.specs.Maps.{refused_if}
use Rattle.iox_model.specs.Services.{IsNodeCommand}
use Rattle.iox_model.specs.States.{Members, Node, State}
use Rattle.iox_model.specs.WholeCalls.{UnlessRefused}
use Rattle.iox_port_commands.specs.Hubs.{HubState}
use Rattle.iox_members.specs.Nodes.{RegisteredMembers, node_in}
use Rattle.iox_members.specs.Steps.{IsRefusedUnlessLiving}
use Rattle.iox_openers.specs.Causes.{with_cause}
use Rattle.iox_port_commands.specs.Applying.{HaveDefaults, IsApplied, IsReplied}
use Rattle.iox_port_commands.specs.Asking.{command_for, options_for, payload_for}
use Rattle.iox_port_commands.specs.Telling.{IsToldAnd}
use Rattle.iox_port_commands.specs.declared.elements.Elements.{Elements}
use Rattle.iox_nodes.specs.Given.{asker, reply_given, reply_of, with_id}
use Rattle.iox_nodes.specs.Served.{IsPortAnswered}
use Rattle.iox_nodes.specs.Shown.{IsServiceWithRoom, given_for, state_of}
use Rattle.iox_nodes.proofs.Leading.{any_cause, kept_with_room}

-- ---- replies

refusal_so : {C : Type 0} (Z : Type 0) (cause : C → Cause) (r : the_refusal.Refusal C) (P : Reply → Type 0)
    → IsToldAnd {Z = Z} (port_replies.Refused r) P → P (replies.Refused (with_cause cause r))
refusal_so Z cause refusals.UnknownNumber P p = p
refusal_so Z cause refusals.ForeignNumber P p = p
refusal_so Z cause refusals.WrongKind P p = p
refusal_so Z cause refusals.CallsSpent P p = p
refusal_so Z cause refusals.WrongLength P p = p
refusal_so Z cause refusals.ExceedsMaxLoanSize P p = p
refusal_so Z cause refusals.ExceedsMaxLoans P p = p
refusal_so Z cause refusals.OutOfMemory P p = p
refusal_so Z cause refusals.WantOfMemory P p = p
refusal_so Z cause refusals.ExceedsMaxActiveRequests P p = p
refusal_so Z cause refusals.UnableToDeliver P p = p
refusal_so Z cause refusals.ExceedsMaxBorrows P p = p
refusal_so Z cause refusals.UnableToCreatePortTag P p = p
refusal_so Z cause refusals.UnableToCreateDataSegment P p = p
refusal_so Z cause refusals.ExceedsMaxSupportedClients P p = p
refusal_so Z cause refusals.ExceedsMaxSupportedServers P p = p
refusal_so Z cause (refusals.IncompatibleAttributes c) P p = absurd p
refusal_so Z cause refusals.UnknownNode P p = absurd p
refusal_so Z cause refusals.NodeIsDead P p = absurd p
refusal_so Z cause refusals.NodeIsAlive P p = absurd p
refusal_so Z cause refusals.MarkedForDestruction P p = absurd p
refusal_so Z cause refusals.InvalidNodeId P p = absurd p
refusal_so Z cause refusals.NodeIdInUse P p = absurd p
refusal_so Z cause refusals.IncompatibleRequestTypes P p = absurd p
refusal_so Z cause refusals.IncompatibleResponseTypes P p = absurd p
refusal_so Z cause refusals.LimitTooLarge P p = absurd p
refusal_so Z cause refusals.ExceedsMaxNumberOfNodes P p = absurd p
refusal_so Z cause refusals.HasPorts P p = absurd p
refusal_so Z cause refusals.MessagesUnderWay P p = absurd p
refusal_so Z cause refusals.GrowingStrategy P p = absurd p
refusal_so Z cause refusals.HandlerSet P p = absurd p
refusal_so Z cause refusals.UnsuitableAlignment P p = absurd p
refusal_so Z cause refusals.TooManyWords P p = absurd p
refusal_so Z cause refusals.Busy P p = absurd p
refusal_so Z cause refusals.AtRest P p = absurd p
refusal_so Z cause refusals.AccessesSpent P p = absurd p
refusal_so Z cause refusals.NotOnThreads P p = absurd p

pub told_so : {C Z : Type 0} (cause : C → Cause) (reply : the_port_reply.PortReply (Vec ℕ Z) C) (P : Reply → Type 0)
    → IsToldAnd reply P → P (reply_given cause (reply_of reply))
told_so cause (port_replies.Client n) P p = p
told_so cause (port_replies.Server n) P p = p
told_so cause (port_replies.Handle n) P p = p
told_so cause (port_replies.Sent count) P p = p
told_so cause port_replies.Done P p = p
told_so cause port_replies.Nothing P p = p
told_so cause (port_replies.Words words) P p = p
told_so cause (port_replies.Answer told) P p = p
told_so {Z = Z} cause (port_replies.Refused r) P p = refusal_so Z cause r P p

-- ---- who asks

-- the command with the id of its node
abbrev owned : UniqueSystemId → HubCommand → HubCommand
owned own (Create role id o) = Create role own o
owned own (Use call) = Use call

pub known : (s s' : State) (node : ℕ) (own : UniqueSystemId) (c : HubCommand) (reply : Reply) → node_at s node ≡ Some (new_node node own)
    → IsHubCommand s node (owned own c) reply s' → IsNodeCommand s node c reply s'
known s s' node own (Create role id o) reply is making =
    subst
    (λ (m : Option Node). UnlessRefused (option_map_or (λ k. refused_if (not k.alive) refusals.NodeIsDead) m (Some refusals.UnknownNode)) s reply s'
    (IsHubCommand s node (Create role (option_map_or (λ k. k.id) m id) o) reply s'))
    (sym is) making
known s s' node own (Use call) reply is whole =
    subst
    (λ (m : Option Node). UnlessRefused (option_map_or (λ k. refused_if (not k.alive) refusals.NodeIsDead) m (Some refusals.UnknownNode)) s reply s'
    (IsHubCommand s node (Use call) reply s'))
    (sym is) whole

replied : {C Z : Type 0} (x : Members) (h h' : HubState) (node : ℕ) (own : UniqueSystemId) (c : HubCommand) (reply : the_port_reply.PortReply (Vec ℕ Z) C) (cause : C → Cause)
    → node_in x node ≡ Some (new_node node own) → IsReplied h node (owned own c) reply h'
    → IsNodeCommand (state_of x h) node c (reply_given cause (reply_of reply)) (state_of x h')
replied x h h' node own c reply cause is done =
    known (state_of x h) (state_of x h') node own c (reply_given cause (reply_of reply)) is
    (told_so cause reply (λ r. IsHubCommand (state_of x h) node (owned own c) r (state_of x h')) (done (given_for x)))

pub asked_and_answered :
    {Q P H C Z : Type 0} (q : Q → List ℕ) (p : P → List ℕ) (w : H → List ℕ) (x : Members) (h h' : HubState) (own : UniqueSystemId)
    (command : the_port_command.PortCommand (Elements Q P) H) (reply : the_port_reply.PortReply (Vec ℕ Z) C)
    → node_in x (asker command) ≡ Some (new_node (asker command) own) → IsApplied q p w h (with_id own command) reply h'
    → IsPortAnswered q p w (state_of x h) command (reply_of reply) (state_of x h')
asked_and_answered q p w x h h' own (ports.Client node id o) reply is done cause =
    replied x h h' node own (Create roles.Client id (options_for w o)) reply cause is done
asked_and_answered q p w x h h' own (ports.Server node id o) reply is done cause =
    replied x h h' node own (Create roles.Server id (options_for w o)) reply cause is done
asked_and_answered q p w x h h' own (ports.Loan node n k) reply is done cause =
    replied x h h' node own (Use (calls.Loan n k)) reply cause is done
asked_and_answered q p w x h h' own (ports.Write node n e) reply is done cause =
    replied x h h' node own (Use (calls.Write n (payload_for q p e))) reply cause is done
asked_and_answered q p w x h h' own (ports.Send node n) reply is done cause =
    replied x h h' node own (Use (calls.Send n)) reply cause is done
asked_and_answered q p w x h h' own (ports.SendCopy node n e) reply is done cause =
    replied x h h' node own (Use (calls.SendCopy n (payload_for q p e))) reply cause is done
asked_and_answered q p w x h h' own (ports.Receive node n) reply is done cause =
    replied x h h' node own (Use (calls.Receive n)) reply cause is done
asked_and_answered q p w x h h' own (ports.Read node n) reply is done cause =
    replied x h h' node own (Use (calls.Read n)) reply cause is done
asked_and_answered q p w x h h' own (ports.Release node n) reply is done cause =
    replied x h h' node own (Use (calls.Release n)) reply cause is done
asked_and_answered q p w x h h' own (ports.IsConnected node n) reply is done cause =
    replied x h h' node own (Use (calls.IsConnected n)) reply cause is done
asked_and_answered q p w x h h' own (ports.SetHint node n) reply is done cause =
    replied x h h' node own (Use (calls.SetHint n)) reply cause is done
asked_and_answered q p w x h h' own (ports.HasHint node n) reply is done cause =
    replied x h h' node own (Use (calls.HasHint n)) reply cause is done
asked_and_answered q p w x h h' own (ports.HasRequests node n) reply is done cause =
    replied x h h' node own (Use (calls.HasRequests n)) reply cause is done
asked_and_answered q p w x h h' own (ports.HasResponse node n) reply is done cause =
    replied x h h' node own (Use (calls.HasResponse n)) reply cause is done

-- ---- who may not ask

asks : {Q P H : Type 0} (q : Q → List ℕ) (p : P → List ℕ) (w : H → List ℕ) (command : the_port_command.PortCommand (Elements Q P) H)
    → (asking (command_for q p w command)).0 ≡ asker command
asks q p w (ports.Client node id o) = refl
asks q p w (ports.Server node id o) = refl
asks q p w (ports.Loan node n k) = refl
asks q p w (ports.Write node n e) = refl
asks q p w (ports.Send node n) = refl
asks q p w (ports.SendCopy node n e) = refl
asks q p w (ports.Receive node n) = refl
asks q p w (ports.Read node n) = refl
asks q p w (ports.Release node n) = refl
asks q p w (ports.IsConnected node n) = refl
asks q p w (ports.SetHint node n) = refl
asks q p w (ports.HasHint node n) = refl
asks q p w (ports.HasRequests node n) = refl
asks q p w (ports.HasResponse node n) = refl

pub may_not_ask :
    {Q P H C : Type 0} (Z X : Type 0) (q : Q → List ℕ) (p : P → List ℕ) (w : H → List ℕ) (x : Members) (h : HubState)
    (command : the_port_command.PortCommand (Elements Q P) H) (r : the_refusal.Refusal C)
    → IsRefusedUnlessLiving {C = C} {X = X} x (asker command) (Err r)
    → IsPortAnswered {Z = Z} q p w (state_of x h) command (replies.Refused r) (state_of x h)
may_not_ask Z X q p w x h command r is cause =
    subst (λ n. IsNodeCommand (state_of x h) n (asking (command_for q p w command)).1 (replies.Refused (with_cause cause r)) (state_of x h))
    (sym (asks q p w command)) (rw (is cause (state_of x h)) (refl, refl))

-- ---- the same of what the code found

pub port_so :
    {Q P H C Z : Type 0} (q : Q → List ℕ) (p : P → List ℕ) (w : H → List ℕ) (x : Members) (h h' : HubState) (own : UniqueSystemId) (node : ℕ)
    (command given : the_port_command.PortCommand (Elements Q P) H) (answer : the_port_reply.PortReply (Vec ℕ Z) C) (reply : the_reply.Reply (Vec ℕ Z) C)
    → node ≡ asker command → node_in x node ≡ Some (new_node node own) → given ≡ with_id own command → IsApplied q p w h given answer h'
    → reply ≡ reply_of answer → IsPortAnswered q p w (state_of x h) command reply (state_of x h')
port_so q p w x h h' own node command given answer reply asks is with done told =
    subst (λ r. IsPortAnswered q p w (state_of x h) command r (state_of x h')) (sym told)
    (asked_and_answered q p w x h h' own command answer (subst (λ n. node_in x n ≡ Some (new_node n own)) asks is)
    (subst (λ c. IsApplied q p w h c answer h') with done))

pub may_not :
    {Q P H C : Type 0} (Z X : Type 0) (q : Q → List ℕ) (p : P → List ℕ) (w : H → List ℕ) (x : Members) (h : HubState) (node : ℕ)
    (command : the_port_command.PortCommand (Elements Q P) H) (r : the_refusal.Refusal C)
    → node ≡ asker command → IsRefusedUnlessLiving {C = C} {X = X} x node (Err r)
    → IsPortAnswered {Z = Z} q p w (state_of x h) command (replies.Refused r) (state_of x h)
may_not {C = C} Z X q p w x h node command r asks is =
    may_not_ask Z X q p w x h command r (subst (λ n. IsRefusedUnlessLiving {C = C} {X = X} x n (Err r)) asks is)

pub port_service :
    {Q P H C Z : Type 0} (q : Q → List ℕ) (p : P → List ℕ) (w : H → List ℕ) (x : RegisteredMembers) (h h' : HubState)
    (command : the_port_command.PortCommand (Elements Q P) H) (reply : the_reply.Reply (Vec ℕ Z) C)
    → IsServiceWithRoom x h → IsPortAnswered q p w (state_of x.members h) command reply (state_of x.members h') → HaveDefaults h'
    → IsServiceWithRoom x h'
port_service q p w x h h' command reply kept done defaults =
    kept_with_room x x h h' (Port (command_for q p w command)) (reply_given any_cause reply) kept (done any_cause) (refl, refl) defaults
