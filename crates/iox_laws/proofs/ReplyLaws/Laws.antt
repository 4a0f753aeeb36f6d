-- What is asked from one state has one reply.
use Rattle.std.specs.Prelude.{◌≡◌, ℕ, Bool, true, false, not, ◌||◌, ◌^◌, nat_le, length, map, Option, Some, None, ◌⊎◌, refl}
use Rattle.std.specs.List.{list_any}
use Rattle.std.proofs.Common.{sym, ap, ◌∙◌, inl, inr}
use Rattle.iox_model.specs.UniqueSystemId.{UniqueSystemId}
use Rattle.iox_model.specs.Identifiers.{is_node_id}
use Rattle.iox_model.specs.declared.command.Command.TheVariants as commands
use Rattle.iox_model.specs.declared.command.Command.TheVariants.{Leave, DeclareDead, Cleanup, ListNodes, ListClients, ListServers}
use Rattle.iox_model.specs.declared.kind.Role.{Role}
use Rattle.iox_model.specs.declared.kind.Role.TheVariants.{Client, Server}
use Rattle.iox_model.specs.declared.reply.Refusal.TheVariants.{WantOfMemory, UnableToCreateDataSegment, UnableToCreatePortTag, MarkedForDestruction, InvalidNodeId, NodeIdInUse, ExceedsMaxNumberOfNodes}
use Rattle.iox_model.specs.declared.reply.Reply.TheVariants.{Done, Listed, Refused}
use Rattle.iox_model.specs.declared.reply.Reply.TheVariants as replies
use Rattle.iox_model.specs.Commands.{Refusal, Reply, Call, Options, HubCommand, Create, Use, Command, asking}
use Rattle.iox_model.specs.Joins.{not_living, not_dead, same_id, opening_refusal, IsOpening}
use Rattle.iox_model.specs.Makings.{is_large, most_ports, too_many_ports, making_refusal, port_reply, IsMaking, IsHubCommand}
use Rattle.iox_model.specs.Maps.{or_else, refused_if}
use Rattle.iox_model.specs.Names.{misnamed}
use Rattle.iox_model.specs.Peers.{ports_of_role}
use Rattle.iox_model.specs.Services.{leaving_refusal, with_own_id, IsCommand}
use Rattle.iox_model.specs.States.{Fixed, State}
use Rattle.iox_model.specs.WholeCalls.{UnlessRefused, spent, IsDone, IsWholeCall}
use Rattle.iox_laws.proofs.WeaveLedger.Truths.{never}
use Rattle.iox_laws.specs.ReplyLaws.Determined.{CallsHaveOneReply, MakingsHaveOneReply, JoinsHaveOneReply, takes_memory, OnlyWantIsToldInstead, tells_want, AreOne, HubCommandsHaveOneReply, CommandsHaveOneReply}
use Rattle.iox_laws.proofs.ReplyLaws.Hands.{NoneInHand, none_in_hand}
use Rattle.iox_laws.proofs.ReplyLaws.Choosing.{answer, IsTold, with_memory, done_like}

-- ---- calls

pub calls_have_one_reply : CallsHaveOneReply
calls_have_one_reply s t u node call a b left named one other e f =
    let none : NoneInHand s = none_in_hand s left in
    with_memory call (one.0).memory a (answer s node call) e (done_like s t node call a none named one)
    ∙ sym (with_memory call (other.0).memory b (answer s node call) f (done_like s u node call b none named other))

or_want : (call : Call) (memory : Bool) (a b c : Reply) → a ≡ c → IsTold call memory b c
    → (b ≡ a) ⊎ ((takes_memory call ≡ true) × (b ≡ Refused WantOfMemory))
or_want call memory a b c e (inl same) = inl (same ∙ sym e)
or_want call memory a b c e (inr want) = inr (want.0, want.2)

pub only_want_is_told_instead : OnlyWantIsToldInstead
only_want_is_told_instead s t u node call a b left named one other e =
    let none : NoneInHand s = none_in_hand s left in
    or_want call (other.0).memory a b (answer s node call)
    (with_memory call (one.0).memory a (answer s node call) e (done_like s t node call a none named one))
    (done_like s u node call b none named other)

-- ---- replies of commands

abbrev pub IsNear : Reply → Reply → Type 0
IsNear a b = (a ≡ b) ⊎ (tells_want a ≡ true)

pub near_one : (a b c : Reply) → IsNear a c → IsNear b c → AreOne a b
near_one a b c (inl e) (inl f) p q = e ∙ sym f
near_one a b c (inl e) (inr f) p q = never (tells_want b) f q
near_one a b c (inr e) f p q = never (tells_want a) e p

abbrev pub reply_or : Option Refusal → Reply → Reply
reply_or (Some r) a = Refused r
reply_or None a = a

near_unless : (q : Option Refusal) (s t : State) (a b : Reply) (P : Type 0) → (q ≡ None → P → IsNear a b) → UnlessRefused q s a t P
    → IsNear a (reply_or q b)
near_unless (Some r) s t a b P f u = inl u.0
near_unless None s t a b P f u = f refl u

pub exact_unless : (q : Option Refusal) (s t : State) (a b : Reply) (P : Type 0) → (q ≡ None → P → a ≡ b) → UnlessRefused q s a t P
    → a ≡ reply_or q b
exact_unless (Some r) s t a b P f u = u.0
exact_unless None s t a b P f u = f refl u

done_near : (call : Call) (memory : Bool) (a b : Reply) → IsTold call memory a b → IsNear a b
done_near call memory a b (inl e) = inl e
done_near call memory a b (inr want) = inr (ap tells_want want.2)

abbrev pub whole_answer : State → ℕ → Call → Reply
whole_answer s node call = reply_or (misnamed s.fixed node call) (reply_or (spent s.fixed call) (answer s node call))

pub whole_near : (s t : State) (node : ℕ) (call : Call) (a : Reply) → NoneInHand s → IsWholeCall s node call a t → IsNear a (whole_answer s node call)
whole_near s t node call a none =
    near_unless (misnamed s.fixed node call) s t a (reply_or (spent s.fixed call) (answer s node call)) _
    (λ named. near_unless (spent s.fixed call) s t a (answer s node call) (IsDone s node call a t)
    (λ u done. done_near call (done.0).memory a (answer s node call) (done_like s t node call a none named done)))

-- ---- makings and joins

making_is : (s t : State) (node : ℕ) (role : Role) (id : UniqueSystemId) (o : Options) (a : Reply) → (made : IsMaking s node role id o a t) → made.0 ≡ true
    → a ≡ reply_or (making_refusal s.fixed role o true) (port_reply role s.fixed.next_number)
making_is s t node role id o a made e =
    exact_unless (making_refusal s.fixed role o made.0) s t a (port_reply role s.fixed.next_number) _ (λ u p. p.0) made.1
    ∙ ap (λ m. reply_or (making_refusal s.fixed role o m) (port_reply role s.fixed.next_number)) e

pub makings_have_one_reply : MakingsHaveOneReply
makings_have_one_reply s t u node role id o a b one other e f =
    making_is s t node role id o a one e ∙ sym (making_is s u node role id o b other f)

join_is : (s t : State) (id : UniqueSystemId) (asked : Option Refusal) (a : Reply) → (opened : IsOpening s id asked a t) → opened.0 ≡ true
    → a ≡ reply_or (opening_refusal s id asked true) (replies.Node s.members.joins)
join_is s t id asked a opened e =
    exact_unless (opening_refusal s id asked opened.0) s t a (replies.Node s.members.joins) _ (λ u p. p.0) opened.1
    ∙ ap (λ m. reply_or (opening_refusal s id asked m) (replies.Node s.members.joins)) e

pub joins_have_one_reply : JoinsHaveOneReply
joins_have_one_reply s t u id asked a b one other e f = join_is s t id asked a one e ∙ sym (join_is s u id asked b other f)

-- ---- refusals that tell of want of memory

abbrev IsOrWants : Refusal → Option Refusal → Option Refusal → Type 0
IsOrWants w q r = (q ≡ r) ⊎ (q ≡ Some w)

or_else_wants : (w : Refusal) (x q r : Option Refusal) → IsOrWants w q r → IsOrWants w (or_else x q) (or_else x r)
or_else_wants w (Some y) q r p = inl refl
or_else_wants w None q r p = p

near_wants : (w : Refusal) (q r : Option Refusal) (a b : Reply) → tells_want (Refused w) ≡ true → IsOrWants w q r → IsNear a (reply_or q b)
    → IsNear a (reply_or r b)
near_wants w q r a b e (inl same) (inl is) = inl (is ∙ ap (λ x. reply_or x b) same)
near_wants w q r a b e (inr wants) (inl is) = inr (ap tells_want (is ∙ ap (λ x. reply_or x b) wants) ∙ e)
near_wants w q r a b e p (inr told) = inr told

large_wants : (large memory : Bool) (r : Option Refusal)
    → IsOrWants UnableToCreateDataSegment (or_else (refused_if (large || not memory) UnableToCreateDataSegment) r)
    (or_else (refused_if (large || not true) UnableToCreateDataSegment) r)
large_wants true memory r = inl refl
large_wants false true r = inl refl
large_wants false false r = inr refl

making_wants : (f : Fixed) (role : Role) (o : Options) (memory : Bool)
    → IsOrWants UnableToCreateDataSegment (making_refusal f role o memory) (making_refusal f role o true)
making_wants f role o memory =
    or_else_wants UnableToCreateDataSegment (refused_if (nat_le (2 ^ 32) f.ports_made) UnableToCreatePortTag) _ _
    (large_wants (is_large f.limits role o) memory
    (refused_if (nat_le (most_ports f.limits role) (length (ports_of_role f role))) (too_many_ports role)))

last_wants : (memory : Bool) → IsOrWants WantOfMemory (refused_if (not memory) WantOfMemory) (refused_if (not true) WantOfMemory)
last_wants true = inl refl
last_wants false = inr refl

opening_wants : (s : State) (id : UniqueSystemId) (asked : Option Refusal) (memory : Bool)
    → IsOrWants WantOfMemory (opening_refusal s id asked memory) (opening_refusal s id asked true)
opening_wants s id asked memory =
    or_else_wants WantOfMemory (refused_if s.members.closed MarkedForDestruction) _ _
    (or_else_wants WantOfMemory (refused_if (not (is_node_id id)) InvalidNodeId) _ _
    (or_else_wants WantOfMemory (refused_if (list_any (λ m. same_id m.id id) s.members.nodes) NodeIdInUse) _ _
    (or_else_wants WantOfMemory asked _ _
    (or_else_wants WantOfMemory (refused_if (nat_le s.fixed.limits.nodes (length s.members.nodes)) ExceedsMaxNumberOfNodes) _ _
    (last_wants memory)))))

-- ---- commands

abbrev hub_answer : State → ℕ → HubCommand → Reply
hub_answer s node (Create role id o) = reply_or (making_refusal s.fixed role o true) (port_reply role s.fixed.next_number)
hub_answer s node (Use call) = whole_answer s node call

hub_near : (s t : State) (node : ℕ) (c : HubCommand) (a : Reply) → NoneInHand s → IsHubCommand s node c a t → IsNear a (hub_answer s node c)
hub_near s t node (Create role id o) a none made =
    near_wants UnableToCreateDataSegment (making_refusal s.fixed role o made.0) (making_refusal s.fixed role o true) a
    (port_reply role s.fixed.next_number) refl (making_wants s.fixed role o made.0)
    (near_unless (making_refusal s.fixed role o made.0) s t a (port_reply role s.fixed.next_number) _ (λ u p. inl p.0) made.1)
hub_near s t node (Use call) a none call_is = whole_near s t node call a none call_is

abbrev command_answer : State → Command → Reply
command_answer s (commands.Join id asked) = reply_or (opening_refusal s id asked true) (replies.Node s.members.joins)
command_answer s (commands.Port c) = reply_or (not_living s (asking c).0) (hub_answer s (asking c).0 (with_own_id s (asking c).0 (asking c).1))
command_answer s (Leave node) = reply_or (leaving_refusal s node) Done
command_answer s (DeclareDead node) = reply_or (not_living s node) Done
command_answer s (Cleanup node) = reply_or (not_dead s node) Done
command_answer s ListNodes = Listed (map (λ m. m.number) s.members.nodes)
command_answer s ListClients = Listed (ports_of_role s.fixed Client)
command_answer s ListServers = Listed (ports_of_role s.fixed Server)

command_near : (s t : State) (c : Command) (a : Reply) → NoneInHand s → IsCommand s c a t → IsNear a (command_answer s c)
command_near s t (commands.Join id asked) a none c =
    near_wants WantOfMemory (opening_refusal s id asked c.0) (opening_refusal s id asked true) a (replies.Node s.members.joins) refl
    (opening_wants s id asked c.0) (near_unless (opening_refusal s id asked c.0) s t a (replies.Node s.members.joins) _ (λ u p. inl p.0) c.1)
command_near s t (commands.Port x) a none c =
    let node : ℕ = (asking x).0 in
    let own : HubCommand = with_own_id s node (asking x).1 in
    near_unless (not_living s node) s t a (hub_answer s node own) (IsHubCommand s node own a t) (λ u. hub_near s t node own a none) c
command_near s t (Leave node) a none c = near_unless (leaving_refusal s node) s t a Done _ (λ u p. inl p.0) c
command_near s t (DeclareDead node) a none c = near_unless (not_living s node) s t a Done _ (λ u p. inl p.0) c
command_near s t (Cleanup node) a none c = near_unless (not_dead s node) s t a Done _ (λ u p. inl p.2) c
command_near s t ListNodes a none c = inl c.0
command_near s t ListClients a none c = inl c.0
command_near s t ListServers a none c = inl c.0

pub hub_commands_have_one_reply : HubCommandsHaveOneReply
hub_commands_have_one_reply s t u node c a b left one other =
    near_one a b (hub_answer s node c) (hub_near s t node c a (none_in_hand s left) one) (hub_near s u node c b (none_in_hand s left) other)

pub commands_have_one_reply : CommandsHaveOneReply
commands_have_one_reply s t u c a b left one other =
    near_one a b (command_answer s c) (command_near s t c a (none_in_hand s left) one) (command_near s u c b (none_in_hand s left) other)
