-- Which commands may find no memory, and how the machine refuses them then.
use Rattle.std.specs.Prelude.{◌≡◌, ℕ, ◌||◌, true, List, Option, Some, None, Result, Ok, Err, IfOk, OnErr, refl}
use Rattle.std.specs.Option.{option_map}
use Rattle.std.specs.declared.vec.Vec.{Vec}
use Rattle.std.proofs.Common.{ap, subst, sym, true≢false, ◌∙◌}
use Rattle.std.proofs.lemmas.Option.{none-some, same_Some}
use Rattle.iox_types.specs.declared.identifiers.system_id.UniqueSystemId.{UniqueSystemId}
use Rattle.iox_model.specs.declared.command.Command as the_command
use Rattle.iox_model.specs.declared.command.Command.TheVariants as commands
use Rattle.iox_model.specs.declared.command.PortCommand as the_port_command
use Rattle.iox_model.specs.declared.command.PortCommand.TheVariants as ports
use Rattle.iox_model.specs.declared.call.Call.TheVariants as calls
use Rattle.iox_model.specs.declared.kind.Role.TheVariants as roles
use Rattle.iox_model.specs.declared.reply.PortReply as the_port_reply
use Rattle.iox_model.specs.declared.reply.Refusal as the_refusal
use Rattle.iox_model.specs.declared.reply.Refusal.TheVariants.{UnableToCreateDataSegment, WantOfMemory}
use Rattle.iox_model.specs.declared.reply.Reply.TheVariants.{Node, Refused}
use Rattle.iox_model.specs.Commands.{Create, Refusal, Reply, Use}
use Rattle.iox_model.specs.Joins.{joined, new_node, opening_refusal, with_members}
use Rattle.iox_model.specs.Runs.{IsServed}
use Rattle.iox_model.specs.Services.{IsCommand}
use Rattle.iox_model.specs.States.{Members, State}
use Rattle.iox_model.specs.WholeCalls.{UnlessRefused}
use Rattle.iox_tables.specs.HubStates.Tables.{HubTables}
use Rattle.iox_port_commands.specs.Hubs.{HubState}
use Rattle.iox_port_commands.specs.Making.{StaysAs}
use Rattle.iox_members.specs.Nodes.{RegisteredMembers, node_in, room_in}
use Rattle.iox_members.specs.Steps.{IsJoined}
use Rattle.iox_openers.specs.Causes.{with_cause}
use Rattle.iox_port_commands.specs.Applying.{GrowsIfLentFor, HaveDefaults, IsApplied, LacksMemoryFor}
use Rattle.iox_port_commands.specs.Asking.{is_making, options_for, payload_for, takes_memory}
use Rattle.iox_port_commands.specs.declared.elements.Elements.{Elements}
use Rattle.iox_nodes.specs.Given.{asker, is_listing, reply_of, with_id}
use Rattle.iox_nodes.specs.Memory.{MayFindNoMemory, is_wanting, refusal_for_want, want_of}
use Rattle.iox_nodes.specs.Served.{IsAnswered, IsJoin, IsPortAnswered}
use Rattle.iox_nodes.specs.Shown.{IsServiceWithRoom, given_for, state_of, tables_of}
use Rattle.iox_nodes.proofs.Answering.{known, port_service, port_so}
use Rattle.iox_nodes.proofs.Leading.{any_cause, joined_so}

-- ---- what stays

-- where a hub stays as it is, so does all that its service keeps
pub stays_so : (x : RegisteredMembers) (old new : HubState) → StaysAs old new → tables_of x new ≡ tables_of x old
stays_so x old new stays =
    ap (tables_of x) stays.others
    ∙ ap (λ t. record { members = x.members; registry = x.registry; tables = t; words = old.words; request = old.request; response = old.response; handlers = old.handlers }) stays.tables

-- and so does the state
stays_shown : (x : Members) (old new : HubState) → StaysAs old new → state_of x new ≡ state_of x old
stays_shown x old new stays =
    ap (state_of x) stays.others
    ∙ ap (λ t. state_of x (record old { control = record (old.control) { tables = t } })) stays.tables

-- a service whose hub was asked is one again, whether it found memory or not
pub tried_service :
    {Q P H C Z E : Type 0} (q : Q → List ℕ) (p : P → List ℕ) (w : H → List ℕ) (x : RegisteredMembers) (h h' : HubState) (own : UniqueSystemId) (node : ℕ)
    (command given : the_port_command.PortCommand (Elements Q P) H) (r : Result (the_port_reply.PortReply (Vec ℕ Z) C) E)
    → node ≡ asker command → node_in x.members node ≡ Some (new_node node own) → given ≡ with_id own command
    → IfOk r (λ answer. IsApplied q p w h given answer h') → OnErr r (StaysAs h h') → HaveDefaults h' → IsServiceWithRoom x h → IsServiceWithRoom x h'
tried_service q p w x h h' own node command given (Ok answer) asks is with done stays defaults kept =
    port_service q p w x h h' command (reply_of answer) kept
    (port_so q p w x.members h h' own node command given answer (reply_of answer) asks is with done refl) defaults
tried_service q p w x h h' own node command given (Err e) asks is with done stays defaults kept = record {
  service = record { served = subst IsServed (sym (stays_shown x.members h h' stays)) kept.service.served; defaults = defaults };
  room = kept.room ∙ sym (ap (λ (t : HubTables). t.settings.nodes) stays.tables);
}

-- ---- joins

pub wanting_is : {X C : Type 0} (r : Result X (the_refusal.Refusal C)) → is_wanting r ≡ true → r ≡ Err WantOfMemory
wanting_is (Ok x) e = absurd (true≢false (sym e))
wanting_is (Err WantOfMemory) e = refl
wanting_is (Err r) e = absurd (true≢false (sym e))

refused_stays : (q : Option Refusal) (s s' : State) (k : Refusal) (n : ℕ) (X : Type 0)
    → UnlessRefused q s (Refused k) s' ((◌≡◌ {A = Reply} (Refused k) (Node n)) × X) → s' ≡ s
refused_stays (Some r) s s' k n X u = u.1
refused_stays None s s' k n X u = let e : ◌≡◌ {A = Reply} (Refused k) (Node n) = u.0 in absurd (cc)

-- a refused join changes no node
pub join_keeps : {C : Type 0} (x x' : Members) (h : HubState) (id : UniqueSystemId) (asked : Option (the_refusal.Refusal C)) (r : the_refusal.Refusal C)
    → IsJoin (state_of x h) id asked (Err r) (state_of x' h) → x' ≡ x
join_keeps x x' h id asked r done =
    ap (λ (t : State). t.members)
    (refused_stays (opening_refusal (state_of x h) id (option_map (with_cause any_cause) asked) (done any_cause).0) (state_of x h) (state_of x' h)
    (with_cause any_cause r) x.joins (state_of x' h ≡ with_members (state_of x h) (joined x id)) (done any_cause).1)

pub if_err : {A E P Q : Type 0} (r : Result A E) → (P → Q) → OnErr r P → OnErr r Q
if_err (Ok x) f p = tt
if_err (Err e) f p = f p

-- a join for which memory was wanted may be refused for that
pub join_lacks : {C : Type 0} (x x' : RegisteredMembers) (h : HubState) (id : UniqueSystemId) (asked : Option (the_refusal.Refusal C))
    (result : Result ℕ (the_refusal.Refusal C)) → IsJoined x.members id asked (room_in x) result x'.members
    → room_in x ≡ h.control.tables.settings.nodes → is_wanting result ≡ true
    → IsJoin (state_of x.members h) id asked (Err WantOfMemory) (state_of x.members h)
join_lacks x x' h id asked result joins room wants =
    let done : IsJoin (state_of x.members h) id asked (Err WantOfMemory) (state_of x'.members h) =
    subst (λ r. IsJoin (state_of x.members h) id asked r (state_of x'.members h)) (wanting_is result wants) (joined_so x x' h id asked result joins room) in
    subst (λ m. IsJoin (state_of x.members h) id asked (Err WantOfMemory) (state_of m h)) (join_keeps x.members x'.members h id asked WantOfMemory done) done

-- what stays where memory was wanted
pub wanting_stays : {X C : Type 0} (P : Type 0) (r : Result X (the_refusal.Refusal C)) → is_wanting r ≡ true → OnErr r P → P
wanting_stays P r wants stays = subst (λ q. OnErr q P) (wanting_is r wants) stays

-- ---- ports and handles

lacks_owned :
    {Q P H C : Type 0} (q : Q → List ℕ) (p : P → List ℕ) (w : H → List ℕ) (x : Members) (h h' : HubState) (own : UniqueSystemId)
    (command : the_port_command.PortCommand (Elements Q P) H)
    → node_in x (asker command) ≡ Some (new_node (asker command) own) → LacksMemoryFor q p w h (with_id own command) h'
    → (is_making (with_id own command) || takes_memory (with_id own command)) ≡ true → GrowsIfLentFor q p w h (with_id own command) → state_of x h' ≡ state_of x h
    → MayFindNoMemory {C = C} q p w (state_of x h) (commands.Port command)
lacks_owned q p w x h h' own (ports.Client node id o) is lacks takes grows same =
    λ cause. subst (λ t. IsCommand (state_of x h) (commands.Port (ports.Client node id (options_for w o))) (Refused UnableToCreateDataSegment) t) same
    (known (state_of x h) (state_of x h') node own (Create roles.Client id (options_for w o)) (Refused UnableToCreateDataSegment) is (lacks (given_for x)))
lacks_owned q p w x h h' own (ports.Server node id o) is lacks takes grows same =
    λ cause. subst (λ t. IsCommand (state_of x h) (commands.Port (ports.Server node id (options_for w o))) (Refused UnableToCreateDataSegment) t) same
    (known (state_of x h) (state_of x h') node own (Create roles.Server id (options_for w o)) (Refused UnableToCreateDataSegment) is (lacks (given_for x)))
lacks_owned q p w x h h' own (ports.Read node n) is lacks takes grows same =
    λ cause. subst (λ t. IsCommand (state_of x h) (commands.Port (ports.Read node n)) (Refused WantOfMemory) t) same
    (known (state_of x h) (state_of x h') node own (Use (calls.Read n)) (Refused WantOfMemory) is (lacks (given_for x)))
lacks_owned q p w x h h' own (ports.Loan node n k) is lacks takes grows same =
    λ cause. (
      subst (λ t. IsCommand (state_of x h) (commands.Port (ports.Loan node n k)) (Refused WantOfMemory) t) same
          (known (state_of x h) (state_of x h') node own (Use (calls.Loan n k)) (Refused WantOfMemory) is (lacks (given_for x))),
      grows (given_for x),
    )
lacks_owned q p w x h h' own (ports.SendCopy node n e) is lacks takes grows same =
    λ cause. (
      subst (λ t. IsCommand (state_of x h) (commands.Port (ports.SendCopy node n (payload_for q p e))) (Refused WantOfMemory) t) same
          (known (state_of x h) (state_of x h') node own (Use (calls.SendCopy n (payload_for q p e))) (Refused WantOfMemory) is (lacks (given_for x))),
      grows (given_for x),
    )
lacks_owned q p w x h h' own command is lacks takes grows same = absurd (true≢false (sym takes))

pub port_lacks :
    {Q P H C : Type 0} (q : Q → List ℕ) (p : P → List ℕ) (w : H → List ℕ) (x : Members) (h h' : HubState) (own : UniqueSystemId) (node : ℕ)
    (command given : the_port_command.PortCommand (Elements Q P) H)
    → node ≡ asker command → node_in x node ≡ Some (new_node node own) → given ≡ with_id own command → LacksMemoryFor q p w h given h'
    → (is_making given || takes_memory given) ≡ true → GrowsIfLentFor q p w h given → StaysAs h h' → MayFindNoMemory {C = C} q p w (state_of x h) (commands.Port command)
port_lacks q p w x h h' own node command given asks is with lacks takes grows stays =
    lacks_owned q p w x h h' own command (subst (λ n. node_in x n ≡ Some (new_node n own)) asks is)
    (subst (λ g. LacksMemoryFor q p w h g h') with lacks) (subst (λ g. (is_making g || takes_memory g) ≡ true) with takes)
    (subst (λ g. GrowsIfLentFor q p w h g) with grows)
    (stays_shown x h h' stays)

-- ---- the refusal for want of memory

pub port_refused_for_want :
    {Q P H C : Type 0} (Z : Type 0) (q : Q → List ℕ) (p : P → List ℕ) (w : H → List ℕ) (s : State) (command : the_port_command.PortCommand (Elements Q P) H)
    → MayFindNoMemory {C = C} q p w s (commands.Port command) → IsPortAnswered {C = C} {Z = Z} q p w s command (Refused (want_of (is_making command))) s
port_refused_for_want Z q p w s (ports.Client node id o) lacks = lacks
port_refused_for_want Z q p w s (ports.Server node id o) lacks = lacks
port_refused_for_want Z q p w s (ports.Read node n) lacks = lacks
port_refused_for_want Z q p w s (ports.Loan node n k) lacks = λ cause. (lacks cause).0
port_refused_for_want Z q p w s (ports.SendCopy node n e) lacks = λ cause. (lacks cause).0
port_refused_for_want Z q p w s command lacks = λ cause. absurd (lacks cause)

pub refused_for_want :
    {Q P H C : Type 0} (Z : Type 0) (q : Q → List ℕ) (p : P → List ℕ) (w : H → List ℕ) (s : State)
    (command : the_command.Command (Elements Q P) H (Option (the_refusal.Refusal C))) (r : the_refusal.Refusal C) → refusal_for_want command ≡ Some r
    → MayFindNoMemory q p w s command → IsAnswered {Z = Z} q p w s command (Refused r) s
refused_for_want {C = C} Z q p w s (commands.Join id asked) r is lacks =
    subst (λ (k : the_refusal.Refusal C). IsAnswered {Z = Z} q p w s (commands.Join id asked) (Refused k) s) (same_Some WantOfMemory r is) lacks
refused_for_want {C = C} Z q p w s (commands.Port command) r is lacks =
    subst (λ (k : the_refusal.Refusal C). IsAnswered {Z = Z} q p w s (commands.Port command) (Refused k) s) (same_Some (want_of (is_making command)) r is)
    (port_refused_for_want Z q p w s command lacks)
refused_for_want Z q p w s commands.ListNodes r is lacks = absurd (none-some r is)
refused_for_want Z q p w s commands.ListClients r is lacks = absurd (none-some r is)
refused_for_want Z q p w s commands.ListServers r is lacks = absurd (none-some r is)
refused_for_want Z q p w s command r is lacks = λ cause. absurd (lacks cause)

pub is_a_listing : {E H V C : Type 0} (command : the_command.Command E H V) → refusal_for_want {C = C} command ≡ None → is_listing command ≡ true
is_a_listing commands.ListNodes is = refl
is_a_listing commands.ListClients is = refl
is_a_listing commands.ListServers is = refl
is_a_listing (commands.Join id asked) is = absurd (none-some _ (sym is))
is_a_listing (commands.Port command) is = absurd (none-some _ (sym is))
is_a_listing (commands.Leave node) is = absurd (none-some _ (sym is))
is_a_listing (commands.DeclareDead node) is = absurd (none-some _ (sym is))
is_a_listing (commands.Cleanup node) is = absurd (none-some _ (sym is))
