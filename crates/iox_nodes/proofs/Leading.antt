-- What the calls of nodes lead to, and that it is a service again.
use Rattle.std.specs.Prelude.{◌≡◌, ℕ, ⊤, [], Bool, true, false, not, Option, Result, Ok, Err, IfOk, IsSome, refl}
use Rattle.std.specs.Option.{option_map}
use Rattle.std.proofs.Common.{ap, subst, sym, ◌∙◌}
use Rattle.iox_types.specs.declared.identifiers.system_id.UniqueSystemId.{UniqueSystemId}
use Rattle.iox_model.specs.declared.command.Command.TheVariants.{Cleanup, DeclareDead, Join, Leave}
use Rattle.iox_model.specs.declared.reply.Refusal as the_refusal
use Rattle.iox_model.specs.declared.reply.Reply.TheVariants as replies
use Rattle.iox_model.specs.Commands.{Cause, Command, MissingKey, Reply}
use Rattle.iox_model.specs.Maps.{is_empty}
use Rattle.iox_model.specs.Services.{IsCommand, Releases, numbers_of_node}
use Rattle.iox_model.specs.Settings.{Limits, Shape}
use Rattle.iox_model.specs.States.{Members}
use Rattle.iox_tables.specs.HubStates.States.{Given}
use Rattle.iox_port_commands.specs.Hubs.{HubState, state_of_hub}
use Rattle.iox_openers.specs.Causes.{with_cause}
use Rattle.iox_members.specs.Nodes.{RegisteredMembers, room_in}
use Rattle.iox_members.specs.Registering.{IsSameRegister}
use Rattle.iox_members.specs.Steps.{IsAfterLeaving, IsDeclaredDead, IsJoined, IsLeaving, IsRefusedUnlessDead, answer_in}
use Rattle.iox_port_commands.specs.Applying.{HaveDefaults}
use Rattle.iox_nodes.specs.Served.{IsDoneOrRefused, IsJoin}
use Rattle.iox_nodes.specs.Shown.{IsService, IsServiceWithRoom, given_for, state_of}
use Rattle.iox_nodes.proofs.Reaching.{limits_stay, served_after}

pub if_ok : {A E : Type 0} {P Q : A → Type 0} (r : Result A E) → ((x : A) → P x → Q x) → IfOk r P → IfOk r Q
if_ok (Ok x) f p = f x p
if_ok (Err e) f p = tt

-- some cause
pub any_cause : {C : Type 0} → C → Cause
any_cause c = MissingKey []

pub kept_service : (x x' : Members) (h h' : HubState) (c : Command) (reply : Reply) → IsService x h → IsCommand (state_of x h) c reply (state_of x' h')
    → HaveDefaults h' → IsService x' h'
kept_service x x' h h' c reply service done defaults = record {
  served = served_after (state_of x h) c reply (state_of x' h') service.served done;
  defaults = defaults;
}

-- as many nodes may be registered as before, and as the service may have
pub kept_with_room : (x x' : RegisteredMembers) (h h' : HubState) (c : Command) (reply : Reply) → IsServiceWithRoom x h
    → IsCommand (state_of x.members h) c reply (state_of x'.members h') → IsSameRegister x.registry x'.registry → HaveDefaults h'
    → IsServiceWithRoom x' h'
kept_with_room x x' h h' c reply kept done same defaults = record {
  service = kept_service x.members x'.members h h' c reply kept.service done defaults;
  room = same.1 ∙ kept.room ∙ sym (ap (λ (l : Limits). l.nodes) (limits_stay (state_of x.members h) c reply (state_of x'.members h') done));
}

pub done_service : {C X : Type 0} (x x' : RegisteredMembers) (h h' : HubState) (c : Command) (result : Result X (the_refusal.Refusal C))
    → IsServiceWithRoom x h → IsDoneOrRefused (state_of x.members h) c result (state_of x'.members h') → IsSameRegister x.registry x'.registry
    → HaveDefaults h' → IsServiceWithRoom x' h'
done_service x x' h h' c result kept done same defaults =
    kept_with_room x x' h h' c (answer_in any_cause (λ u. replies.Done) result) kept (done any_cause) same defaults

-- ---- joins and deaths

pub joined_so : {C : Type 0} (x x' : RegisteredMembers) (h : HubState) (id : UniqueSystemId) (asked : Option (the_refusal.Refusal C))
    (result : Result ℕ (the_refusal.Refusal C)) → IsJoined x.members id asked (room_in x) result x'.members
    → room_in x ≡ h.control.tables.settings.nodes → IsJoin (state_of x.members h) id asked result (state_of x'.members h)
joined_so x x' h id asked result done room cause = done cause (state_of x.members h) (sym room)

pub joined_service : {C : Type 0} (x x' : RegisteredMembers) (h : HubState) (id : UniqueSystemId) (asked : Option (the_refusal.Refusal C))
    (result : Result ℕ (the_refusal.Refusal C)) → IsServiceWithRoom x h → IsJoined x.members id asked (room_in x) result x'.members
    → IsSameRegister x.registry x'.registry → IsServiceWithRoom x' h
joined_service x x' h id asked result kept joins same =
    kept_with_room x x' h h (Join id (option_map (with_cause any_cause) asked)) (answer_in any_cause replies.Node result) kept
    (joined_so x x' h id asked result joins kept.room any_cause) same kept.service.defaults

pub death_so : {C : Type 0} (x x' : Members) (h : HubState) (node : ℕ) (result : Result ⊤ (the_refusal.Refusal C)) → IsDeclaredDead x node result x'
    → IsDoneOrRefused (state_of x h) (DeclareDead node) result (state_of x' h)
death_so x x' h node result done cause = done cause (state_of x h)

-- ---- leaves and cleanups

not_twice : (b : Bool) → b ≡ not (not b)
not_twice true = refl
not_twice false = refl

pub leave_so : {C : Type 0} (x x' : Members) (h : HubState) (node : ℕ) (has : Bool) (result : Result ⊤ (the_refusal.Refusal C))
    → IsLeaving x node has result x' → ((y : Given) → has ≡ not (is_empty (numbers_of_node (state_of_hub y h).fixed node)))
    → IsDoneOrRefused (state_of x h) (Leave node) result (state_of x' h)
leave_so x x' h node has result done values cause =
    done cause (state_of x h) (not_twice (is_empty (numbers_of_node (state_of x h).fixed node)) ∙ sym (ap not (values (given_for x))))

pub cleanup_refused : {C : Type 0} (X : Type 0) (x : Members) (h : HubState) (node : ℕ) (r : the_refusal.Refusal C)
    → IsRefusedUnlessDead {C = C} {X = X} x node (Err r) → IsDoneOrRefused {X = X} (state_of x h) (Cleanup node) (Err r) (state_of x h)
cleanup_refused X x h node r is cause = rw (is cause (state_of x h)) (refl, refl)

pub cleanup_done : {C X : Type 0} (x x' : Members) (h h' : HubState) (node : ℕ) (u : X) → IsRefusedUnlessDead {C = C} {X = X} x node (Ok u)
    → ((y : Given) → Releases (state_of_hub y h) node (numbers_of_node (state_of_hub y h).fixed node) (state_of_hub y h'))
    → IsAfterLeaving x node x' → IsDoneOrRefused {C = C} (state_of x h) (Cleanup node) (Ok u) (state_of x' h')
cleanup_done x x' h h' node u is released left cause =
    rw (is cause (state_of x h)) (state_of x h', released (given_for x), refl, left (state_of x h'))

pub same_defaults : (h h' : HubState) → h'.request ≡ h.request → h'.response ≡ h.response → HaveDefaults h → HaveDefaults h'
same_defaults h h' request response defaults = record {
  request = subst (λ (s : Shape). IsSome s.default) (sym request) defaults.request;
  response = subst (λ (s : Shape). IsSome s.default) (sym response) defaults.response;
}
