-- A service as it is made, and why none is.
use Rattle.std.specs.Prelude.{◌≡◌, [], true, false, Option, Some, None, IsSome, Ok, Err, refl}
use Rattle.std.proofs.Common.{ap, ap₂, subst, sym, ◌∙◌}
use Rattle.iox_types.specs.declared.identifiers.system_id.UniqueSystemId.{UniqueSystemId}
use Rattle.iox_types.specs.Identifiers.{is_node_id}
use Rattle.iox_model.specs.declared.reply.Refusal as the_refusal
use Rattle.iox_model.specs.declared.reply.Refusal.TheVariants.{InvalidNodeId, LimitTooLarge, WantOfMemory}
use Rattle.iox_port_commands.specs.HandlerWords.{action_in}
use Rattle.iox_model.specs.Runs.{IsServed, created, creation_refusal, is_too_large}
use Rattle.iox_model.specs.Settings.{IsShape, Limits, Shape}
use Rattle.iox_model.specs.States.{Members}
use Rattle.iox_tables.specs.HubStates.Tables.{HubSettings}
use Rattle.iox_tables.proofs.HubMaking.Starting.{each_start_is_shown}
use Rattle.iox_port_commands.specs.Hubs.{HubState, IsReached, given_by, state_of_hub}
use Rattle.iox_port_commands.specs.Starts.{new_hub, started}
use Rattle.iox_members.specs.Nodes.{RegisteredMembers, first_members, room_in}
use Rattle.iox_members.specs.Registers.{room_of}
use Rattle.iox_port_commands.specs.Applying.{HaveDefaults}
use Rattle.iox_nodes.specs.Served.{IsCreated}
use Rattle.iox_nodes.specs.Shown.{IsService, ServiceTables, given_for, limits_for, service_of, state_of}
use Rattle.iox_nodes.proofs.Reaching.{requests_make_sense, responses_make_sense}

pub first_state : (s : HubSettings) (q p : Shape) (id : UniqueSystemId) (x : Members) (h : HubState) → x ≡ first_members id → h ≡ new_hub s q p
    → state_of x h ≡ created (limits_for s q p) action_in id
first_state s q p id x h members hub =
    ap₂ state_of members hub
    ∙ (each_start_is_shown (given_by (given_for (first_members id)) (new_hub s q p)) (started s)).state (limits_for s q p) refl

pub first_service : (s : HubSettings) (q p : Shape) (id : UniqueSystemId) (x : Members) (h : HubState)
    → x ≡ first_members id → h ≡ new_hub s q p → IsReached h → is_node_id id ≡ true → is_too_large (limits_for s q p) ≡ false
    → IsSome q.default → IsSome p.default → IsService x h
first_service s q p id x h members hub reached valid small requests responses = record {
  served = subst IsServed (sym (first_state s q p id x h members hub)) (record {
    limits = limits_for s q p;
    acts = action_in;
    id = id;
    request = subst (λ (v : HubState). IsShape v.request) hub (requests_make_sense (state_of_hub reached.0 h) reached.1);
    response = subst (λ (v : HubState). IsShape v.response) hub (responses_make_sense (state_of_hub reached.0 h) reached.1);
    allowed = allowed;
    steps = [];
    history = refl;
  });
  defaults = subst HaveDefaults (sym hub) (record { request = requests; response = responses });
}
  where
    allowed : creation_refusal (limits_for s q p) id None true ≡ None
    allowed = rw valid (rw small refl)

-- as many nodes may be registered as the service may have
pub first_room : (s : HubSettings) (q p : Shape) (x : RegisteredMembers) (h : HubState) → room_in x ≡ room_of s.nodes → h ≡ new_hub s q p
    → room_in x ≡ h.control.tables.settings.nodes
first_room s q p x h room hub =
    room ∙ sym (ap (λ (v : HubState). v.control.tables.settings.nodes) hub)

-- ---- why none is made

pub creation_invalid : {C : Type 0} (l : Limits) (id : UniqueSystemId) (asked : Option (the_refusal.Refusal C)) → is_node_id id ≡ false
    → IsCreated l id asked (Err InvalidNodeId)
creation_invalid l id asked valid cause = (true, rw valid (refl, refl))

pub creation_asked : {C : Type 0} (l : Limits) (id : UniqueSystemId) (asked : Option (the_refusal.Refusal C)) (r : the_refusal.Refusal C)
    → is_node_id id ≡ true → asked ≡ Some r → IsCreated l id asked (Err r)
creation_asked l id asked r valid is cause = (true, rw valid (rw is (refl, refl)))

pub creation_large : {C : Type 0} (l : Limits) (id : UniqueSystemId) (asked : Option (the_refusal.Refusal C)) → is_node_id id ≡ true
    → asked ≡ None → is_too_large l ≡ true → IsCreated l id asked (Err LimitTooLarge)
creation_large l id asked valid is large cause = (true, rw valid (rw is (rw large (refl, refl))))

pub creation_wants : {C : Type 0} (l : Limits) (id : UniqueSystemId) (asked : Option (the_refusal.Refusal C)) → is_node_id id ≡ true
    → asked ≡ None → is_too_large l ≡ false → IsCreated l id asked (Err WantOfMemory)
creation_wants l id asked valid is small cause = (false, rw valid (rw is (rw small (refl, refl))))

pub creation_done : {C : Type 0} (l : Limits) (id : UniqueSystemId) (asked : Option (the_refusal.Refusal C)) (v : ServiceTables)
    → is_node_id id ≡ true → asked ≡ None → is_too_large l ≡ false → service_of v ≡ created l action_in id → IsCreated {C = C} l id asked (Ok v)
creation_done l id asked v valid is small made cause = (true, rw valid (rw is (rw small (refl, ap Some made))))
