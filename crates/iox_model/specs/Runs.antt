-- Runs: a service as it is created, commands one after another with their replies, and all states.
use Rattle.std.specs.Prelude.{◌≡◌, ℕ, ◌-◌, ◌^◌, Bool, true, false, not, ◌||◌, nat_lt, List, [], ◌∷◌, Option, Some, None, is_some, max, IsTrue, ⊤}
use Rattle.iox_types.specs.declared.identifiers.system_id.UniqueSystemId.{UniqueSystemId}
use Rattle.iox_model.specs.declared.way.RequestState.TheVariants.{Closed}
use Rattle.iox_model.specs.declared.backpressure.BackpressureAction.{BackpressureAction}
use Rattle.iox_model.specs.declared.reply.Refusal.TheVariants.{WantOfMemory, InvalidNodeId, LimitTooLarge}
use Rattle.iox_model.specs.declared.reply.Reply.TheVariants.{Refused}
use Rattle.iox_model.specs.declared.reply.Reply.TheVariants as replies
use Rattle.iox_model.specs.Makings.{IsHubCommand}
use Rattle.iox_model.specs.Settings.{IsShape, Limits, max_slots}
use Rattle.iox_model.specs.States.{Members, Fixed, State}
use Rattle.iox_model.specs.Maps.{or_else, refused_if}
use Rattle.iox_types.specs.Identifiers.{is_node_id}
use Rattle.iox_model.specs.Joins.{node_at, new_node}
use Rattle.iox_model.specs.Services.{IsCommand}
use Rattle.iox_model.specs.Commands.{Refusal, Reply, HubCommand, Command}
use Rattle.iox_model.specs.Values.{Filling, IsFilling, IsRelease}
use Rattle.iox_model.specs.declared.kind.Kind.{Kind}

-- the limits with each 0 raised to 1, but for the expired buffers
abbrev pub raised : Limits → Limits
raised l = record l {
  clients = max 1 l.clients;
  servers = max 1 l.servers;
  nodes = max 1 l.nodes;
  active_requests = max 1 l.active_requests;
  loaned_requests = max 1 l.loaned_requests;
  response_buffer = max 1 l.response_buffer;
  borrowed_responses = max 1 l.borrowed_responses;
  loaned_responses = max 1 l.loaned_responses;
}

-- whether a limit of clients, servers or nodes is greater than max_slots
abbrev pub is_too_large : Limits → Bool
is_too_large l =
    nat_lt max_slots l.clients || (nat_lt max_slots l.servers || nat_lt max_slots l.nodes)

-- why a creation is refused: the first test that fails; `asked` is the first refusal by types, if
-- one applies
abbrev pub creation_refusal : Limits → UniqueSystemId → Option Refusal → Bool → Option Refusal
creation_refusal l id asked memory =
    or_else (refused_if (not (is_node_id id)) InvalidNodeId)
    (or_else asked
    (or_else (refused_if (is_too_large l) LimitTooLarge) (refused_if (not memory) WantOfMemory)))

-- the fixed part of the state at first: nobody made anything yet; the limits of a service and of a
-- hub are raised here
abbrev pub untouched : Limits → (List ℕ → ℕ → ℕ → BackpressureAction) → Fixed
untouched l acts = record {
  limits = raised l;
  acts = acts;
  on_wire = false;
  ports = [];
  ports_made = 0;
  handles = λ n. [];
  next_number = 0;
  handles_made = λ n. 0;
  calls = 0;
  loans = λ p. 0;
  borrowed = λ w. 0;
  expired = λ p. [];
  forgot = λ n. [];
}

-- the state with this fixed part and nothing on any way
abbrev pub at_rest : Members → Fixed → State
at_rest x f = record {
  members = x;
  fixed = f;
  waiting = λ w. [];
  returned = λ w. [];
  in_hand = λ w. [];
  delivered = λ w k. false;
  request_state = λ w. Closed;
}

-- a service as it is created: node 0, and nothing else
abbrev pub created : Limits → (List ℕ → ℕ → ℕ → BackpressureAction) → UniqueSystemId → State
created l acts id =
    at_rest (record { nodes = new_node 0 id ∷ []; joins = 1; closed = false })
    (untouched l acts)

-- what a creation is answered, and the service that it makes where it is not refused
abbrev pub MakesUnless : Option Refusal → State → Reply → Option State → Type 0
MakesUnless (Some r) first reply made = (reply ≡ Refused r) × (made ≡ None)
MakesUnless None first reply made = (reply ≡ replies.Node 0) × (made ≡ Some first)

-- a creation of a service has this reply and leaves this state, or none
abbrev pub IsCreation : Limits → (List ℕ → ℕ → ℕ → BackpressureAction) → UniqueSystemId
    → Option Refusal → Reply → Option State → Type 0
IsCreation l acts id asked reply made =
    (memory : Bool) × MakesUnless (creation_refusal l id asked memory) (created l acts id) reply made

-- from a state, a service's commands may have these replies and lead to that state
abbrev pub IsRun : State → List Command → List Reply → State → Type 0
IsRun s [] [] s' = s' ≡ s
IsRun s (c ∷ cs) (r ∷ rs) s' = (mid : State) × IsCommand s c r mid × IsRun mid cs rs s'
IsRun s [] (r ∷ rs) s' = ⊥
IsRun s (c ∷ cs) [] s' = ⊥

-- ---- every state of a service or a hub

-- One step: a command of the service or one that a node asks of the hub, with its reply; a filling
-- of a loan; or a release of a value.
pub data ServiceStep : Type 0 where
  OfService : (command : Command) (reply : Reply) → ServiceStep
  OfHub : (node : ℕ) (command : HubCommand) (reply : Reply) → ServiceStep
  OfLoan : (node number : ℕ) (filling : Filling) → ServiceStep
  OfValue : (node number : ℕ) (kind : Kind) → ServiceStep

-- from a state, the step may lead to that state
abbrev pub IsServiceStep : State → ServiceStep → State → Type 0
IsServiceStep s (OfService command reply) s' = IsCommand s command reply s'
IsServiceStep s (OfHub node command reply) s' = IsHubCommand s node command reply s'
IsServiceStep s (OfLoan node number filling) s' = IsFilling s node number filling s'
IsServiceStep s (OfValue node number kind) s' = IsRelease s node number kind s'

-- from a state, these steps may come one after another, and lead to that state
abbrev pub IsHistory : State → List ServiceStep → State → Type 0
IsHistory s [] s' = s' ≡ s
IsHistory s (x ∷ xs) s' = (mid : State) × IsServiceStep s x mid × IsHistory mid xs s'

-- The states that a service and its hub can reach, whatever they are asked. Steps lead there from a
-- creation whose shapes make sense, even one that a service would refuse.
pub record IsReachableState (s : State) : Type 0 where
  pub limits : Limits
  pub acts : List ℕ → ℕ → ℕ → BackpressureAction
  pub id : UniqueSystemId
  pub request : IsShape limits.request
  pub response : IsShape limits.response
  pub steps : List ServiceStep
  pub history : IsHistory (created limits acts id) steps s

-- ---- a service's own states

-- whether the node joined and did not leave
abbrev pub is_member : State → ℕ → Bool
is_member s node = is_some (node_at s node)

-- whether the service's own nodes may make the step: its hub is asked only by nodes of the service,
-- living or dead
abbrev pub IsOfMember : State → ServiceStep → Type 0
IsOfMember s (OfHub node command reply) = IsTrue (is_member s node)
IsOfMember s x = ⊤

-- from a state, these steps of the service's own nodes may come one after another, and lead to that
-- state
abbrev pub IsMembersHistory : State → List ServiceStep → State → Type 0
IsMembersHistory s [] s' = s' ≡ s
IsMembersHistory s (x ∷ xs) s' =
    (mid : State) × IsOfMember s x × IsServiceStep s x mid × IsMembersHistory mid xs s'

-- The states of a service: its creation was not refused, and only its nodes asked its hub.
pub record IsServed (s : State) : Type 0 where
  pub limits : Limits
  pub acts : List ℕ → ℕ → ℕ → BackpressureAction
  pub id : UniqueSystemId
  pub request : IsShape limits.request
  pub response : IsShape limits.response
  pub allowed : creation_refusal limits id None true ≡ None
  pub steps : List ServiceStep
  pub history : IsMembersHistory (created limits acts id) steps s
