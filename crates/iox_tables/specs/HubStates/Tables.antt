-- All that a hub has but the words of messages, as plain data.
use Rattle.std.specs.Prelude.{ℕ, Bool, if◌then◌else◌, ◌==◌, List, [], ◌∷◌, ◌++◌, map, Option, Some, None, slice_get}
use Rattle.std.specs.Option.{option_map_or}
use Rattle.iox_laws.specs.UniqueSystemId.{UniqueSystemId}
use Rattle.iox_laws.specs.BackpressureStrategy.{BackpressureStrategy}
use Rattle.iox_laws.specs.AllocationStrategy.{AllocationStrategy}
use Rattle.iox_model.specs.declared.kind.Kind.{Kind}
use Rattle.iox_model.specs.declared.kind.Role.{Role}
use Rattle.iox_lanes.specs.Incomings.{IncomingState}
use Rattle.iox_lanes.specs.Pipes.{PipeState}
use Rattle.iox_lanes.specs.Searches.{LabelsByPlace}

-- ---- messages, by pool and place

-- A message in its place of a pool, but for its words.
pub record SlotState : Type 0 where
  pub serial : ℕ
  pub lane : ℕ
  pub request : ℕ
  pub elements : ℕ
  -- how many lanes and handles have it; it is free where that is 0
  pub holders : ℕ

-- nobody has the message in the slot
abbrev pub is_free : SlotState → Bool
is_free s = s.holders == 0

-- The messages of one port. They stay where their port is gone, while anybody has one.
pub record PoolState : Type 0 where
  pub port : ℕ
  pub node_id : UniqueSystemId
  pub port_id : UniqueSystemId
  pub slots : List SlotState

-- the pool in this place, if it is still there
abbrev pub pool_at : List (Option PoolState) → ℕ → Option PoolState
pool_at pools place = option_map_or (λ o. o) (slice_get pools place) None

-- the slots of the pool in this place
abbrev pub slots_of : List (Option PoolState) → ℕ → List SlotState
slots_of pools place = option_map_or (λ p. p.slots) (pool_at pools place) []

-- a slot that nothing was ever written to
abbrev pub no_slot : SlotState
no_slot = record { serial = 0; lane = 0; request = 0; elements = 0; holders = 0 }

-- the slot of that number, of the pool in this place
abbrev pub slot_at : List (Option PoolState) → ℕ → ℕ → SlotState
slot_at pools place k = option_map_or (λ s. s) (slice_get (slots_of pools place) k) no_slot

-- the port whose pool it is
abbrev pub owner_of : List (Option PoolState) → ℕ → ℕ
owner_of pools place = option_map_or (λ p. p.port) (pool_at pools place) 0

-- what a receiver is told about a message before it takes it
abbrev pub labels_of : List (Option PoolState) → LabelsByPlace
labels_of pools place k =
    record { lane = (slot_at pools place k).lane; request = (slot_at pools place k).request }

-- ---- ports and handles

-- A connected port, and what comes to it.
pub record PortState : Type 0 where
  pub number : ℕ
  pub node : ℕ
  pub role : Role
  pub node_id : UniqueSystemId
  pub id : UniqueSystemId
  -- in which place its pool is, and how many messages that has
  pub pool : ℕ
  pub size : ℕ
  pub longest : ℕ
  pub grows : Bool
  pub strategy : BackpressureStrategy
  pub loaned_responses : ℕ
  -- whether its own value is still there
  pub held : Bool
  -- how many loans succeeded
  pub loans : ℕ
  -- pipes from ports that are gone, and from the connected ports of the other role
  pub expired : IncomingState
  pub incoming : IncomingState

-- A handle of the message in that slot of that pool.
pub record HandleState : Type 0 where
  pub node : ℕ
  pub number : ℕ
  pub kind : Kind
  pub port : ℕ
  pub pool : ℕ
  pub slot : ℕ
  pub client : ℕ
  pub connections : ℕ

-- ---- all tables

-- The numbers and strategies of a service.
pub record HubSettings : Type 0 where
  pub clients : ℕ
  pub servers : ℕ
  pub nodes : ℕ
  pub active_requests : ℕ
  pub loaned_requests : ℕ
  pub response_buffer : ℕ
  pub borrowed_responses : ℕ
  pub loaned_responses : ℕ
  pub client_expired : ℕ
  pub server_expired : ℕ
  pub request_overflow : Bool
  pub response_overflow : Bool
  pub fire_and_forget : Bool
  pub client_strategy : BackpressureStrategy
  pub server_strategy : BackpressureStrategy
  pub client_allocation : AllocationStrategy
  pub server_allocation : AllocationStrategy

-- All that a hub has but the words of messages.
pub record HubTables : Type 0 where
  pub settings : HubSettings
  pub calls : ℕ
  pub next_number : ℕ
  pub ports_made : ℕ
  -- the connected ports, and all handles, oldest first
  pub ports : List PortState
  pub handles : List HandleState
  -- by place; a pool that is gone leaves its place free
  pub pools : List (Option PoolState)

-- ---- what has a number

-- the first of that number
abbrev pub first_by : {A : Type 0} → (A → ℕ) → List A → ℕ → Option A
first_by key [] n = None
first_by key (x ∷ xs) n = if key x == n then Some x else first_by key xs n

-- the first of that number is changed
abbrev pub with_first_by : {A : Type 0} → (A → ℕ) → (A → A) → List A → ℕ → List A
with_first_by key f [] n = []
with_first_by key f (x ∷ xs) n =
    if key x == n then f x ∷ xs else x ∷ with_first_by key f xs n

-- the connected port of that number
abbrev pub port_in : List PortState → ℕ → Option PortState
port_in ports n = first_by (λ p. p.number) ports n

-- the first pipe from that sender
abbrev pub pipe_from : List PipeState → ℕ → Option PipeState
pipe_from ps sender = first_by (λ p. p.sender) ps sender

-- ---- what comes to a port

-- its pipes in the order in which it visits them: those from ports that are gone come first
abbrev pub pipes_of : PortState → List PipeState
pipes_of p = p.expired.pipes ++ p.incoming.pipes

-- the pipes to the port of that number
abbrev pub pipes_to : List PortState → ℕ → List PipeState
pipes_to ports n = option_map_or pipes_of (port_in ports n) []

-- from whom pipes come
abbrev pub senders_of : List PipeState → List ℕ
senders_of ps = map (λ p. p.sender) ps

-- the numbers of ports
abbrev pub numbers_of : List PortState → List ℕ
numbers_of ps = map (λ p. p.number) ps
