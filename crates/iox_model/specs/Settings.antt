-- The settings of a service: shapes of messages, limits, and what a sender does at a full receiver.
use Rattle.std.specs.Prelude.{◌≡◌, ℕ, ◌-◌, ◌^◌, Bool, true, false, ◌||◌, ◌==◌, nat_lt, List, length, Option, IfSome}
use Rattle.std.specs.Int.{IsPowerOfTwo}
use Rattle.std.specs.Bool.{beq}
use Rattle.iox_types.specs.Parts.{Part, size_of_parts}
use Rattle.iox_model.specs.declared.kind.Role.{Role}
use Rattle.iox_model.specs.declared.kind.Role.TheVariants.{Client, Server}
use Rattle.iox_types.specs.declared.backpressure.BackpressureStrategy.{BackpressureStrategy}
use Rattle.iox_types.specs.declared.backpressure.BackpressureStrategy.TheVariants as strategies
use Rattle.iox_model.specs.declared.backpressure.BackpressureAction.{BackpressureAction}
use Rattle.iox_model.specs.declared.backpressure.BackpressureAction.TheVariants as actions
use Rattle.iox_types.specs.declared.backpressure.AllocationStrategy.{AllocationStrategy}
use Rattle.iox_types.specs.declared.backpressure.AllocationStrategy.TheVariants as allocations

-- the most slots that a table of a service has: for clients, servers, nodes, or messages of a pool
abbrev pub max_slots : ℕ
max_slots = 2 ^ 24 - 2

-- whether the role is a client's
abbrev pub is_client : Role → Bool
is_client Client = true
is_client Server = false

-- whether two roles are the same
abbrev pub same_role : Role → Role → Bool
same_role a b = beq (is_client a) (is_client b)

-- the role of those that a port exchanges messages with
abbrev pub other_role : Role → Role
other_role Client = Server
other_role Server = Client

-- ---- shapes

-- the part's alignment is a power of two
abbrev pub IsPart : Part → Type 0
IsPart p = IsPowerOfTwo p.alignment

-- What the messages of one role are made of.
pub record Shape : Type 0 where
  -- one element, or as many as are asked for
  pub many : Bool
  -- how many words an element has, and those of its default, if it has one
  pub width : ℕ
  pub default : Option (List ℕ)
  -- the default of the user header
  pub user : List ℕ
  -- header, user header and element in memory
  pub header_part : Part
  pub user_part : Part
  pub element_part : Part

-- A shape makes sense: the default of an element has its words, and each part may stand somewhere.
pub record IsShape (x : Shape) : Type 0 where
  pub default : IfSome x.default (λ words. length words ≡ x.width)
  pub header : IsPart x.header_part
  pub user : IsPart x.user_part
  pub element : IsPart x.element_part

-- the bytes of a message with so many elements, wherever its parts have to stand
abbrev pub message_size : Shape → ℕ → ℕ
message_size x k = size_of_parts x.header_part x.user_part x.element_part k

-- whether a message with so many elements can be addressed: it has fewer than 2^63 bytes
abbrev pub has_layout : Shape → ℕ → Bool
has_layout x k = nat_lt (message_size x k) (2 ^ 63)

-- whether a message of this shape may have so many elements: any number, or only 1
abbrev pub is_count : Shape → ℕ → Bool
is_count x k = x.many || (k == 1)

-- ---- limits

-- The settings of a service.
pub record Limits : Type 0 where
  -- how many clients there may be
  pub clients : ℕ
  -- how many servers there may be
  pub servers : ℕ
  -- how many nodes there may be
  pub nodes : ℕ
  -- how many pending responses a client may have
  pub active_requests : ℕ
  -- how many requests a client may have on loan
  pub loaned_requests : ℕ
  -- how many responses may wait for one pending response, from one server
  pub response_buffer : ℕ
  -- how many received responses of one server a pending response may hold
  pub borrowed_responses : ℕ
  -- how many responses a server may have on loan for one request
  pub loaned_responses : ℕ
  -- how many disconnected senders a receiver of that role keeps the messages of
  pub client_expired : ℕ
  pub server_expired : ℕ
  -- whether a full queue of requests, or of responses, pushes out its oldest
  pub request_overflow : Bool
  pub response_overflow : Bool
  -- whether requests may be received that their clients gave up
  pub fire_and_forget : Bool
  -- what a client, or a server, does at a full receiver, unless it has a handler
  pub client_strategy : BackpressureStrategy
  pub server_strategy : BackpressureStrategy
  -- whether messages grow past the greatest length, where a port's maker does not say
  pub client_allocation : AllocationStrategy
  pub server_allocation : AllocationStrategy
  -- what requests, and responses, are made of
  pub request : Shape
  pub response : Shape

-- the shape of the messages that a role sends
abbrev pub shape_of : Limits → Role → Shape
shape_of l Client = l.request
shape_of l Server = l.response

-- the most messages of a sender of that role that may wait on a way, and that one receiver may have
abbrev pub buffer_of : Limits → Role → ℕ
buffer_of l Client = l.active_requests
buffer_of l Server = l.response_buffer

-- how many messages of one way a receiver may have, where a port of this role sends
abbrev pub borrow_limit_of : Limits → Role → ℕ
borrow_limit_of l Client = l.active_requests
borrow_limit_of l Server = l.borrowed_responses

-- whether a full queue of what the role sends gives up its oldest message
abbrev pub overflow_of : Limits → Role → Bool
overflow_of l Client = l.request_overflow
overflow_of l Server = l.response_overflow

-- ---- full receivers

-- whether a full receiver makes a send fail under this strategy
abbrev pub fails_by_strategy : BackpressureStrategy → Bool
fails_by_strategy strategies.DiscardData = false
fails_by_strategy strategies.RetryUntilDelivered = true

-- whether a full receiver makes a send fail, by a handler's action and the strategy
abbrev pub fails_by : BackpressureAction → BackpressureStrategy → Bool
fails_by actions.FollowBackpressureStrategy strategy = fails_by_strategy strategy
fails_by actions.DiscardData strategy = false
fails_by actions.DiscardDataAndFail strategy = true

-- whether messages do not grow under this strategy
abbrev pub is_static : AllocationStrategy → Bool
is_static allocations.Static = true
is_static allocations.BestFit = false
is_static allocations.PowerOfTwo = false
