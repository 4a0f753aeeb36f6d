-- Who lends, why it may not, and what it gets back first.
use Rattle.std.specs.Prelude.{◌≡◌, ◌⊎◌, ℕ, ◌*◌, ◌%◌, ◌^◌, Bool, true, not, ◌&&◌, ◌||◌, nat_le, List, [], length, map, flat_map, Option, Some}
use Rattle.std.specs.List.{range_with_len}
use Rattle.std.specs.Option.{option_map_or}
use Rattle.iox_model.specs.declared.kind.Kind.TheVariants.{ActiveRequest}
use Rattle.iox_model.specs.declared.kind.Role.{Role}
use Rattle.iox_model.specs.declared.kind.Role.TheVariants.{Client, Server}
use Rattle.iox_model.specs.declared.reply.Refusal.TheVariants.{CallsSpent, ExceedsMaxLoans, ExceedsMaxLoanSize, WrongLength}
use Rattle.iox_model.specs.declared.way.Way.{Way}
use Rattle.iox_model.specs.Commands.{Refusal}
use Rattle.iox_model.specs.Maps.{or_else, refused_if}
use Rattle.iox_model.specs.Messages.{request_way, response_way}
use Rattle.iox_model.specs.Outstandings.{kept, kept_after}
use Rattle.iox_model.specs.Settings.{Shape, has_layout, is_count, shape_of}
use Rattle.iox_tables.specs.HubStates.Tables.{HandleState, HubTables, PortState, port_in}
use Rattle.iox_tables.specs.HubStates.States.{Given, limits_of, state_shown}
use Rattle.iox_tables.specs.HubStates.Changes.{emptied_lane, with_lanes}
use Rattle.iox_tables.specs.HubStates.Releases.{lane_of, request_of}
use Rattle.iox_tables.specs.HubStates.Wirings.{IsHandle, numbers_of_role}
use Rattle.iox_tables.specs.HubLoans.Counts.{requests_on_loan, responses_on_loan, responses_to}

-- ---- who lends

-- The number names a client of the node, that is not released.
pub record IsClient (t : HubTables) (node n : ℕ) : Type 0 where
  pub port : PortState
  pub there : port_in t.ports n ≡ Some port
  pub on_node : port.node ≡ node
  pub client : port.role ≡ Client
  pub held : port.held ≡ true

-- The number names an active request of the node, whose server is connected.
pub record IsActive (t : HubTables) (node n : ℕ) : Type 0 where
  pub handle : HandleState
  pub named : IsHandle t node n handle
  pub kind : handle.kind ≡ ActiveRequest
  pub port : PortState
  pub there : port_in t.ports handle.port ≡ Some port
  pub server : port.role ≡ Server

-- The port that lends, and what its loan is for: the client, lane and id of a request.
pub record Lender : Type 0 where
  pub port : PortState
  pub client : ℕ
  pub lane : ℕ
  pub request : ℕ

-- a client lends its next request, on that lane; its id is how many loans it made, modulo 2^62
abbrev pub lender_of_request : PortState → ℕ → Lender
lender_of_request p lane =
    record { port = p; client = p.number; lane = lane; request = p.loans % 2 ^ 62 }

-- a server lends a response to a request that it received
abbrev pub lender_of_response : HubTables → HandleState → PortState → Lender
lender_of_response t h p =
    record { port = p; client = h.client; lane = lane_of t h; request = request_of t h }

-- The number names that client, which lends on that lane, or an active request of that server.
abbrev pub IsLender : HubTables → ℕ → ℕ → ℕ → Lender → Type 0
IsLender t node n lane y =
    ((client : IsClient t node n) × (y ≡ lender_of_request client.port lane))
    ⊎ ((active : IsActive t node n) × (y ≡ lender_of_response t active.handle active.port))

-- ---- why not

-- the shape of what the port sends
abbrev pub shape_in : Given → HubTables → PortState → Shape
shape_in x t p = shape_of (limits_of x t) p.role

-- as many calls as may be are counted already
abbrev pub calls_refusal : HubTables → Option Refusal
calls_refusal t = refused_if (nat_le (2 ^ 56) t.calls) CallsSpent

-- no message of the shape has that length, or none of the port's
abbrev pub size_refusal : PortState → Shape → ℕ → Option Refusal
size_refusal p shape k =
    or_else (refused_if (not (is_count shape k)) WrongLength)
    (refused_if (not ((p.grows || nat_le k p.longest) && has_layout shape k)) ExceedsMaxLoanSize)

-- as many loans as the port may have
abbrev pub count_refusal_by : Role → HubTables → Lender → Option Refusal
count_refusal_by Client t y =
    refused_if (nat_le t.settings.loaned_requests (requests_on_loan t y.port.number))
    ExceedsMaxLoans
-- first those of one request, and then all of a server
count_refusal_by Server t y =
    or_else
    (refused_if
    (nat_le y.port.loaned_responses (responses_to t y.port.number y.client y.request))
    ExceedsMaxLoans)
    (refused_if
    (nat_le (y.port.loaned_responses * t.settings.active_requests * t.settings.clients)
    (responses_on_loan t y.port.number))
    ExceedsMaxLoans)

-- why no loan of so many elements is made, but for the pool and for memory
abbrev pub loan_refusal : Given → HubTables → Lender → ℕ → Option Refusal
loan_refusal x t y k =
    or_else (calls_refusal t)
    (or_else (size_refusal y.port (shape_in x t y.port) k) (count_refusal_by y.port.role t y))

-- ---- what comes back first

-- how many messages the pool of the port of that number has
abbrev pub size_in : List PortState → ℕ → ℕ
size_in ports n = option_map_or (λ p. p.size) (port_in ports n) 0

-- the ways of a server's responses to one client, one on each lane
abbrev pub ways_to_client : HubTables → ℕ → ℕ → List Way
ways_to_client t n client =
    map (λ lane. response_way client lane n) (range_with_len 0 (size_in t.ports client))

-- the ways on which a port of that role sends
abbrev pub ways_by : Role → HubTables → ℕ → List Way
ways_by Client t n = map (request_way n) (numbers_of_role Server t.ports)
ways_by Server t n = flat_map (ways_to_client t n) (numbers_of_role Client t.ports)

-- the tables once the port got back all that was given back
abbrev pub with_got_back : HubTables → PortState → HubTables
with_got_back t p = with_lanes emptied_lane t (ways_by p.role t p.number)

-- then its pool has no message left: all are kept
abbrev pub is_pool_dry : Given → HubTables → PortState → Bool
is_pool_dry x t p =
    nat_le p.size (length (kept (state_shown x (with_got_back t p)) p.number []))

-- the same, told before anything comes back
abbrev pub is_pool_to_be_dry : Given → HubTables → PortState → Bool
is_pool_to_be_dry x t p = nat_le p.size (length (kept_after (state_shown x t) p.number))
