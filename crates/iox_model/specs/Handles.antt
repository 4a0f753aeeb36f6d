-- What a number names, and what a port's handles hold.
use Rattle.std.specs.Prelude.{ℕ, ◌+◌, Bool, false, not, ◌&&◌, ◌||◌, if◌then◌else◌, ◌==◌, List, length, filter, Option, Some, None, find}
use Rattle.std.specs.List.{list_any}
use Rattle.std.specs.Option.{option_map_or}
use Rattle.iox_model.specs.declared.kind.Kind.{Kind}
use Rattle.iox_model.specs.declared.kind.Kind.TheVariants.{RequestMutUninit, RequestMut, ResponseMutUninit, ResponseMut, PendingResponse, ActiveRequest, Response}
use Rattle.iox_model.specs.declared.kind.Kind.TheVariants as kinds
use Rattle.iox_model.specs.declared.way.Way.{Way}
use Rattle.iox_model.specs.Settings.{is_client}
use Rattle.iox_model.specs.States.{Port, Handle, Fixed}
use Rattle.iox_model.specs.Messages.{request_way, response_way}
use Rattle.iox_model.specs.Peers.{port_at, node_of_port}

-- ---- kinds

-- a number for each kind
abbrev pub kind_code : Kind → ℕ
kind_code kinds.Client = 0
kind_code kinds.Server = 1
kind_code RequestMutUninit = 2
kind_code RequestMut = 3
kind_code ResponseMutUninit = 4
kind_code ResponseMut = 5
kind_code PendingResponse = 6
kind_code ActiveRequest = 7
kind_code Response = 8

-- whether two kinds are the same
abbrev pub same_kind : Kind → Kind → Bool
same_kind a b = kind_code a == kind_code b

-- whether the kind is a loaned request
abbrev pub is_request_loan : Kind → Bool
is_request_loan k = same_kind k RequestMut || same_kind k RequestMutUninit

-- whether the kind is a loaned response
abbrev pub is_response_loan : Kind → Bool
is_response_loan k = same_kind k ResponseMut || same_kind k ResponseMutUninit

-- what a loan is once it is filled
abbrev pub filled_kind : Kind → Kind
filled_kind k = if is_request_loan k then RequestMut else ResponseMut

-- whether a handle of this kind holds a message of its own port
abbrev pub is_own : Kind → Bool
is_own k = is_request_loan k || (is_response_loan k || same_kind k PendingResponse)

-- whether a handle of this kind holds a received message
abbrev pub is_received : Kind → Bool
is_received k = same_kind k ActiveRequest || same_kind k Response

-- ---- what a number names for a node

-- what a number names: a port or a handle
pub data Subject : Type 0 where
  ThePort : (port : Port) → Subject
  TheHandle : (handle : Handle) → Subject

-- the node's handle of that number
abbrev pub handle_at : Fixed → ℕ → ℕ → Option Handle
handle_at f node n = find (λ h. h.number == n) (f.handles node)

-- what a number names: the port, unless its own value is released, or the handle
abbrev pub port_or_handle : Option Port → Option Handle → Option Subject
port_or_handle (Some p) h = if p.held then Some (ThePort p) else None
port_or_handle None (Some h) = Some (TheHandle h)
port_or_handle None None = None

-- what the number names for the node, if it names anything
abbrev pub subject : Fixed → ℕ → ℕ → Option Subject
subject f node n = port_or_handle (port_at f n) (handle_at f node n)

-- the kind of a port or handle
abbrev pub kind_of : Subject → Kind
kind_of (ThePort p) = if is_client p.role then kinds.Client else kinds.Server
kind_of (TheHandle h) = h.kind

-- the node whose port or handle it is
abbrev pub node_of : Subject → ℕ
node_of (ThePort p) = p.node
node_of (TheHandle h) = h.node

-- whether another node has a handle of that number; on a wire each node has numbers of its own
abbrev pub is_elsewhere : Fixed → ℕ → Bool
is_elsewhere f n =
    not f.on_wire && list_any (λ p. list_any (λ h. h.number == n) (f.handles p.node)) f.ports

-- whether the node has that value: a port or handle of that number and kind, not released
abbrev pub has : Fixed → ℕ → ℕ → Kind → Bool
has f node n kind =
    option_map_or (λ x. (node_of x == node) && same_kind (kind_of x) kind) (subject f node n) false

-- ---- what the handles of a port are

-- the handles of a port
abbrev pub handles_of : Fixed → ℕ → List Handle
handles_of f port = filter (λ h. h.port == port) (f.handles (node_of_port f port))

-- how many handles of that kind a port has
abbrev pub count_of : Fixed → ℕ → (Kind → Bool) → ℕ
count_of f port test = length (filter (λ h. test h.kind) (handles_of f port))

-- whether a loaned request or a pending response of the client has the lane
abbrev pub has_lane : Fixed → ℕ → ℕ → Bool
has_lane f client lane =
    list_any
    (λ h. (is_request_loan h.kind || same_kind h.kind PendingResponse) && (h.lane == lane))
    (handles_of f client)

-- the way on which a handle's received message came
abbrev pub way_of : Handle → Way
way_of h =
    if same_kind h.kind ActiveRequest then request_way h.client h.port
    else response_way h.port h.lane h.message.sender

-- the way whose request state is the handle's own
abbrev pub own_state : Handle → Way
own_state h = response_way h.client h.lane h.port

-- the number that a node's next handle gets
abbrev pub new_number : Fixed → ℕ → ℕ
new_number f node = if f.on_wire then f.next_number + f.handles_made node else f.next_number
