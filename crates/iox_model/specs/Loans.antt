-- Loans: their tests in order, and the handle that they make.
use Rattle.std.specs.Prelude.{ℕ, ◌*◌, ◌%◌, ◌^◌, Bool, not, ◌&&◌, ◌||◌, if◌then◌else◌, ◌==◌, nat_le, List, length, map, filter, flat_map, Option, Some, None}
use Rattle.iox_model.specs.declared.kind.Role.{Role}
use Rattle.iox_model.specs.declared.kind.Role.TheVariants.{Client, Server}
use Rattle.iox_model.specs.declared.kind.Kind.{Kind}
use Rattle.iox_model.specs.declared.kind.Kind.TheVariants.{RequestMutUninit, RequestMut, ResponseMutUninit, ResponseMut}
use Rattle.iox_model.specs.declared.way.Way.{Way}
use Rattle.iox_model.specs.declared.reply.Refusal.TheVariants.{ExceedsMaxLoanSize, ExceedsMaxLoans, WantOfMemory}
use Rattle.iox_model.specs.Doings.{refused, Doing}
use Rattle.iox_model.specs.Settings.{has_layout, shape_of, Shape}
use Rattle.iox_model.specs.States.{Port, Handle, Fixed, State}
use Rattle.iox_model.specs.Handles.{is_request_loan, is_response_loan, handles_of, count_of, new_number}
use Rattle.iox_model.specs.Maps.{or_else, refused_if}
use Rattle.iox_model.specs.Commands.{Refusal}
use Rattle.iox_model.specs.Messages.{request_way, Message}
use Rattle.iox_model.specs.Outstandings.{kept_after, is_dry}
use Rattle.iox_model.specs.Peers.{others, lanes_to}

-- what is open as a call begins: the lane of a request, and whether memory is there
pub record Choice : Type 0 where
  pub lane : ℕ
  pub memory : Bool

-- what a loan is asked for: how many elements, and what is filled already
pub record Order : Type 0 where
  pub elements : ℕ
  pub filled : ℕ
  pub payload : List ℕ
  -- whether it is to be sent in the same call
  pub copies : Bool
  -- whether it is handed out unfilled
  pub uninit : Bool

-- the kind of a loan of this role, filled or unfilled
abbrev pub kind_of_loan : Role → Bool → Kind
kind_of_loan Client uninit = if uninit then RequestMutUninit else RequestMut
kind_of_loan Server uninit = if uninit then ResponseMutUninit else ResponseMut

-- the port's next message, for the request of that lane and id
abbrev pub next_message : Fixed → Port → Order → ℕ → ℕ → Message
next_message f p o lane request = record {
  sender = p.number;
  serial = f.loans p.number;
  node_id = p.node_id;
  port_id = p.id;
  lane = lane;
  request = request;
  elements = o.elements;
  user = (shape_of f.limits p.role).user;
  payload = o.payload;
}

-- a loan of the port, for the request of that client, lane and id
abbrev pub loan_of : Fixed → Port → Order → ℕ → ℕ → ℕ → Handle
loan_of f p o client lane request = record {
  node = p.node;
  number = new_number f p.node;
  kind = kind_of_loan p.role o.uninit;
  port = p.number;
  message = next_message f p o lane request;
  filled = o.filled;
  client = client;
  lane = lane;
  request = request;
  connections = 0;
}

-- the id of a client's next request: how many loans it made, modulo 2^62
abbrev pub next_request : Fixed → ℕ → ℕ
next_request f client = f.loans client % 2 ^ 62

-- whether the port may have a message of that length: it has a layout, and is not too long or grows
abbrev pub fits_size : Port → Shape → ℕ → Bool
fits_size p shape k = (p.grows || nat_le k p.longest) && has_layout shape k

-- how many loans a server has of responses to this request
abbrev pub loans_of_request : Fixed → Handle → ℕ
loans_of_request f h =
    length (filter
    (λ l. is_response_loan l.kind && ((l.client == h.client) && (l.request == h.request)))
    (handles_of f h.port))

-- why a request is not lent: its size, then the counts of loans
abbrev pub request_loan_refusal : Fixed → Port → ℕ → Option Refusal
request_loan_refusal f p k =
    or_else (refused_if (not (fits_size p f.limits.request k)) ExceedsMaxLoanSize)
    (refused_if (nat_le f.limits.loaned_requests (count_of f p.number is_request_loan))
    ExceedsMaxLoans)

-- why a response is not lent: its size, the loans of its request, those of the port
abbrev pub response_loan_refusal : Fixed → Handle → Port → ℕ → Option Refusal
response_loan_refusal f h p k =
    or_else (refused_if (not (fits_size p f.limits.response k)) ExceedsMaxLoanSize)
    (or_else (refused_if (nat_le p.loaned_responses (loans_of_request f h)) ExceedsMaxLoans)
    (refused_if
    (nat_le (p.loaned_responses * f.limits.active_requests * f.limits.clients)
    (count_of f p.number is_response_loan))
    ExceedsMaxLoans))

-- a loan may be refused for want of memory only where the pool will not refuse it
abbrev pub memory_refusal : State → Choice → ℕ → Option Refusal
memory_refusal s c port =
    refused_if (not c.memory && not (is_dry s.fixed port (kept_after s port))) WantOfMemory

-- the ways on which a client's loan gets back: those to all servers that the node did not forget
abbrev pub request_ways : Fixed → ℕ → ℕ → List Way
request_ways f node client = map (request_way client) (others f node Server)

-- the ways on which a server's loan gets back: all lanes of all clients that the node did not
-- forget
abbrev pub response_ways : Fixed → ℕ → ℕ → List Way
response_ways f node server = flat_map (lanes_to f server) (others f node Client)

-- the ways on which a loan gets back
abbrev pub lending_ways : Fixed → Handle → List Way
lending_ways f h =
    if is_request_loan h.kind then request_ways f h.node h.port else response_ways f h.node h.port

-- the call continues unless there is a refusal
abbrev pub unless_refused : Option Refusal → Doing → Doing
unless_refused (Some r) d = refused r
unless_refused None d = d
