-- Loans of a client, and to an active request, that are within the limits, and of which there are as
-- many as may be.
use Rattle.std.specs.Prelude.{◌≡◌, ℕ, ◌+◌, ◌≤◌, true, Option, Some, None}
use Rattle.std.specs.Option.{option_map_or}
use Rattle.iox_model.specs.Handles.{handle_at}
use Rattle.iox_model.specs.Loans.{fits_size, loans_of_request}
use Rattle.iox_model.specs.Peers.{port_at}
use Rattle.iox_model.specs.Settings.{is_count}
use Rattle.iox_model.specs.States.{Handle, Port}
use Rattle.iox_tables.specs.HubLoans.Counts.{requests_on_loan}
use Rattle.iox_tables.specs.HubLoans.Lenders.{size_refusal}
use Rattle.iox_tables.specs.HubStates.Tables.{PortState, port_in}
use Rattle.iox_hub_laws.specs.Hubs.{HubState}
pub use Rattle.iox_hub_laws.specs.Loans.{CanLend, CanRespond}
use Rattle.iox_hub_laws.specs.Shown.{shown}
use Rattle.iceoryx2_ports.specs.Calls.{HasCallsLeft}

-- ---- requests

-- The client's messages may have so many elements.
pub record LendsLength (h : HubState) (client k : ℕ) : Type 0 where
  pub sized :
      (p : PortState) → port_in h.control.tables.ports client ≡ Some p
      → size_refusal p h.request k ≡ None

-- Calls are left, and the client's messages may have so many elements, but it has as many requests
-- on loan as it may.
pub record HasAllLoans (h : HubState) (client k : ℕ) : Type 0 where
  pub calls : HasCallsLeft h
  pub length : LendsLength h client k
  pub loans :
      h.control.tables.settings.loaned_requests ≤ requests_on_loan h.control.tables client

-- The client, which is new, has no request on loan. It may have as many as clients may.
pub record LendsNone (old : HubState) (client : ℕ) (new : HubState) : Type 0 where
  pub count : requests_on_loan new.control.tables client ≡ 0
  pub limit :
      new.control.tables.settings.loaned_requests ≡ old.control.tables.settings.loaned_requests

-- The client, which may lend so many elements, has one more request on loan. It may have as many as
-- before.
pub record LendsOneMore (old : HubState) (client k : ℕ) (new : HubState) : Type 0 where
  pub count :
      requests_on_loan new.control.tables client ≡ requests_on_loan old.control.tables client + 1
  pub limit :
      new.control.tables.settings.loaned_requests ≡ old.control.tables.settings.loaned_requests
  pub length : LendsLength new client k

-- So many elements are no more than the client's messages have room for.
abbrev pub LendsAtMostLongest : HubState → ℕ → ℕ → Type 0
LendsAtMostLongest h client k =
    (p : PortState) → port_in h.control.tables.ports client ≡ Some p → k ≤ p.longest

-- ---- responses

-- the server of the node's active request of that number
abbrev pub server_in : HubState → ℕ → ℕ → Option Port
server_in h node n =
    option_map_or (λ (active : Handle). port_at (shown h).fixed active.port)
    (handle_at (shown h).fixed node n) None

-- how many responses to that request it has on loan
abbrev pub responses_lent : HubState → ℕ → ℕ → ℕ
responses_lent h node n =
    option_map_or (loans_of_request (shown h).fixed) (handle_at (shown h).fixed node n) 0

-- how many it may have on loan to one request
abbrev pub most_responses : HubState → ℕ → ℕ → ℕ
most_responses h node n =
    option_map_or (λ (server : Port). server.loaned_responses) (server_in h node n) 0

-- The server may answer that request with so many elements.
pub record RespondsLength (h : HubState) (node n k : ℕ) : Type 0 where
  pub count : is_count h.response k ≡ true
  pub size :
      (server : Port) → server_in h node n ≡ Some server
      → fits_size server h.response k ≡ true

-- Calls are left, and the server may answer that request with so many elements, but it has as many
-- responses to it on loan as it may.
pub record HasAllResponses (h : HubState) (node n k : ℕ) : Type 0 where
  pub calls : HasCallsLeft h
  pub length : RespondsLength h node n k
  pub loans : most_responses h node n ≤ responses_lent h node n

-- The server, which may answer that request with so many elements, has one more response to it on
-- loan. It may have as many as before.
pub record RespondsOneMore (old : HubState) (node n k : ℕ) (new : HubState) : Type 0 where
  pub count : responses_lent new node n ≡ responses_lent old node n + 1
  pub limit : most_responses new node n ≡ most_responses old node n
  pub length : RespondsLength new node n k

-- So many elements are no more than the server's messages have room for.
abbrev pub RespondsAtMostLongest : HubState → ℕ → ℕ → ℕ → Type 0
RespondsAtMostLongest h node n k =
    (server : Port) → server_in h node n ≡ Some server → k ≤ server.longest
