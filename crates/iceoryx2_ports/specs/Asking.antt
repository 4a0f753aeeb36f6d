-- Who asked what waits for a server, at which servers a request is open, and for whom a loan is.
use Rattle.std.specs.Prelude.{◌≡◌, ℕ, Bool, true, ◌&&◌}
use Rattle.iox_model.specs.declared.kind.Kind.TheVariants as kinds
use Rattle.iox_model.specs.declared.kind.Kind.TheVariants.{PendingResponse}
use Rattle.iox_model.specs.declared.kind.Role.TheVariants.{Client}
use Rattle.iox_model.specs.Doings.{Receiver}
use Rattle.iox_model.specs.Maps.{has_number}
use Rattle.iox_model.specs.Messages.{Message, names, response_way}
use Rattle.iox_tables.specs.HubStates.Wirings.{numbers_of_role}
use Rattle.iox_hub_laws.specs.Hubs.{HasValue, HubState}
use Rattle.iox_hub_laws.specs.Shown.{shown}
use Rattle.iox_hub_laws.specs.Waiting.{IsWaiting, NothingWaits, client_in, server_of}
use Rattle.iceoryx2_ports.specs.Idling.{IsIdle, client_on}
use Rattle.iceoryx2_ports.specs.Responses.{answerer_in, asker_in, is_open}

-- ---- who asked what waits

-- All that waits for the receiver is that request: it comes from its client, and names its lane and
-- its id.
pub record AllAsk (h : HubState) (x asker : Receiver) : Type 0 where
  pub each :
      (sender : ℕ) (m : Message) → IsWaiting h x sender m
      → client_on sender m.lane m.request ≡ asker

-- For whom nothing waited, all that waits now is that request.
abbrev pub BringsItsRequest : HubState → Receiver → HubState → Type 0
BringsItsRequest old asker new = (x : Receiver) → NothingWaits old x → AllAsk new x asker

-- ---- open requests

-- whether the request is open at that server: its client is connected, and did not give it up
abbrev pub is_open_at : HubState → Receiver → ℕ → Bool
is_open_at h asker server =
    has_number asker.port (numbers_of_role Client h.control.tables.ports)
    && names ((shown h).request_state (response_way asker.port asker.lane server)) asker.request

-- The request is open now at each server that was there.
abbrev pub OpensAtServers : HubState → Receiver → HubState → Type 0
OpensAtServers old asker new =
    (node server : ℕ) → HasValue old node server kinds.Server → is_open_at new asker server ≡ true

-- Each request is open at the same servers as before.
abbrev pub KeepsOpen : HubState → HubState → Type 0
KeepsOpen old new =
    (asker : Receiver) (server : ℕ) → is_open_at new asker server ≡ is_open_at old asker server

-- ---- loans and handles for one request

-- The active request is that request: it is of that server, and as open as the request was there.
pub record IsItsRequest (old : HubState) (x : Receiver) (server : ℕ) (new : HubState) (node n : ℕ)
    : Type 0 where
  pub asker : asker_in new node n ≡ x
  pub answerer : answerer_in new node n ≡ server
  pub opened : is_open new node n ≡ is_open_at old x server

-- If all that waited for the server is one request, the active request is that one.
abbrev pub TakesItsRequest : HubState → ℕ → HubState → ℕ → ℕ → Type 0
TakesItsRequest old server new node n =
    (asker : Receiver) → AllAsk old (server_of server) asker
    → IsItsRequest old asker server new node n

-- The loaned response is for the request that the other value was for: of the same client and
-- server, and as open.
pub record AnswersAs (old : HubState) (node n : ℕ) (new : HubState) (other m : ℕ) : Type 0 where
  pub asker : asker_in new other m ≡ asker_in old node n
  pub answerer : answerer_in new other m ≡ answerer_in old node n
  pub opened : is_open new other m ≡ is_open old node n

-- The loaned request, or the pending response, is for the same request as the other value was; if
-- its client was idle for it, it still is.
pub record AsksAs (old : HubState) (node n : ℕ) (new : HubState) (other m : ℕ) : Type 0 where
  pub asker : client_in new other m ≡ client_in old node n
  pub idle : IsIdle old (client_in old node n) → IsIdle new (client_in new other m)

-- ---- clients that wait

-- The client is idle for each request on each lane.
abbrev pub IsQuiet : HubState → ℕ → Type 0
IsQuiet h client = (lane request : ℕ) → IsIdle h (client_on client lane request)

-- A client that was idle for each request is so for that of its new loan, or of the pending response
-- of its copy.
abbrev pub LendsQuietly : HubState → ℕ → HubState → ℕ → ℕ → Type 0
LendsQuietly old client new node n = IsQuiet old client → IsIdle new (client_in new node n)

-- Each pending response whose client was idle for it has one that still is.
abbrev pub KeepsAskersIdle : HubState → HubState → Type 0
KeepsAskersIdle old new =
    (node n : ℕ) → HasValue old node n PendingResponse → IsIdle old (client_in old node n)
    → IsIdle new (client_in new node n)
