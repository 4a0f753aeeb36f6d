-- Which requests stay open over a call.
use Rattle.std.specs.Prelude.{◌≡◌, ℕ, true}
use Rattle.iox_model.specs.declared.kind.Kind.{Kind}
use Rattle.iox_model.specs.declared.kind.Kind.TheVariants.{ActiveRequest, PendingResponse, Server}
use Rattle.iox_model.specs.Doings.{Receiver}
use Rattle.iox_hub_laws.specs.Hubs.{HasValue, HubState}
use Rattle.iox_hub_laws.specs.Waiting.{client_in}
use Rattle.iceoryx2_ports.specs.Asking.{AnswersAs, KeepsOpen, is_open_at}
use Rattle.iceoryx2_ports.specs.Responses.{answerer_in, asker_in, is_open}

-- Each request is open at the same servers as before, and each active request is of the same
-- server, for the same request, and as open.
pub record KeepsRequests (old new : HubState) : Type 0 where
  pub opened : KeepsOpen old new
  pub active :
      (node n : ℕ) → HasValue old node n ActiveRequest → AnswersAs old node n new node n

-- Where its server is not released, the send of the node's loaned response closes no request: else
-- the server may go with the last of its loans.
abbrev pub ClosesNone : HubState → ℕ → ℕ → HubState → Type 0
ClosesNone old node n new =
    (owner : ℕ) → HasValue old owner (answerer_in old node n) Server → KeepsRequests old new

-- ---- releases

-- The node's value of that number and kind is the request's at that server: its pending response,
-- or the server's active request.
abbrev pub IsOfRequest : HubState → ℕ → ℕ → Kind → Receiver → ℕ → Type 0
IsOfRequest h node n PendingResponse asker server = client_in h node n ≡ asker
IsOfRequest h node n ActiveRequest asker server =
    (asker_in h node n ≡ asker) × (answerer_in h node n ≡ server)
IsOfRequest h node n kind asker server = ⊥

-- Once the node's value of that number and kind is released, each other open request is open still:
-- one that a pending response awaits, at a server that is there. Each pending response and each
-- active request is for the same request.
pub record LeavesOpen (old : HubState) (node n : ℕ) (kind : Kind) (new : HubState) : Type 0 where
  pub opened :
      (waiter m owner server : ℕ) → HasValue new waiter m PendingResponse
      → HasValue new owner server Server
      → (IsOfRequest old node n kind (client_in old waiter m) server → ⊥)
      → is_open_at old (client_in old waiter m) server ≡ true
      → is_open_at new (client_in new waiter m) server ≡ true
  pub client :
      (a m : ℕ) → HasValue new a m PendingResponse → client_in new a m ≡ client_in old a m
  pub asker :
      (a m : ℕ) → HasValue new a m ActiveRequest → asker_in new a m ≡ asker_in old a m
  pub answerer :
      (a m : ℕ) → HasValue new a m ActiveRequest → answerer_in new a m ≡ answerer_in old a m
  pub active :
      (a m waiter i owner : ℕ) → HasValue new a m ActiveRequest
      → HasValue new waiter i PendingResponse → client_in old waiter i ≡ asker_in old a m
      → HasValue new owner (answerer_in old a m) Server
      → (IsOfRequest old node n kind (asker_in old a m) (answerer_in old a m) → ⊥)
      → is_open old a m ≡ true → is_open new a m ≡ true
